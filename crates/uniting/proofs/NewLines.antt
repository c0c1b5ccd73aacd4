-- The second sheet's lines that are new, one line after the other: how many, how long, and as they are written.
use Prim.Native.Nat.{ℕ, ◌+◌, ◌-◌, ◌≤◌, ◌<◌}
use mathlib.Core.Path.{◌≡◌, sym, ap, ◌∙◌, subst}
use mathlib.Core.Bool.{Bool, true, false, cond, not}
use mathlib.Core.List.{List, [], ◌∷◌, ◌++◌, append-nil}
use native.Mathlib.Omega.{arith}
use lib.ListN.{length, get_or, set, take, drop, length-append, take-append-drop}
use lib.Seq.{take_all}
use Rattle.theory.specs.Lists.{any, same, concat_map}
use Rattle.theory.specs.Bytes.{LF}
use Rattle.theory.proofs.Lists.{concat_map-append, select-append}
use Rattle.text.specs.Put.{put, take_more, put-run, cursor-run, put-cursor, cursor-more, put-none}
use Rattle.sheet_merging.specs.Sheets.{ended}
use Rattle.sheet_merging.specs.Merging.{new_to}
use Rattle.uniting.specs.declared.joins.Lines.{Lines}
use Rattle.uniting.specs.declared.runs.Run.{Run}
use Rattle.uniting.specs.Runs.{RunOf, run_lines}
use Rattle.uniting.specs.Joins.{new_text, Measured, JoinOf}
use Rattle.uniting.proofs.LineRuns.{lines-few, run_length, run-bytes}

-- one line
module _ (X : List (List ℕ)) (l : List ℕ) where
  old-line : any (same l) X ≡ true → new_to same X (l ∷ []) ≡ []
  old-line e = ap (λ (b : Bool). cond (not b) (l ∷ []) []) e

  new_line : any (same l) X ≡ false → new_to same X (l ∷ []) ≡ l ∷ []
  new_line e = ap (λ (b : Bool). cond (not b) (l ∷ []) []) e

  -- its count and its bytes
  old-measured : any (same l) X ≡ true → (length (new_to same X (l ∷ [])) ≡ 0) × (length (new_text X (l ∷ [])) ≡ 0)
  old-measured e = (ap length (old-line e), ap (λ (ls : List (List ℕ)). length (concat_map ended ls)) (old-line e))

  new-text : any (same l) X ≡ false → new_text X (l ∷ []) ≡ l ++ (LF ∷ [])
  new-text e = ap (concat_map ended) (new_line e) ∙ append-nil (ended l)

  pub new-measured : any (same l) X ≡ false → (length (new_to same X (l ∷ [])) ≡ 1) × (length (new_text X (l ∷ [])) ≡ length l + 1)
  new-measured e = (ap length (new_line e), ap length (new-text e) ∙ length-append l (LF ∷ []))

  -- nothing is written of an old line
  pub old-written : (out : List ℕ) (at : ℕ) → any (same l) X ≡ true → (out ≡ put out at (new_text X (l ∷ []))) × (at ≡ at + length (new_text X (l ∷ [])))
  old-written out at e =
      (sym (ap (λ (ls : List (List ℕ)). put out at (concat_map ended ls)) (old-line e) ∙ put-none out at), omega (arith, (old-measured e).1))

  -- the line and its LF are written of a new one
  pub new-written : (out out' : List ℕ) (at e : ℕ) → any (same l) X ≡ false → at + length (new_text X (l ∷ [])) ≤ length out → out' ≡ put out at l → e ≡ at + length l
      → (set out' e LF ≡ put out at (new_text X (l ∷ []))) × (e + 1 ≡ at + length (new_text X (l ∷ [])))
  new-written out out' at e new room p n =
      (put-cursor out out' at e l (new_text X (l ∷ [])) LF p n (omega (arith, (new-measured new).1)) (sym (new-text new)), cursor-more at e l (new_text X (l ∷ [])) LF n (sym (new-text new)))

-- all lines
pub whole_run : (R : List (List ℕ)) (i : ℕ) → length R ≤ i → take i R ≡ R
whole_run R i le = take_all i R le

pub whole-measured : (X R : List (List ℕ)) (i : ℕ) (a : Lines) → length R ≤ i → Measured (new_to same X (take i R)) a → Measured (new_to same X R) a
whole-measured X R i a le m = subst (λ (S : List (List ℕ)). Measured (new_to same X S) a) (whole_run R i le) m

-- one line more
module _ (X R : List (List ℕ)) (i : ℕ) (lt : i < length R) where
  new-more : new_to same X (take (i + 1) R) ≡ new_to same X (take i R) ++ new_to same X (get_or R i [] ∷ [])
  new-more = ap (new_to same X) (sym (take_more R i [] lt)) ∙ select-append (λ y. not (any (same y) X)) (take i R) (get_or R i [] ∷ [])

  pub text-more : new_text X (take (i + 1) R) ≡ new_text X (take i R) ++ new_text X (get_or R i [] ∷ [])
  text-more = ap (concat_map ended) new-more ∙ concat_map-append ended (new_to same X (take i R)) (new_to same X (get_or R i [] ∷ []))

  pub measured-more : (a b : Lines) (l : List ℕ) → l ≡ get_or R i [] → Measured (new_to same X (take i R)) a
      → b.count ≡ a.count + length (new_to same X (l ∷ [])) → b.bytes ≡ a.bytes + length (new_text X (l ∷ []))
      → Measured (new_to same X (take (i + 1) R)) b
  measured-more a b l e m c k =
      let one : List (List ℕ) = new_to same X (get_or R i [] ∷ []) in
      record {
        count = omega (arith, c, m.count, ap (λ (w : List ℕ). length (new_to same X (w ∷ []))) e, ap length new-more, length-append (new_to same X (take i R)) one);
        bytes = omega (arith, k, m.bytes, ap (λ (w : List ℕ). length (new_text X (w ∷ []))) e, ap length text-more, length-append (new_text X (take i R)) (concat_map ended one));
      }

  -- what is written so far and the next line are within all
  pub new-fits : (l : List ℕ) → l ≡ get_or R i [] → length (new_text X (take i R)) + length (new_text X (l ∷ [])) ≤ length (new_text X R)
  new-fits l e =
      let all : new_text X R ≡ new_text X (take (i + 1) R) ++ new_text X (drop (i + 1) R) =
      ap (new_text X) (sym (take-append-drop (i + 1) R)) ∙ ap (concat_map ended) (select-append (λ y. not (any (same y) X)) (take (i + 1) R) (drop (i + 1) R))
      ∙ concat_map-append ended (new_to same X (take (i + 1) R)) (new_to same X (drop (i + 1) R)) in
      omega (
        arith,
        ap length all,
        length-append (new_text X (take (i + 1) R)) (new_text X (drop (i + 1) R)),
        ap length text-more,
        length-append (new_text X (take i R)) (new_text X (get_or R i [] ∷ [])),
        ap (λ (w : List ℕ). length (new_text X (w ∷ []))) e,
      )

  -- the next line is written after those before it
  pub more-written : (l : List ℕ) → l ≡ get_or R i [] → (out out' out'' : List ℕ) (at e e' : ℕ) → e + length (new_text X (l ∷ [])) ≤ length out
      → out' ≡ put out at (new_text X (take i R)) → e ≡ at + length (new_text X (take i R))
      → out'' ≡ put out' e (new_text X (l ∷ [])) → e' ≡ e + length (new_text X (l ∷ []))
      → (out'' ≡ put out at (new_text X (take (i + 1) R))) × (e' ≡ at + length (new_text X (take (i + 1) R)))
  more-written l q out out' out'' at e e' room p n s m =
      let before : List ℕ = new_text X (take i R) in
      let next : List ℕ = new_text X (l ∷ []) in
      let whole : before ++ next ≡ new_text X (take (i + 1) R) = ap (λ (w : List ℕ). before ++ new_text X (w ∷ [])) q ∙ sym text-more in
      (put-run out out' out'' at e before next p n s room ∙ ap (put out at) whole, cursor-run at e e' before next n m ∙ ap (λ (t : List ℕ). at + length t) whole)

-- lines of both sheets made one
module _ (first second : List ℕ) (own other : Run) (h : RunOf first own) (k : RunOf second other) where
  abbrev X : List (List ℕ)
  X = run_lines first own

  abbrev R : List (List ℕ)
  R = run_lines second other

  pub own-bytes : own.to - own.from ≤ 16384
  own-bytes = omega (arith, h.to.within, h.lined.short)

  pub own-count : own.count ≤ 16384
  own-count = omega (arith, h.within, h.lined.short, lines-few first)

  pub other-count : other.count ≤ 16384
  other-count = omega (arith, k.within, k.lined.short, lines-few second)

  pub join-measured : (a : Lines) → Measured (new_to same X R) a → a.count ≤ other.count → a.bytes ≤ length second
      → JoinOf first second (record { first = own; second = other; all = record { count = own.count + a.count; bytes = own.to - own.from + a.bytes } })
  join-measured a m c b =
      let new : List (List ℕ) = new_to same X R in
      record {
        own = h;
        other = k;
        measured =
            record {
              count = omega (arith, length-append X new, run_length first own h, m.count);
              bytes = omega (arith, ap length (concat_map-append ended X new), length-append (concat_map ended X) (concat_map ended new), (run-bytes first own h).1, m.bytes);
            };
        few = omega (arith, own-count, other-count, c);
        short = omega (arith, own-bytes, b, k.lined.short);
      }
