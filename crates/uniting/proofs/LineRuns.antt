-- Laws of runs: one line after the other, what is said of a run's lines so far.
use Prim.Native.Nat.{ℕ, zero, suc, ◌+◌, ◌-◌, ◌≤◌, ◌<◌}
use mathlib.Core.Path.{◌≡◌, refl, sym, ap, ◌∙◌, subst}
use mathlib.Core.Bool.{Bool, true, false, cond, not, ◌&&◌, ◌||◌}
use mathlib.Core.Option.{Option, none, some, some-injective}
use mathlib.Core.List.{List, [], ◌∷◌, ◌++◌, append_assoc}
use native.Mathlib.Numerals.{add-one}
use native.Mathlib.Omega.{arith}
use lib.Dec.{eqb, ltb}
use lib.ListN.{length, get_or, take, drop, length-append, length-drop, drop_of_length-le, take-append-drop}
use lib.Seq.{drop-cons, drop-drop, get_or-take, get_or-drop, length-take-le, take_at}
use Rattle.theory.specs.Lists.{any, all, concat_map}
use Rattle.theory.specs.Bytes.{LF}
use Rattle.theory.specs.Lines.{Cut, add_byte, cut_line}
use Rattle.theory.specs.DueLines.{rest_or, from_line}
use Rattle.theory.proofs.Tests.{ltb-true, and_left, and_right, and-join}
use Rattle.theory.proofs.Lists.{all-at, concat_map-append}
use Rattle.theory.proofs.Lines.{in_line, cut_line-is}
use Rattle.text.specs.Lines.{part, LineEnd}
use Rattle.columns.specs.Lines.{LineStart}
use Rattle.sheet_merging.specs.Sheets.{cut_lines, ended}
use Rattle.uniting.specs.declared.runs.Run.{Run}
use Rattle.uniting.specs.Runs.{Lined, StartsAt, RunOf, run_lines}

-- no line of a text has an LF in it
lines-in_line : (t : List ℕ) → all (all in_line) (cut_lines t) ≡ true
lines-in_line [] = refl
lines-in_line (b ∷ bs) = go (eqb b LF) refl (cut_lines bs) (lines-in_line bs)
  where
    go : (q : Bool) → eqb b LF ≡ q → (r : List (List ℕ)) → all (all in_line) r ≡ true → all (all in_line) (cond q ([] ∷ r) (add_byte b r)) ≡ true
    go true e r h = h
    go false e [] h = and-join (all in_line (b ∷ [])) true (and-join (in_line b) true (ap not e) refl) refl
    go false e (w ∷ ws) h =
        and-join (all in_line (b ∷ w)) (all (all in_line) ws) (and-join (in_line b) (all in_line w) (ap not e) (and_left (all in_line w) (all (all in_line) ws) h)) (and_right (all in_line w) (all (all in_line) ws) h)

-- what stands after n lines of many
lines-after : (ls : List (List ℕ)) → all (all in_line) ls ≡ true → (n : ℕ) → n ≤ length ls → from_line n (concat_map ended ls) ≡ concat_map ended (drop n ls)
lines-after ls h zero k = refl
lines-after [] h (suc n) k = absurd (omega (arith, k))
lines-after (l ∷ ls) h (suc n) k =
    let rest : List ℕ = concat_map ended ls in
    ap (λ (o : Option Cut). from_line n (rest_or o)) (ap cut_line (append_assoc l (LF ∷ []) rest) ∙ cut_line-is l rest (and_left (all in_line l) (all (all in_line) ls) h))
    ∙ lines-after ls (and_right (all in_line l) (all (all in_line) ls) h) n (omega (arith, k))

-- the place after n lines is where the next starts
pub line-starts : (text : List ℕ) → Lined text → (n at : ℕ) → n ≤ length (cut_lines text) → LineStart text n at → StartsAt text n at
line-starts text h n at k s =
    record { within = s.within; here = sym s.here ∙ ap (from_line n) (sym h.whole) ∙ lines-after (cut_lines text) (lines-in_line text) n k }

-- a text has no more lines than bytes
pub lines-few : (t : List ℕ) → length (cut_lines t) ≤ length t
lines-few [] = omega arith
lines-few (b ∷ bs) = go (eqb b LF) (cut_lines bs) (lines-few bs)
  where
    go : (q : Bool) (r : List (List ℕ)) → length r ≤ length bs → length (cond q ([] ∷ r) (add_byte b r)) ≤ suc (length bs)
    go true r h = omega (arith, h)
    go false [] h = omega arith
    go false (w ∷ ws) h = omega (arith, h)

-- the line from a place on ends at its LF, and the next one starts behind it
pub record NextLine (text : List ℕ) (n at r : ℕ) : Type 0 where
  pub ended : r < length text
  pub line : part text at r ≡ get_or (cut_lines text) n []
  pub next : StartsAt text (n + 1) (r + 1)

pub next-line : (text : List ℕ) (n at r : ℕ) → n < length (cut_lines text) → StartsAt text n at → LineEnd text at r → NextLine text n at r
next-line text n at r lt s z = go (ltb r (length text)) refl (sym z.cut ∙ cut)
  where
    l : List ℕ
    l = get_or (cut_lines text) n []

    rest : List ℕ
    rest = concat_map ended (drop (suc n) (cut_lines text))

    shape : drop at text ≡ l ++ (LF ∷ rest)
    shape = s.here ∙ ap (concat_map ended) (drop-cons (cut_lines text) n [] lt) ∙ append_assoc l (LF ∷ []) rest

    cut : cut_line (drop at text) ≡ some (l, rest)
    cut = ap cut_line shape ∙ cut_line-is l rest (all-at (all in_line) [] (cut_lines text) n (lines-in_line text) lt)

    go : (b : Bool) → ltb r (length text) ≡ b → cond {A = Option Cut} b (some (part text at r, drop (suc r) text)) none ≡ some (l, rest) → NextLine text n at r
    go true e q =
        let p : ◌≡◌ {A = Cut} (part text at r, drop (suc r) text) (l, rest) = some-injective (part text at r, drop (suc r) text) (l, rest) q in
        let within : r < length text = ltb-true r (length text) e in
        let n₊ : suc n ≡ n + 1 = omega arith in
        let r₊ : suc r ≡ r + 1 = omega arith in
        record {
          ended = within;
          line = ap (λ (p : Cut). p.0) p;
          next =
              record {
                within = omega (arith, within);
                here = ap (λ (k : ℕ). drop k text) (sym r₊) ∙ ap (λ (p : Cut). p.1) p ∙ ap (λ (k : ℕ). concat_map ended (drop k (cut_lines text))) n₊;
              };
        }
    go false e q = let z : ◌≡◌ {A = ℕ} 0 1 = cc in absurd (omega arith)

-- a run's lines one by one
module _ (text : List ℕ) (r : Run) (h : RunOf text r) where
  pub run_length : length (run_lines text r) ≡ r.count
  unfolding run_lines
  run_length = length-take-le r.count (drop r.line (cut_lines text)) (omega (arith, length-drop r.line (cut_lines text), h.within))

  run-line : (i : ℕ) → i < r.count → get_or (run_lines text r) i [] ≡ get_or (cut_lines text) (r.line + i) []
  unfolding run_lines
  run-line i lt = get_or-take r.count (drop r.line (cut_lines text)) i [] lt ∙ get_or-drop r.line (cut_lines text) i []

  pub run-starts : StartsAt text (r.line + 0) r.from
  run-starts = let e : r.line ≡ r.line + 0 = omega arith in subst (λ (k : ℕ). StartsAt text k r.from) e h.from

  -- the run's line i, and the next
  pub record RunLine (i at end : ℕ) : Type 0 where
    pub ended : end < length text
    pub line : part text at end ≡ get_or (run_lines text r) i []
    pub next : StartsAt text (r.line + (i + 1)) (end + 1)

  pub line_of_run : (i at end : ℕ) → i < r.count → StartsAt text (r.line + i) at → LineEnd text at end → RunLine i at end
  line_of_run i at end lt s z =
      let q = next-line text (r.line + i) at end (omega (arith, h.within)) s z in
      let e : r.line + i + 1 ≡ r.line + (i + 1) = omega arith in
      record { ended = q.ended; line = q.line ∙ sym (run-line i lt); next = subst (λ (k : ℕ). StartsAt text k (end + 1)) e q.next }

  -- the run's bytes
  rest-split : concat_map ended (drop r.line (cut_lines text)) ≡ concat_map ended (run_lines text r) ++ concat_map ended (drop (r.line + r.count) (cut_lines text))
  unfolding run_lines
  rest-split =
      let L : List (List ℕ) = drop r.line (cut_lines text) in
      ap (concat_map ended) (sym (take-append-drop r.count L))
      ∙ concat_map-append ended (take r.count L) (drop r.count L)
      ∙ ap (λ (l : List (List ℕ)). concat_map ended (take r.count L) ++ concat_map ended l) (drop-drop r.count r.line (cut_lines text))

  whole-rest : drop r.from text ≡ concat_map ended (run_lines text r) ++ drop r.to text
  whole-rest = h.from.here ∙ rest-split ∙ ap (λ (l : List ℕ). concat_map ended (run_lines text r) ++ l) (sym h.to.here)

  pub run-bytes : (r.from ≤ r.to) × (length (concat_map ended (run_lines text r)) ≡ r.to - r.from)
  run-bytes =
      let e = ap length whole-rest ∙ length-append (concat_map ended (run_lines text r)) (drop r.to text) in
      let f = length-drop r.from text in
      let t = length-drop r.to text in
      let w = h.from.within in
      let v = h.to.within in
      (omega (arith, e, f, t, w, v), omega (arith, e, f, t, w, v))

  pub run-part : part text r.from r.to ≡ concat_map ended (run_lines text r)
  run-part =
      ap (take (r.to - r.from)) whole-rest
      ∙ take_at (concat_map ended (run_lines text r)) (drop r.to text) (r.to - r.from) run-bytes.1

-- a test of the elements from a place on
module _ {A : Type 0} (p : A → Bool) (xs : List A) (d : A) (i : ℕ) where
  pub any-hit : i < length xs → p (get_or xs i d) ≡ true → any p (drop i xs) ≡ true
  any-hit lt e = ap (any p) (drop-cons xs i d lt) ∙ ap (λ (b : Bool). b || any p (drop (suc i) xs)) e

  pub any-on : i < length xs → p (get_or xs i d) ≡ false → any p (drop i xs) ≡ any p (drop (i + 1) xs)
  any-on lt e = ap (any p) (drop-cons xs i d lt) ∙ ap (λ (b : Bool). b || any p (drop (suc i) xs)) e ∙ ap (λ (k : ℕ). any p (drop k xs)) (sym (add-one i))

  pub any-over : length xs ≤ i → any p (drop i xs) ≡ false
  any-over le = ap (any p) (drop_of_length-le xs {i = i} le)

  pub all-miss : i < length xs → p (get_or xs i d) ≡ false → all p (drop i xs) ≡ false
  all-miss lt e = ap (all p) (drop-cons xs i d lt) ∙ ap (λ (b : Bool). b && all p (drop (suc i) xs)) e

  pub all-on : i < length xs → p (get_or xs i d) ≡ true → all p (drop i xs) ≡ all p (drop (i + 1) xs)
  all-on lt e = ap (all p) (drop-cons xs i d lt) ∙ ap (λ (b : Bool). b && all p (drop (suc i) xs)) e ∙ ap (λ (k : ℕ). all p (drop k xs)) (sym (add-one i))

  pub all-over : length xs ≤ i → all p (drop i xs) ≡ true
  all-over le = ap (all p) (drop_of_length-le xs {i = i} le)
