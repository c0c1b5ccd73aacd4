-- A reason letter by letter: the bytes that stand for a letter and its value, and the lines printed so far.
use Prim.Native.Nat.{ℕ, zero, suc, ◌+◌, ◌*◌, ◌≤◌, ◌<◌, ◌^◌}
use mathlib.Core.Path.{◌≡◌, refl, sym, ap, ◌∙◌}
use mathlib.Core.Option.{none}
use mathlib.Core.List.{List, [], ◌∷◌, ◌++◌, map, append_assoc}
use native.Mathlib.Numerals.{add-one}
use native.Mathlib.Omega.{arith}
use lib.ListN.{length, get_or, set, take, drop, replicate, length-append, length-map, get_or-append}
use lib.Seq.{take_all, length-take-le}
use Rattle.theory.specs.Bytes.{bytes, LF, decimal}
use Rattle.theory.specs.Refusals.{answer}
use Rattle.theory.specs.Vectors.{AllBelow}
use Rattle.theory.specs.Explainer.{letter_line, letter_lines, reason_text, explained_text}
use Rattle.theory.proofs.Lists.{get_d_map}
use Rattle.text.specs.Put.{put, put-none, put-cursor, put-run, cursor-run}
use Rattle.answers.specs.declared.Reason.{Reason}
use Rattle.answers.specs.Answers.{eight}
use Rattle.printing.specs.Reports.{Responds}
use Rattle.printing.specs.Reasons.{Printable}
use Rattle.printing.proofs.Printing.{digits, responds}

pub yes-printed : (l l' : List ℕ) (r : ℕ) → l' ≡ put l 0 (bytes "answer=yes\n") → r ≡ 0 + length (bytes "answer=yes\n") → Responds (explained_text (answer none)) r l l'
unfolding explained_text
yes-printed l l' r p n = responds l l' r (bytes "answer=yes\n") p n

-- one line more
lines_more : (xs vs : List ℕ) (i : ℕ) → length vs ≡ length xs → i < length xs
    → letter_lines (take i xs) (take i vs) ++ letter_line (get_or xs i 0) (get_or vs i 0) ≡ letter_lines (take (suc i) xs) (take (suc i) vs)
unfolding letter_lines
lines_more [] vs i e h = absurd (omega arith)
lines_more (x ∷ xs) [] i e h = absurd (omega arith)
lines_more (x ∷ xs) (v ∷ vs) zero e h = refl
lines_more (x ∷ xs) (v ∷ vs) (suc i) e h = ap (λ (t : List ℕ). letter_line x v ++ t) (lines_more xs vs i (omega (arith, e)) (omega arith))

lines-length : (xs vs : List ℕ) → length vs ≡ length xs → length (letter_lines xs vs) ≡ 4 * length xs
unfolding letter_lines
lines-length [] vs e = refl
lines-length (x ∷ xs) [] e = absurd (omega (arith, e))
lines-length (x ∷ xs) (v ∷ vs) e = omega (arith, lines-length xs vs (omega (arith, e)))

taken-length : (xs vs : List ℕ) (i : ℕ) → length vs ≡ length xs → i ≤ length xs → length (letter_lines (take i xs) (take i vs)) ≡ 4 * i
taken-length xs vs i e h =
    lines-length (take i xs) (take i vs) (length-take-le i vs (omega (arith, e)) ∙ sym (length-take-le i xs h)) ∙ ap (λ (k : ℕ). 4 * k) (length-take-le i xs h)

below_at : (s : ℕ) (vs : List ℕ) (i : ℕ) → AllBelow s vs → i < length vs → get_or vs i 0 < s
below_at s [] i b h = absurd (omega arith)
below_at s (v ∷ vs) zero b h = b.0
below_at s (v ∷ vs) (suc i) b h = below_at s vs i b.1 (omega arith)

byte_at : (f : ℕ → ℕ) (xs : List ℕ) (i : ℕ) → i < length xs → get_or (eight (map f xs)) i 0 ≡ f (get_or xs i 0)
byte_at f xs i h = get_or-append (map f xs) (drop (length (map f xs)) (replicate 8 0)) 0 i (omega (arith, length-map xs f)) ∙ get_d_map f xs i h

module _ (r : Reason) (p : Printable r) where
  abbrev xs : List ℕ
  xs = p.reason.letters

  abbrev vs : List ℕ
  vs = p.reason.values

  pub count-is : r.count ≡ length xs
  count-is = ap (λ (r : Reason). r.count) p.is

  pub count_small : r.count ≤ 8
  count_small = omega (arith, count-is, p.short.letters)

  -- the bytes at a place
  pub letter_at : (i : ℕ) → i < r.count → get_or r.letters i 0 ≡ 65 + get_or xs i 0
  letter_at i h = ap (λ (r : Reason). get_or r.letters i 0) p.is ∙ byte_at (λ x. 65 + x) xs i (omega (arith, count-is))

  pub value-at : (i : ℕ) → i < r.count → get_or r.values i 0 ≡ suc (get_or vs i 0)
  value-at i h = ap (λ (r : Reason). get_or r.values i 0) p.is ∙ byte_at suc vs i (omega (arith, count-is, p.short.counted))

  pub value-small : (i : ℕ) → i < r.count → get_or r.values i 0 ≤ 8
  value-small i h = omega (arith, value-at i h, below_at 8 vs i p.short.values (omega (arith, count-is, p.short.counted)))

  -- the lines of the first i letters stand from a place on, and the cursor behind them
  pub record LinesPut (l l' : List ℕ) (at end i : ℕ) : Type 0 where
    pub text : l' ≡ put l at (letter_lines (take i xs) (take i vs))
    pub cursor : end ≡ at + length (letter_lines (take i xs) (take i vs))

  pub lines_start : (l : List ℕ) (at : ℕ) → LinesPut l l at at 0
  unfolding letter_lines
  lines_start l at = record { text = sym (put-none l at); cursor = omega arith }

  pub lines-end-at : (l l' : List ℕ) (at end i : ℕ) → i ≤ r.count → LinesPut l l' at end i → end ≡ at + 4 * i
  lines-end-at l l' at end i h w = w.cursor ∙ ap (λ (k : ℕ). at + k) (taken-length xs vs i p.short.counted (omega (arith, count-is)))

  pub lines-turn : (l l' l'' : List ℕ) (at end end' i : ℕ) → i < r.count → at + 32 ≤ length l → LinesPut l l' at end i
      → l'' ≡ put l' end (get_or r.letters i 0 ∷ 61 ∷ (48 + get_or r.values i 0) ∷ 10 ∷ []) → end' ≡ end + 4 → LinesPut l l'' at end' (i + 1)
  lines-turn l l' l'' at end end' i h room w q n =
      let line : List ℕ = letter_line (get_or xs i 0) (get_or vs i 0) in
      let same : get_or r.letters i 0 ∷ 61 ∷ (48 + get_or r.values i 0) ∷ 10 ∷ [] ≡ line =
      ap (λ (b : ℕ). b ∷ 61 ∷ (48 + get_or r.values i 0) ∷ 10 ∷ []) (letter_at i h) ∙ ap (λ (d : ℕ). (65 + get_or xs i 0) ∷ 61 ∷ (48 + d) ∷ 10 ∷ []) (value-at i h) in
      let more : letter_lines (take i xs) (take i vs) ++ line ≡ letter_lines (take (i + 1) xs) (take (i + 1) vs) =
      lines_more xs vs i p.short.counted (omega (arith, count-is)) ∙ ap (λ (k : ℕ). letter_lines (take k xs) (take k vs)) (sym (add-one i)) in
      record {
        text =
            put-run l l' l'' at end (letter_lines (take i xs) (take i vs)) line w.text w.cursor (q ∙ ap (put l' end) same)
            (omega (arith, room, lines-end-at l l' at end i (omega arith) w, count_small))
            ∙ ap (put l at) more;
        cursor = cursor-run at end end' (letter_lines (take i xs) (take i vs)) line w.cursor n ∙ ap (λ (t : List ℕ). at + length t) more;
      }

  pub lines-all : (l l' : List ℕ) (at end i : ℕ) → r.count ≤ i → LinesPut l l' at end i → (l' ≡ put l at (letter_lines xs vs)) × (end ≡ at + length (letter_lines xs vs))
  lines-all l l' at end i h w =
      let all : letter_lines (take i xs) (take i vs) ≡ letter_lines xs vs =
      ap (λ (x : List ℕ). letter_lines x (take i vs)) (take_all i xs (omega (arith, count-is))) ∙ ap (letter_lines xs) (take_all i vs (omega (arith, count-is, p.short.counted))) in
      (w.text ∙ ap (put l at) all, w.cursor ∙ ap (λ (t : List ℕ). at + length t) all)

  pub clause-small : r.clause < 2 ^ 32
  clause-small = omega (arith, ap (λ (r : Reason). r.clause) p.is, p.short.clause)

  abbrev heading : List ℕ
  heading = bytes "answer=no\nclause=" ++ decimal r.clause

  pub heading-short : length heading ≤ 27
  heading-short = omega (arith, length-append (bytes "answer=no\nclause=") (decimal r.clause), digits r.clause clause-small)

  -- the clause's line, then those of the letters
  pub reason-responds : (l l₁ l₃ : List ℕ) (a e : ℕ) → 128 ≤ length l → l₁ ≡ put l 0 heading → a ≡ 0 + length heading → l₃ ≡ put (set l₁ a LF) (a + 1) (letter_lines xs vs)
      → e ≡ a + 1 + length (letter_lines xs vs) → Responds (reason_text p.reason) e l l₃
  unfolding reason_text
  reason-responds l l₁ l₃ a e room t n t₃ n₃ =
      let lines : List ℕ = letter_lines xs vs in
      let ended : List ℕ = heading ++ (LF ∷ []) in
      let t₂ : set l₁ a LF ≡ put l 0 ended = put-cursor l l₁ 0 a heading ended LF t n (omega (arith, n, heading-short, room)) refl in
      let n₂ : a + 1 ≡ 0 + length ended = omega (arith, n, length-append heading (LF ∷ [])) in
      let whole : ended ++ lines ≡ reason_text p.reason =
      append_assoc heading (LF ∷ []) lines ∙ ap (λ (r : Reason). (bytes "answer=no\nclause=" ++ decimal r.clause) ++ (LF ∷ lines)) p.is in
      let few : length lines ≡ 4 * length xs = lines-length xs vs p.short.counted in
      responds l l₃ e (reason_text p.reason)
      (put-run l (set l₁ a LF) l₃ 0 (a + 1) ended lines t₂ n₂ t₃ (omega (arith, room, n, heading-short, few, p.short.letters)) ∙ ap (put l 0) whole)
      (cursor-run 0 (a + 1) e ended lines n₂ n₃ ∙ ap (λ (u : List ℕ). 0 + length u) whole)
