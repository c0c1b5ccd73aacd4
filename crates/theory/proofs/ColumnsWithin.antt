-- The column of each refusal is that of a byte of its line, or one past the line's end.
use Prim.Native.Nat.{ℕ, zero, suc, ◌+◌, ◌≤◌, ◌<◌}
use mathlib.Core.Path.{◌≡◌, refl, ap}
use mathlib.Core.Logic.{◌⊎◌, inl, inr}
use mathlib.Core.Bool.{Bool, true, false, cond, ◌||◌}
use mathlib.Core.List.{List, [], ◌∷◌, ◌++◌}
use native.Mathlib.Omega.{arith}
use lib.Dec.{eqb, ltb}
use lib.ListN.{length, drop, length-append, length-drop}
use Rattle.theory.specs.Bytes.{space}
use Rattle.theory.specs.Lines.{cut_words, add_byte, words_of}
use Rattle.theory.specs.Problem.{max_words, max_literals}
use Rattle.theory.specs.LineForms.{LineForm}
use Rattle.theory.specs.DueLines.{first_line, from_line, due_in_sheet, sheet_symbols}
use Rattle.theory.specs.Columns.{key_length, word_start, line_words, word_column, sheet_column}
use Rattle.theory.specs.Claims.Columns.{OverNumber, WordBeyondHelp, OverLimit, WithinLine}
use Rattle.theory.proofs.Tests.{true-or-false, lt-or-eq-or-gt}
use Rattle.theory.proofs.Misplaced.{read_all-length}
use Rattle.theory.proofs.SheetFaults.{LineFault, sheet-fault}
use Rattle.theory.proofs.Columns.{two_at, three-at, four-at, five-at, six-at, seven_at}

start-within : (v : List ℕ) (i : ℕ) → i < length (cut_words v) → word_start i (cut_words v) ≤ length v
start-within [] zero h = omega arith
start-within [] (suc i) h = absurd (omega arith)
start-within (b ∷ bs) zero h = omega arith
start-within (b ∷ bs) (suc i) h = go (eqb b space) (cut_words bs) refl h (λ j k. start-within bs j k)
  where
    go : (q : Bool) (r : List (List ℕ)) → cut_words bs ≡ r → suc i < length (cond q ([] ∷ r) (add_byte b r))
        → ((j : ℕ) → j < length (cut_words bs) → word_start j (cut_words bs) ≤ length bs) → word_start (suc i) (cond q ([] ∷ r) (add_byte b r)) ≤ suc (length bs)
    go true r e k ih =
        let n : length (cut_words bs) ≡ length r = ap length e in
        let w : word_start i (cut_words bs) ≡ word_start i r = ap (word_start i) e in
        omega (arith, ih i (omega (arith, n, k)), w)
    go false [] e k ih = absurd (omega arith)
    go false (w ∷ ws) e k ih =
        let n : length (cut_words bs) ≡ suc (length ws) = ap length e in
        let s : word_start (suc i) (cut_words bs) ≡ suc (length w + word_start i ws) = ap (word_start (suc i)) e in
        omega (arith, ih (suc i) (omega (arith, n, k)), s)

-- a byte of the line, or one past its end
abbrev Within : List ℕ → ℕ → Type 0
Within l column = (1 ≤ column) × (column ≤ suc (length l))

word-within : (d : LineForm) (l : List ℕ) (i : ℕ) → i < length (line_words d l) → Within l (word_column d l i)
unfolding word_column
word-within d l i h = go (drop (key_length d) l) refl h
  where
    go : (v : List ℕ) → drop (key_length d) l ≡ v → i < length (words_of v) → Within l (suc (key_length d + word_start i (words_of v)))
    go [] e k = absurd (omega arith)
    go (b ∷ v) e k =
        let n : length (drop (key_length d) l) ≡ suc (length v) = ap length e in
        (omega arith, omega (arith, start-within (b ∷ v) i k, n, length-drop (key_length d) l))

-- the column is behind a key of the line
behind-key : (key rest l : List ℕ) (column : ℕ) → column ≡ suc (length key) → key ++ rest ≡ l → Within l column
behind-key key rest l column e w =
    let n : length (key ++ rest) ≡ length l = ap length w in
    (omega (arith, e), omega (arith, e, n, length-append key rest))

number-within : (d : LineForm) (l : List ℕ) (column : ℕ) → OverNumber d l column → Within l column
number-within d l column (inl o) = behind-key o.key _ l column o.behind o.whole
number-within d l column (inr o) = (omega (arith, o.second), omega (arith, o.last))

module _ (sheet : List ℕ) (l : ℕ) where
  abbrev d : LineForm
  d = due_in_sheet sheet l

  abbrev t : List ℕ
  t = first_line (from_line l sheet)

  clause-within : (column : ℕ) → WordBeyondHelp (sheet_symbols sheet) d t column → Within t column
  clause-within column w = go (lt-or-eq-or-gt w.place (length (line_words d t)))
    where
      go : (w.place < length (line_words d t)) ⊎ ((w.place ≡ length (line_words d t)) ⊎ (length (line_words d t) < w.place)) → Within t column
      go (inl h) = let b = word-within d t w.place h in (omega (arith, w.at_word h, b.0), omega (arith, w.at_word h, b.1))
      go (inr (inl h)) = (omega (arith, w.at_end h), omega (arith, w.at_end h))
      go (inr (inr h)) = absurd (omega (arith, h, w.among))

  limit-within : (column : ℕ) → OverLimit (sheet_symbols sheet) d t column → Within t column
  limit-within column o = go (true-or-false (ltb max_words (length o.known) || ltb max_literals (length o.clause)))
    where
      go : ((ltb max_words (length o.known) || ltb max_literals (length o.clause)) ≡ true) ⊎ ((ltb max_words (length o.known) || ltb max_literals (length o.clause)) ≡ false) → Within t column
      go (inl h) =
          let f = o.first h in
          let b = word-within d t f.0 (omega (arith, f.1, read_all-length (sheet_symbols sheet) (line_words d t) o.known o.read)) in
          (omega (arith, f.2, b.0), omega (arith, f.2, b.1))
      go (inr h) = (omega (arith, o.only h), omega (arith, o.only h))

  -- the column of a fault on a line
  pub fault-within : (n : ℕ) → LineFault sheet l n → Within t (sheet_column sheet n (suc l))
  fault-within zero f = absurd f.has
  fault-within (suc zero) f = absurd f.has
  fault-within (suc (suc zero)) f = let b = two_at sheet l f in (b.first, b.within)
  fault-within (suc (suc (suc zero))) f = number-within d t _ (three-at sheet l f)
  fault-within (suc (suc (suc (suc zero)))) f = let b = (four-at sheet l f).here in behind-key b.key _ t _ b.behind b.whole
  fault-within (suc (suc (suc (suc (suc zero))))) f =
      let u = five-at sheet l f in
      let b = word-within d t u.place u.among in
      (omega (arith, u.at_word, b.0), omega (arith, u.at_word, b.1))
  fault-within (suc (suc (suc (suc (suc (suc zero)))))) f = clause-within _ (six-at sheet l f)
  fault-within (suc (suc (suc (suc (suc (suc (suc zero))))))) f = limit-within _ (seven_at sheet l f)
  fault-within (suc (suc (suc (suc (suc (suc (suc (suc n)))))))) f = absurd f.has

pub within : WithinLine
within sheet n l e = fault-within sheet l n (sheet-fault sheet n l e)
