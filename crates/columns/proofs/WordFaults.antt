-- One word: whether it is known, what is due after it, the signs that it is.
use Prim.Native.Nat.{ℕ, suc, ◌+◌, ◌≤◌, ◌<◌}
use mathlib.Core.Path.{◌≡◌, refl, sym, ap, ◌∙◌}
use mathlib.Core.Bool.{Bool, true, false, cond, ◌||◌}
use mathlib.Core.Option.{Option, none}
use mathlib.Core.List.{List, [], ◌∷◌}
use native.Mathlib.Numerals.{add-one}
use native.Mathlib.Omega.{arith}
use lib.Dec.{eqb, ltb}
use lib.ListN.{length, get_or}
use borrow.Author.Tests.{eq-eqb, ne_eqb, lt-ltb, le-ltb}
use Rattle.theory.specs.Syntax.{Signature}
use Rattle.theory.specs.Grammar.{Due}
use Rattle.theory.specs.Problem.{max_words, max_literals, word_of}
use Rattle.theory.proofs.Tests.{or_left, or_right, or-false-join}
use Rattle.syntax.specs.Codes.{code_word}
use Rattle.std.specs.Prelude.{Some, None}
use Rattle.clauses.specs.Grammar.{due_next}
use Rattle.clauses.specs.Words.{WordRead}
use Rattle.columns.specs.Words.{due_then, due_after_word, is_stuck, signs_in, with_word, are_over}

module _ (g : Signature) (word : List ℕ) where
  pub due-after-code : (n : ℕ) (d e : Option Due) → WordRead g word (Some n) → e ≡ due_next g d (code_word n) → e ≡ due_after_word g d word
  due-after-code n d e r h = h ∙ ap (due_then g d) r.read

  pub due-after-unknown : (d : Option Due) → WordRead g word None → none ≡ due_after_word g d word
  due-after-unknown d r = ap (due_then g d) r.read

-- no bytes are no word, so nothing can follow them
pub passed-filled : (g : Signature) (d : Option Due) (word : List ℕ) → is_stuck (due_after_word g d word) ≡ false → 0 < length word
unfolding word_of
passed-filled g d [] e = let z : ◌≡◌ {A = ℕ} 0 1 = cc in absurd (omega arith)
passed-filled g d (b ∷ word) e = omega arith

-- a sign is one byte
pub no_sign : (word : List ℕ) → (length word ≡ 1 → ⊥) → 0 ≡ signs_in word
no_sign [] h = refl
no_sign (b ∷ []) h = absurd (h refl)
no_sign (b ∷ c ∷ word) h = refl

module _ (word : List ℕ) (one : length word ≡ 1) where
  one_byte : signs_in word ≡ cond (eqb (get_or word 0 0) 43 || eqb (get_or word 0 0) 45) 1 0
  one_byte = go word one
    where
      go : (word : List ℕ) → length word ≡ 1 → signs_in word ≡ cond (eqb (get_or word 0 0) 43 || eqb (get_or word 0 0) 45) 1 0
      go [] e = absurd (omega arith)
      go (b ∷ []) e = refl
      go (b ∷ c ∷ word) e = absurd (omega arith)

  pub plus-sign : get_or word 0 0 ≡ 43 → 1 ≡ signs_in word
  plus-sign e = sym (one_byte ∙ ap (λ (q : Bool). cond (q || eqb (get_or word 0 0) 45) 1 0) (eq-eqb (get_or word 0 0) 43 e))

  module _ (h : get_or word 0 0 ≡ 43 → ⊥) where
    other : (r : Bool) → eqb (get_or word 0 0) 45 ≡ r → signs_in word ≡ cond r 1 0
    other r e = one_byte ∙ ap (λ (q : Bool). cond (q || eqb (get_or word 0 0) 45) 1 0) (ne_eqb (get_or word 0 0) 43 h) ∙ ap (λ (q : Bool). cond q 1 0) e

    pub minus-sign : get_or word 0 0 ≡ 45 → 1 ≡ signs_in word
    minus-sign e = sym (other true (eq-eqb (get_or word 0 0) 45 e))

    pub other_byte : (get_or word 0 0 ≡ 45 → ⊥) → 0 ≡ signs_in word
    other_byte k = sym (other false (ne_eqb (get_or word 0 0) 45 k))

pub signs-small : (word : List ℕ) → signs_in word ≤ 1
signs-small [] = omega arith
signs-small (b ∷ []) = go (eqb b 43 || eqb b 45)
  where
    go : (q : Bool) → cond q 1 0 ≤ 1
    go true = omega arith
    go false = omega arith
signs-small (b ∷ c ∷ word) = omega arith

-- words and signs, counted with one word more
module _ (n m k : ℕ) (word : List ℕ) (signs : k ≡ signs_in word) where
  pub counted : with_word (n, m) word ≡ (n + 1, m + k)
  counted = ap (λ (i : ℕ). (i, m + signs_in word)) (sym (add-one n)) ∙ ap (λ (i : ℕ). (n + 1, m + i)) (sym signs)

  pub literals-over : 16 < m + k → are_over (with_word (n, m) word) ≡ true
  literals-over h = ap are_over counted ∙ or_right (ltb max_words (n + 1)) (ltb max_literals (m + k)) (lt-ltb max_literals (m + k) h)

  pub none_over : n + 1 ≤ 64 → m + k ≤ 16 → are_over (with_word (n, m) word) ≡ false
  none_over h l = ap are_over counted ∙ or-false-join (ltb max_words (n + 1)) (ltb max_literals (m + k)) (le-ltb max_words (n + 1) h) (le-ltb max_literals (m + k) l)

pub words-over : (n m : ℕ) (word : List ℕ) → 64 < n + 1 → are_over (with_word (n, m) word) ≡ true
words-over n m word h = or_left (ltb max_words (suc n)) (ltb max_literals (m + signs_in word)) (lt-ltb max_words (suc n) (omega arith))
