-- The good bytes of a count and of a size.
use Prim.Native.Nat.{ℕ, suc, ◌<◌}
use mathlib.Core.Path.{◌≡◌, refl, sym, ap, ◌∙◌}
use mathlib.Core.Bool.{Bool, true, false, cond}
use mathlib.Core.List.{List, [], ◌∷◌}
use native.Mathlib.Omega.{arith}
use lib.Dec.{eqb}
use lib.ListN.{length, get_or, drop, drop_of_length-le}
use lib.Seq.{drop-cons}
use borrow.Author.Tests.{eq-eqb, ne_eqb}
use Rattle.theory.specs.Bytes.{zero_digit, is_digit}
use Rattle.theory.specs.LineForms.{count_digits, size_digit, passing, is_size_byte, good_value}

-- the good bytes of a count behind its first digit
abbrev later : ℕ → List ℕ → ℕ
later b bs = passing (cond (eqb b zero_digit) [] (is_digit ∷ [])) bs

pub no-digits : (v : List ℕ) → length v ≡ 0 → 0 ≡ good_value count_digits v
unfolding good_value
no-digits [] e = refl
no-digits (b ∷ bs) e = absurd (omega arith)

-- a value of one byte at least
module _ (v : List ℕ) (filled : length v ≡ 0 → ⊥) where
  first-digit : (q : Bool) → is_digit (get_or v 0 0) ≡ q → good_value count_digits v ≡ cond q (suc (later (get_or v 0 0) (drop 1 v))) 0
  unfolding good_value
  first-digit q e = go v filled e
    where
      go : (v : List ℕ) → (length v ≡ 0 → ⊥) → is_digit (get_or v 0 0) ≡ q → good_value count_digits v ≡ cond q (suc (later (get_or v 0 0) (drop 1 v))) 0
      go [] h e = absurd (h refl)
      go (b ∷ bs) h e = ap (λ (q : Bool). cond q (suc (later b bs)) 0) e

  pub first-bad : is_digit (get_or v 0 0) ≡ false → 0 ≡ good_value count_digits v
  first-bad e = sym (first-digit false e)

  module _ (digit : is_digit (get_or v 0 0) ≡ true) where
    pub zero-alone : get_or v 0 0 ≡ 48 → 1 ≡ good_value count_digits v
    zero-alone e = sym (first-digit true digit ∙ ap (λ (q : Bool). suc (passing (cond q [] (is_digit ∷ [])) (drop 1 v))) (eq-eqb (get_or v 0 0) zero_digit e))

    module _ (other : get_or v 0 0 ≡ 48 → ⊥) where
      second : good_value count_digits v ≡ suc (passing (is_digit ∷ []) (drop 1 v))
      second = first-digit true digit ∙ ap (λ (q : Bool). suc (passing (cond q [] (is_digit ∷ [])) (drop 1 v))) (ne_eqb (get_or v 0 0) zero_digit other)

      pub only-digit : length v ≡ 1 → 1 ≡ good_value count_digits v
      only-digit e = sym (second ∙ ap (λ (bs : List ℕ). suc (passing (is_digit ∷ []) bs)) (drop_of_length-le v {i = 1} (omega arith)))

      module _ (longer : length v ≡ 1 → ⊥) where
        second-digit : (q : Bool) → is_digit (get_or v 1 0) ≡ q → good_value count_digits v ≡ suc (cond q 1 0)
        second-digit q e =
            second
            ∙ ap (λ (bs : List ℕ). suc (passing (is_digit ∷ []) bs)) (drop-cons v 1 0 (omega arith))
            ∙ ap (λ (q : Bool). suc (cond q 1 0)) e

        pub second-bad : is_digit (get_or v 1 0) ≡ false → 1 ≡ good_value count_digits v
        second-bad e = sym (second-digit false e)

        pub two_digits : is_digit (get_or v 1 0) ≡ true → 2 ≡ good_value count_digits v
        two_digits e = sym (second-digit true e)

-- what follows the key of a size, from place n on
module _ (line : List ℕ) (n : ℕ) where
  pub no_size : length line ≡ n → 0 ≡ good_value size_digit (drop n line)
  unfolding good_value
  no_size e = sym (ap (passing (is_size_byte ∷ [])) (drop_of_length-le line {i = n} (omega arith)))

  pub size-byte : (q : Bool) → n < length line → q ≡ is_size_byte (get_or line n 0) → cond q 1 0 ≡ good_value size_digit (drop n line)
  unfolding good_value
  size-byte q h e = sym (ap (passing (is_size_byte ∷ [])) (drop-cons line n 0 h) ∙ ap (λ (q : Bool). cond q 1 0) (sym e))
