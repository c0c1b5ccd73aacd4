-- Codes over some symbols: over more, and as known words.
use Prim.Native.Nat.{ℕ, ◌-◌, ◌≤◌, ◌<◌}
use mathlib.Core.Path.{◌≡◌, refl, ap, ◌∙◌}
use mathlib.Core.Logic.{◌⊎◌, inl, inr}
use mathlib.Core.Bool.{true, ◌&&◌, ◌||◌}
use native.Mathlib.Omega.{arith}
use lib.Dec.{eqb, ltb, leb}
use lib.ListN.{length}
use Rattle.theory.specs.Syntax.{Signature}
use Rattle.theory.proofs.Tests.{eqb-true, ltb-true, ltb-of-<, leb-true, and_left, and_right, or_cases, or_left, or_right}
use Rattle.syntax.specs.Codes.{max_places, plus_code, minus_code, equals_code, letter_code, past_letters, code_word, is_known}
use Rattle.syntax.proofs.Codes.{word_of-symbol, word_of-letter}
use Rattle.clauses.specs.Words.{is_fixed_code, is_code}

pub code-more : (m n c : ℕ) → m ≤ n → is_code m c ≡ true → is_code n c ≡ true
code-more m n c h e = go (or_cases (ltb c m) (is_fixed_code c) e)
  where
    go : (ltb c m ≡ true) ⊎ (is_fixed_code c ≡ true) → is_code n c ≡ true
    go (inl k) = let l : c < m = ltb-true c m k in or_left (ltb c n) (is_fixed_code c) (ltb-of-< c n (omega arith))
    go (inr k) = or_right (ltb c n) (is_fixed_code c) k

pub code-known : (g : Signature) (c : ℕ) → length g ≤ max_places → is_code (length g) c ≡ true → is_known g (code_word c) ≡ true
code-known g c small e = first (or_cases (ltb c (length g)) (is_fixed_code c) e)
  where
    at : {k : ℕ} → is_known g (code_word k) ≡ true → c ≡ k → is_known g (code_word c) ≡ true
    at h e = ap (λ (n : ℕ). is_known g (code_word n)) e ∙ h

    fourth : (eqb c equals_code ≡ true) ⊎ ((leb letter_code c && ltb c past_letters) ≡ true) → is_known g (code_word c) ≡ true
    fourth (inl e) = at refl (eqb-true c equals_code e)
    fourth (inr e) =
        let lo : letter_code ≤ c = leb-true letter_code c (and_left (leb letter_code c) (ltb c past_letters) e) in
        let hi : c < past_letters = ltb-true c past_letters (and_right (leb letter_code c) (ltb c past_letters) e) in
        ap (is_known g) (word_of-letter c lo) ∙ ltb-of-< (c - letter_code) 8 (omega arith)

    third : (eqb c minus_code ≡ true) ⊎ ((eqb c equals_code || (leb letter_code c && ltb c past_letters)) ≡ true) → is_known g (code_word c) ≡ true
    third (inl e) = at refl (eqb-true c minus_code e)
    third (inr e) = fourth (or_cases (eqb c equals_code) (leb letter_code c && ltb c past_letters) e)

    second : (eqb c plus_code ≡ true) ⊎ ((eqb c minus_code || (eqb c equals_code || (leb letter_code c && ltb c past_letters))) ≡ true) → is_known g (code_word c) ≡ true
    second (inl e) = at refl (eqb-true c plus_code e)
    second (inr e) = third (or_cases (eqb c minus_code) (eqb c equals_code || (leb letter_code c && ltb c past_letters)) e)

    first : (ltb c (length g) ≡ true) ⊎ (is_fixed_code c ≡ true) → is_known g (code_word c) ≡ true
    first (inl e) = let l : c < length g = ltb-true c (length g) e in ap (is_known g) (word_of-symbol c (omega arith)) ∙ e
    first (inr e) = second (or_cases (eqb c plus_code) (eqb c minus_code || (eqb c equals_code || (leb letter_code c && ltb c past_letters))) e)
