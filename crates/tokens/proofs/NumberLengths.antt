-- What makes digits a rational or a real, from a place of a text on.
use Prim.Native.Nat.{ℕ, suc, ◌+◌, ◌≤◌}
use mathlib.Core.Path.{◌≡◌, refl, sym, ap, ◌∙◌}
use mathlib.Core.Bool.{Bool, cond, not, ◌&&◌, ◌||◌}
use mathlib.Core.List.{List, [], ◌∷◌}
use native.Mathlib.Omega.{arith}
use lib.Dec.{eqb}
use lib.ListN.{length, drop, length-drop}
use lib.Seq.{drop-drop}
use Rattle.theory.specs.Bytes.{is_digit}
use Rattle.theory.proofs.Tests.{eqb-sym}
use Rattle.tptp.specs.Tokens.{run, starts_with, ratio, fraction, sign_length, exponent, number_rest}
use Rattle.tptp.proofs.PieceSizes.{number-within}

-- the three lengths by tests of the first bytes
ratio-of : (l : List ℕ) → cond (starts_with (eqb 47) l && starts_with is_digit (drop 1 l) && not (starts_with (eqb 48) (drop 1 l))) (1 + run is_digit (drop 1 l)) 0 ≡ ratio l
ratio-of [] = refl
ratio-of (b ∷ bs) = let e : 1 + run is_digit bs ≡ suc (run is_digit bs) = omega arith in rw (eqb-sym 47 b, e)

fraction-of : (l : List ℕ) → cond (starts_with (eqb 46) l && starts_with is_digit (drop 1 l)) (1 + run is_digit (drop 1 l)) 0 ≡ fraction l
fraction-of [] = refl
fraction-of (b ∷ bs) = let e : 1 + run is_digit bs ≡ suc (run is_digit bs) = omega arith in rw (eqb-sym 46 b, e)

-- the exponent's length, if its sign has n bytes
abbrev exponent_of : List ℕ → ℕ → ℕ
exponent_of l n = cond (starts_with (λ b. eqb b 101 || eqb b 69) l && starts_with is_digit (drop n (drop 1 l))) (1 + n + run is_digit (drop n (drop 1 l))) 0

exponent-of : (l : List ℕ) → exponent_of l (sign_length (drop 1 l)) ≡ exponent l
exponent-of [] = refl
exponent-of (b ∷ bs) =
    let n = sign_length bs in
    let e : 1 + n + run is_digit (drop n bs) ≡ suc (n + run is_digit (drop n bs)) = omega arith in
    ap (λ (k : ℕ). cond ((eqb b 101 || eqb b 69) && starts_with is_digit (drop n bs)) k 0) e

module _ (text : List ℕ) (at : ℕ) where
  tail : drop (at + 1) text ≡ drop 1 (drop at text)
  tail = sym (drop-drop 1 at text)

  pub ratio-by : (p q s : Bool) (n : ℕ) → p ≡ starts_with (eqb 47) (drop at text) → q ≡ starts_with is_digit (drop (at + 1) text) → s ≡ starts_with (eqb 48) (drop (at + 1) text)
      → n ≡ run is_digit (drop (at + 1) text) → cond (p && q && not s) (1 + n) 0 ≡ ratio (drop at text)
  ratio-by p q s n e f g h = rw (e, f, g, h, tail) (ratio-of (drop at text))

  pub fraction-by : (p q : Bool) (n : ℕ) → p ≡ starts_with (eqb 46) (drop at text) → q ≡ starts_with is_digit (drop (at + 1) text)
      → n ≡ run is_digit (drop (at + 1) text) → cond (p && q) (1 + n) 0 ≡ fraction (drop at text)
  fraction-by p q n e f h = rw (e, f, h, tail) (fraction-of (drop at text))

  pub exponent-by : (p q : Bool) (n r : ℕ) → p ≡ starts_with (λ b. eqb b 101 || eqb b 69) (drop at text) → n ≡ sign_length (drop (at + 1) text) → q ≡ starts_with is_digit (drop (at + 1 + n) text)
      → r ≡ run is_digit (drop (at + 1 + n) text) → cond (p && q) (1 + n + r) 0 ≡ exponent (drop at text)
  exponent-by p q n r e s f h =
      let d : drop (at + 1 + n) text ≡ drop n (drop 1 (drop at text)) = sym (drop-drop n (at + 1) text) ∙ ap (drop n) tail in
      let t : n ≡ sign_length (drop 1 (drop at text)) = s ∙ ap sign_length tail in
      rw (e, f, h, d) (ap (exponent_of (drop at text)) t ∙ exponent-of (drop at text))

  pub number_by : (n f e : ℕ) → n ≡ ratio (drop at text) → f ≡ fraction (drop at text) → e ≡ exponent (drop (at + f) text) → n + f + e ≡ number_rest (drop at text)
  number_by n f e h k l =
      let d : drop (fraction (drop at text)) (drop at text) ≡ drop (at + f) text = ap (λ (i : ℕ). drop i (drop at text)) (sym k) ∙ drop-drop f at text in
      let x : exponent (drop (fraction (drop at text)) (drop at text)) ≡ exponent (drop (at + f) text) = ap exponent d in
      omega arith

  pub number-room : at ≤ length text → at + number_rest (drop at text) ≤ length text
  number-room h = omega (arith, number-within (drop at text), length-drop at text)

  pub front-room : (n f : ℕ) → at ≤ length text → n ≡ ratio (drop at text) → f ≡ fraction (drop at text) → at + n + f ≤ length text
  front-room n f h k l = omega (arith, number-room h)
