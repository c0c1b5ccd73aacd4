-- Whether each element stands among the entries, one element after the other.
use Prim.Native.Nat.{ℕ, ◌+◌, ◌<◌}
use mathlib.Core.Path.{◌≡◌, refl, sym, ap, ◌∙◌}
use mathlib.Core.Bool.{true, false, ◌&&◌}
use mathlib.Core.List.{List, [], ◌∷◌, ◌++◌}
use native.Mathlib.Nat.{zero-add}
use Rattle.theory.specs.Lists.{all, elem, up_to}
use Rattle.theory.proofs.Tests.{not-true, both_false, and-join}
use Rattle.theory.proofs.Lists.{all_append, all-up_to, up_from-append}

module _ (p : List ℕ) where
  pub one-missing : (s d : ℕ) → d < s → elem d p ≡ false → all (λ d. elem d p) (up_to s) ≡ false
  one-missing s d l h = not-true (all (λ d. elem d p) (up_to s)) (λ t. both_false (all-up_to (λ d. elem d p) s t d l) h)

  pub one_more : (d : ℕ) → all (λ d. elem d p) (up_to d) ≡ true → elem d p ≡ true → all (λ d. elem d p) (up_to (d + 1)) ≡ true
  one_more d h e =
      ap (all (λ d. elem d p)) (sym (up_from-append 0 d 1) ∙ ap (λ (k : ℕ). up_to d ++ (k ∷ [])) (zero-add d))
      ∙ all_append (λ d. elem d p) (up_to d) (d ∷ [])
      ∙ and-join (all (λ d. elem d p) (up_to d)) (elem d p && true) h (and-join (elem d p) true e refl)
