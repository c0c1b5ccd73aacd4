-- The sizes from low to high, one after the other: the least model at the smallest of those left is that of all.
use Prim.Native.Nat.{ℕ, suc, ◌-◌, ◌≤◌, ◌<◌}
use mathlib.Core.Path.{◌≡◌, sym, ap, ◌∙◌}
use mathlib.Core.Bool.{Bool}
use mathlib.Core.Option.{Option, none, some}
use mathlib.Core.List.{List}
use native.Mathlib.Omega.{arith}
use Rattle.theory.specs.Lists.{up_from}
use Rattle.theory.specs.Problem.{Problem}
use Rattle.theory.specs.CaseText.{Case}
use Rattle.theory.specs.Least.{or_else, first_of, with_size}
use Rattle.symmetry.specs.Obeying.{least_with}

-- The least model that is searched: with the constant clauses, or without.
module _ (used : Bool) (p : Problem) (high : ℕ) where
  -- of size s, with its size
  abbrev at : ℕ → Option Case
  at s = with_size s (least_with used s p)

  -- at the smallest of the sizes from this one on that has one
  abbrev pub remaining : ℕ → Option Case
  remaining size = first_of at (up_from size (suc high - size))

  remaining-more : (size : ℕ) → size ≤ high → remaining size ≡ or_else (at size) (remaining (suc size))
  remaining-more size le = let e : suc high - size ≡ suc (suc high - suc size) = omega arith in ap (λ (k : ℕ). first_of at (up_from size k)) e

  pub remaining-found : (size : ℕ) (vs : List ℕ) → size ≤ high → least_with used size p ≡ some vs → remaining size ≡ with_size size (least_with used size p)
  remaining-found size vs le e =
      remaining-more size le
      ∙ ap (λ (o : Option (List ℕ)). or_else (with_size size o) (remaining (suc size))) e
      ∙ sym (ap (with_size size) e)

  pub remaining-missed : (size : ℕ) → size ≤ high → least_with used size p ≡ none → remaining size ≡ remaining (suc size)
  remaining-missed size le e = remaining-more size le ∙ ap (λ (o : Option (List ℕ)). or_else (with_size size o) (remaining (suc size))) e

  pub remaining-none : (size : ℕ) → high < size → remaining size ≡ none
  remaining-none size lt = let e : suc high - size ≡ 0 = omega arith in ap (λ (k : ℕ). first_of at (up_from size k)) e
