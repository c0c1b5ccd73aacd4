-- A clause with each literal once has the literals of the clause, none twice.
use mathlib.Core.Path.{◌≡◌, refl, ap, ◌∙◌}
use mathlib.Core.Bool.{Bool, true, false, cond, ◌||◌}
use mathlib.Core.List.{List, [], ◌∷◌}
use Prim.Native.Nat.{ℕ, ◌≤◌}
use native.Mathlib.Omega.{arith}
use lib.Dec.{eqb}
use lib.ListN.{length}
use Rattle.theory.specs.Lists.{elem}
use Rattle.theory.proofs.Tests.{eqb-true}
use Rattle.propagation.specs.Clauses.{Distinct, insert, once}

elem-insert : (x u : ℕ) (d : List ℕ) → elem x (insert u d) ≡ elem x (u ∷ d)
elem-insert x u d = by (elem u d) refl (eqb x u) refl
  where
    by : (b : Bool) → elem u d ≡ b → (e : Bool) → eqb x u ≡ e → elem x (cond b d (u ∷ d)) ≡ (e || elem x d)
    by true h true e = ap (λ (y : ℕ). elem y d) (eqb-true x u e) ∙ h
    by true h false e = refl
    by false h true e = ap (λ (c : Bool). c || elem x d) e
    by false h false e = ap (λ (c : Bool). c || elem x d) e

pub elem-once : (x : ℕ) (us : List ℕ) → elem x (once us) ≡ elem x us
elem-once x [] = refl
elem-once x (u ∷ us) = elem-insert x u (once us) ∙ ap (λ (b : Bool). eqb x u || b) (elem-once x us)

pub distinct-once : (us : List ℕ) → Distinct (once us)
distinct-once [] = tt
distinct-once (u ∷ us) = by (elem u (once us)) refl (distinct-once us)
  where
    by : (b : Bool) → elem u (once us) ≡ b → Distinct (once us) → Distinct (cond b (once us) (u ∷ once us))
    by true h d = d
    by false h d = (h, d)

pub once-length : (us : List ℕ) → length (once us) ≤ length us
once-length [] = omega arith
once-length (u ∷ us) = by (elem u (once us)) (once-length us)
  where
    by : (b : Bool) → length (once us) ≤ length us → length (cond b (once us) (u ∷ once us)) ≤ length (u ∷ us)
    by true h = omega arith
    by false h = omega arith
