-- AllowedWalk: the walk with an allowance is the walk, cut off where it makes more choices than are left.
use Prim.Native.Nat.{ℕ, zero, suc, ◌+◌, ◌-◌, ◌≤◌, ◌<◌}
use mathlib.Core.Path.{◌≡◌, refl, sym, ap, ◌∙◌}
use mathlib.Core.Logic.{◌⊎◌, inl, inr}
use mathlib.Core.Bool.{Bool, true, false, cond, not}
use mathlib.Core.Option.{Option, none, some}
use mathlib.Core.List.{List}
use native.Mathlib.Omega.{arith}
use lib.Dec.{leb}
use lib.ListN.{set, replicate}
use Rattle.theory.specs.Propositional.{PropClause}
use Rattle.theory.specs.Problem.{Problem}
use Rattle.theory.specs.Walk.{Partial, Status, failed, forces, quiet, event, lowest, bytes_of, Walked, choose, walk_step, walk, walked}
use Rattle.theory.proofs.Tests.{true-or-false, leb-true, leb-false, leb-of-≤, leb-of-<}
use Rattle.symmetry.specs.Obeying.{searched_with}
use Rattle.allowance.specs.AllowedWalk.{WalkEnd, ended, stopped, after, other_value, choose_within, step_within, walk_within, walked_within, searched_within}
use Rattle.allowance.specs.Claims.AllowedWalk.{cut, AllowedWalkHolds}

pub cut-enough : (left : ℕ) (w : Walked) → w.choices ≤ left → cut left w ≡ ended w.answer w.choices
cut-enough left w h = ap (λ (b : Bool). cond b (ended w.answer w.choices) stopped) (leb-of-≤ w.choices left h)

pub cut-stopped : (left : ℕ) (w : Walked) → left < w.choices → cut left w ≡ stopped
cut-stopped left w h = ap (λ (b : Bool). cond b (ended w.answer w.choices) stopped) (leb-of-< w.choices left h)

pub at-most-or-more : (n left : ℕ) → (n ≤ left) ⊎ (left < n)
at-most-or-more n left = go (true-or-false (leb n left))
  where
    go : (leb n left ≡ true) ⊎ (leb n left ≡ false) → (n ≤ left) ⊎ (left < n)
    go (inl h) = inl (leb-true n left h)
    go (inr h) = inr (leb-false n left h)

-- a walk without a choice
cut-none : (left : ℕ) (o : Option (List ℕ)) → ended o 0 ≡ cut left (record { answer = o; choices = 0 })
cut-none left o = sym (cut-enough left (record { answer = o; choices = 0 }) (omega arith))

-- a choice
cut-choice : (left : ℕ) (one other : Walked) → choose_within left (λ l. cut l one) (λ l. cut l other) ≡ cut left (choose one.answer one other)
cut-choice zero one other = go one.answer
  where
    go : (o : Option (List ℕ)) → stopped ≡ cut 0 (choose o one other)
    go none = sym (cut-stopped 0 (choose none one other) (omega arith))
    go (some σ) = sym (cut-stopped 0 (choose (some σ) one other) (omega arith))
cut-choice (suc left) one other = go one.answer refl (at-most-or-more one.choices left)
  where
    -- the choice and what follows it, where the first value ends so
    then : WalkEnd → WalkEnd
    then e = after 1 (other_value left e (λ l. cut l other))

    go : (o : Option (List ℕ)) → one.answer ≡ o → (one.choices ≤ left) ⊎ (left < one.choices) → then (cut left one) ≡ cut (suc left) (choose o one other)
    go o e (inr more) = ap then (cut-stopped left one more) ∙ sym (stops o)
      where
        stops : (o : Option (List ℕ)) → cut (suc left) (choose o one other) ≡ stopped
        stops none = cut-stopped (suc left) (choose none one other) (omega arith)
        stops (some σ) = cut-stopped (suc left) (choose (some σ) one other) (omega arith)
    go (some σ) e (inl enough) =
        let d : 1 + one.choices ≡ suc one.choices = omega arith in
        ap then (cut-enough left one enough ∙ ap (λ (o : Option (List ℕ)). ended o one.choices) e)
        ∙ ap (ended (some σ)) d
        ∙ sym (cut-enough (suc left) (choose (some σ) one other) (omega arith))
    go none e (inl enough) =
        ap then (cut-enough left one enough ∙ ap (λ (o : Option (List ℕ)). ended o one.choices) e)
        ∙ rest (at-most-or-more other.choices (left - one.choices))
      where
        rest : (other.choices ≤ left - one.choices) ⊎ (left - one.choices < other.choices)
            → after 1 (after one.choices (cut (left - one.choices) other)) ≡ cut (suc left) (choose none one other)
        rest (inl h) =
            let d : 1 + (one.choices + other.choices) ≡ suc (one.choices + other.choices) = omega arith in
            ap (λ (r : WalkEnd). after 1 (after one.choices r)) (cut-enough (left - one.choices) other h)
            ∙ ap (ended other.answer) d
            ∙ sym (cut-enough (suc left) (choose none one other) (omega arith))
        rest (inr h) =
            ap (λ (r : WalkEnd). after 1 (after one.choices r)) (cut-stopped (left - one.choices) other h)
            ∙ sym (cut-stopped (suc left) (choose none one other) (omega arith))

module _ (cs : List PropClause) (first : ℕ → Bool) where
  -- from any partial valuation
  walk-within : (n : ℕ) (π : Partial) (left : ℕ) → walk_within n cs first π left ≡ cut left (walk n cs first π)
  walk-within zero π left = cut-none left none
  walk-within (suc n) π left = go (event π cs) (lowest π) (λ τ l. walk-within n τ l)
    where
      go : (t : Status) (o : Option ℕ) → ((τ : Partial) (l : ℕ) → walk_within n cs first τ l ≡ cut l (walk n cs first τ))
          → step_within (walk_within n cs first) first π t o left ≡ cut left (walk_step (walk n cs first) first π t o)
      go failed o ih = cut-none left none
      go (forces l) o ih = ih _ left
      go quiet none ih = cut-none left (some (bytes_of π))
      go quiet (some i) ih = both left ∙ cut-choice left (walk n cs first (set π i (some (first i)))) (walk n cs first (set π i (some (not (first i)))))
        where
          π₁ : Partial
          π₁ = set π i (some (first i))

          π₂ : Partial
          π₂ = set π i (some (not (first i)))

          second : (left : ℕ) (e : WalkEnd) → other_value left e (walk_within n cs first π₂) ≡ other_value left e (λ l. cut l (walk n cs first π₂))
          second left stopped = refl
          second left (ended (some σ) k) = refl
          second left (ended none k) = ap (after k) (ih π₂ (left - k))

          both : (left : ℕ) → choose_within left (walk_within n cs first π₁) (walk_within n cs first π₂) ≡ choose_within left (λ l. cut l (walk n cs first π₁)) (λ l. cut l (walk n cs first π₂))
          both zero = refl
          both (suc left) =
              ap (after 1) (ap (λ (e : WalkEnd). other_value left e (walk_within n cs first π₂)) (ih π₁ left) ∙ second left (cut left (walk n cs first π₁)))

-- the theorem
pub walked-within : AllowedWalkHolds
unfolding walked_within walked
walked-within v cs first left = walk-within cs first (suc v) (replicate v none) left

-- at a size
pub searched-within : (used : Bool) (s : ℕ) (p : Problem) (left : ℕ) → searched_within used s p left ≡ cut left (searched_with used s p)
unfolding searched_within searched_with
searched-within used s p left = walked-within _ _ _ left
