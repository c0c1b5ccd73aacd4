-- What a search at one size ends with is the walk over the clauses as the code has them, with so many choices allowed.
use Prim.Native.Nat.{ℕ, ◌≤◌, ◌<◌}
use mathlib.Core.Path.{◌≡◌, sym, ap, ◌∙◌}
use mathlib.Core.Logic.{◌⊎◌, inl, inr}
use mathlib.Core.Bool.{Bool}
use mathlib.Core.Option.{Option}
use mathlib.Core.List.{List}
use native.Mathlib.Omega.{arith}
use Rattle.theory.specs.Propositional.{prop_count}
use Rattle.theory.specs.Problem as theory
use Rattle.theory.specs.Walk.{walked, yes_first}
use Rattle.symmetry.specs.Obeying.{searched_with}
use Rattle.allowance.specs.AllowedWalk.{ended, stopped, searched_within}
use Rattle.allowance.specs.Claims.AllowedWalk.{cut}
use Rattle.allowance.proofs.AllowedWalk.{cut-enough, cut-stopped, at-most-or-more, searched-within}
use Rattle.syntax.specs.declared.limits.Problem.{Problem}
use Rattle.syntax.specs.Signatures.{signature_in}
use Rattle.problem.specs.Problems.{problem_in}
use Rattle.finding.specs.Searching.{sheet_clauses}

pub searched-walked : (sheet : List ℕ) (p : Problem) (size v allowed : ℕ) → v ≡ prop_count size (signature_in sheet p.signature)
    → searched_within p.symmetry size (problem_in sheet p) allowed ≡ cut allowed (walked v (sheet_clauses size sheet p) (yes_first size (signature_in sheet p.signature)))
unfolding searched_with problem_in
searched-walked sheet p size v allowed e =
    searched-within p.symmetry size (problem_in sheet p) allowed
    ∙ ap (λ (k : ℕ). cut allowed (walked k (sheet_clauses size sheet p) (yes_first size (signature_in sheet p.signature)))) (sym e)

ended-inj : (o q : Option (List ℕ)) (m n : ℕ) → ended o m ≡ ended q n → (o ≡ q) × (m ≡ n)
ended-inj o q m n e = (cc, cc)

stopped≢ended : (o : Option (List ℕ)) (n : ℕ) → stopped ≡ ended o n → ⊥
stopped≢ended o n e = let z : ◌≡◌ {A = ℕ} 0 1 = cc in omega arith

-- a search that was not stopped found what the walk finds, and made no more choices than were left
pub ended-within : (used : Bool) (s : ℕ) (p : theory.Problem) (left : ℕ) (o : Option (List ℕ)) (n : ℕ) → searched_within used s p left ≡ ended o n → ((searched_with used s p).answer ≡ o) × (n ≤ left)
ended-within used s p left o n e = go (at-most-or-more (searched_with used s p).choices left)
  where
    go : ((searched_with used s p).choices ≤ left) ⊎ (left < (searched_with used s p).choices) → ((searched_with used s p).answer ≡ o) × (n ≤ left)
    go (inl h) =
        let i = ended-inj (searched_with used s p).answer o (searched_with used s p).choices n (sym (cut-enough left (searched_with used s p) h) ∙ sym (searched-within used s p left) ∙ e) in
        (i.0, omega (arith, i.1, h))
    go (inr h) = absurd (stopped≢ended o n (sym (cut-stopped left (searched_with used s p) h) ∙ sym (searched-within used s p left) ∙ e))
