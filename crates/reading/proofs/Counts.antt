-- The counts of a sheet: functions, predicates and clauses.
use Prim.Native.Nat.{ℕ, suc, ◌+◌, ◌-◌, ◌≤◌}
use mathlib.Core.Path.{◌≡◌, refl, sym, ap, ◌∙◌}
use mathlib.Core.List.{List, [], ◌∷◌}
use native.Mathlib.Omega.{arith}
use native.Mathlib.Nat.{add-suc, suc-add}
use lib.ListN.{length}
use Rattle.theory.specs.Syntax.{Kind, function, predicate, Signature, functions, predicates}
use Rattle.theory.specs.Operations.{counts}
use Rattle.syntax.specs.declared.limits.Problem.{Problem}
use Rattle.syntax.specs.Signatures.{signature_in}
use Rattle.clauses.proofs.Held.{count-signature_in}
use Rattle.problem.specs.Problems.{problem_in, Accepted}
use Rattle.problem.proofs.Counted.{clause-count}

-- every symbol is a function or a predicate
kinds-parted : (g : Signature) → length (functions g) + length (predicates g) ≡ length g
kinds-parted [] = refl
kinds-parted (f ∷ g) = go f.kind refl (kinds-parted g)
  where
    go : (k : Kind) → f.kind ≡ k → length (functions g) + length (predicates g) ≡ length g → length (functions (f ∷ g)) + length (predicates (f ∷ g)) ≡ suc (length g)
    go function e h = rw e (suc-add (length (functions g)) (length (predicates g)) ∙ ap suc h)
    go predicate e h = rw e (add-suc (length (functions g)) (length (predicates g)) ∙ ap suc h)

-- the counts of a problem that was read
module _ (sheet : List ℕ) (p : Problem) (h : Accepted sheet p) where
  abbrev g : Signature
  g = signature_in sheet p.signature

  parted : length (functions g) + length (predicates g) ≡ p.signature.count
  parted = kinds-parted g ∙ count-signature_in p.signature h.readable.limited sheet

  pub functions-within : p.functions ≤ p.signature.count
  functions-within = omega (arith, parted, h.functions)

  pub counted : record { functions = p.functions; predicates = p.signature.count - p.functions; clauses = p.count } ≡ counts (problem_in sheet p)
  unfolding problem_in
  counted =
      let ps : p.signature.count - p.functions ≡ length (predicates g) = omega (arith, parted, h.functions) in
      let cs : p.count ≡ length (problem_in sheet p).clauses = sym (clause-count sheet p h) in
      ap (λ (n : ℕ). record { functions = n; predicates = p.signature.count - p.functions; clauses = p.count }) h.functions
      ∙ ap (λ (n : ℕ). record { functions = length (functions g); predicates = n; clauses = p.count }) ps
      ∙ ap (λ (n : ℕ). record { functions = length (functions g); predicates = length (predicates g); clauses = n }) cs
