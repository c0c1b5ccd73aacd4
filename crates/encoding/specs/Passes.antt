-- A pass over all clauses of a problem.
use Rattle.std.specs.Prelude.{ℕ, cond, List, []}
use Rattle.theory.specs.Propositional.{PropClause}
use Rattle.symmetry.specs.ConstantClauses.{prop_clauses_with}
use Rattle.syntax.specs.declared.limits.Problem as limits
use Rattle.syntax.specs.Signatures.{signature_in}
use Rattle.problem.specs.Problems.{problem_in}
use Rattle.stream.specs.Consuming.{Effect, Consumes, Consumed}
use Rattle.twins.specs.TwinPart.{twin_part}

-- at x, all clauses of the problem that p is in a sheet come next, in written order
abbrev pub AllNext : {S : Type 0} → Effect S → List ℕ → limits.Problem → ℕ → S → Type 0
AllNext effect sheet p s x = Consumes effect (prop_clauses_with p.symmetry s (problem_in sheet p).symbols (problem_in sheet p).clauses) x

-- from x to y, they were taken
abbrev pub AllTaken : {S : Type 0} → Effect S → List ℕ → limits.Problem → ℕ → S → S → Type 0
AllTaken effect sheet p s x y = Consumed effect (prop_clauses_with p.symmetry s (problem_in sheet p).symbols (problem_in sheet p).clauses) x y

-- the constant clauses that p uses
abbrev pub twins_used : ℕ → List ℕ → limits.Problem → List PropClause
twins_used s sheet p = cond p.symmetry (twin_part s (signature_in sheet p.signature)) []

-- at x, they come next; they are the same in each sheet that the symbols have their names in
abbrev pub UsedNext : {S : Type 0} → Effect S → limits.Problem → ℕ → S → Type 0
UsedNext effect p s x = (sheet : List ℕ) × Consumes effect (twins_used s sheet p) x

-- from x to y, they were taken
abbrev pub UsedTaken : {S : Type 0} → Effect S → limits.Problem → ℕ → S → S → Type 0
UsedTaken effect p s x y = (sheet : List ℕ) → Consumed effect (twins_used s sheet p) x y
