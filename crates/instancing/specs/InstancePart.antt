-- The instances of a problem's clauses.
use Rattle.std.specs.Prelude.{ℕ, List, [], get_or}
use Rattle.theory.specs.Lists.{concat_map}
use Rattle.theory.specs.Flattening.{flatten}
use Rattle.theory.specs.Propositional.{PropClause}
use Rattle.theory.specs.Instances.{instances}
use Rattle.theory.specs.Problem.{Problem}
use Rattle.syntax.specs.declared.limits.Problem as limits
use Rattle.problem.specs.Problems.{problem_in}
use Rattle.stream.specs.Consuming.{Effect, Consumes, Consumed}

-- the instances of clause k
unfoldable pub instances_of : ℕ → Problem → ℕ → List PropClause
instances_of s p k = instances s p.symbols (flatten (get_or p.clauses k []))

-- the instances of all clauses, clause by clause
unfoldable pub instance_part : ℕ → Problem → List PropClause
instance_part s p = concat_map (λ c. instances s p.symbols (flatten c)) p.clauses

-- at x, the instances of clause k of the problem that p is in a sheet come next
abbrev pub ClauseNext : {S : Type 0} → Effect S → List ℕ → limits.Problem → ℕ → ℕ → S → Type 0
ClauseNext effect sheet p k s x = Consumes effect (instances_of s (problem_in sheet p) k) x

-- from x to y, they were taken
abbrev pub ClauseTaken : {S : Type 0} → Effect S → List ℕ → limits.Problem → ℕ → ℕ → S → S → Type 0
ClauseTaken effect sheet p k s x y = Consumed effect (instances_of s (problem_in sheet p) k) x y

-- at x, the instances of all its clauses come next
abbrev pub InstancesNext : {S : Type 0} → Effect S → List ℕ → limits.Problem → ℕ → S → Type 0
InstancesNext effect sheet p s x = Consumes effect (instance_part s (problem_in sheet p)) x

-- from x to y, they were taken
abbrev pub InstancesTaken : {S : Type 0} → Effect S → List ℕ → limits.Problem → ℕ → S → S → Type 0
InstancesTaken effect sheet p s x y = Consumed effect (instance_part s (problem_in sheet p)) x y
