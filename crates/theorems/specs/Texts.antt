-- The text of the clauses that document 01's steps make of a problem at a size.
use Rattle.std.specs.Prelude.{ℕ, List}
use Rattle.theory.specs.Propositional.{prop_count}
use Rattle.theory.specs.PropClauses.{prop_clauses}
use Rattle.theory.specs.Dimacs.{dimacs}
use Rattle.theory.specs.Problem.{Problem}

abbrev pub clauses_text : Problem → ℕ → List ℕ
clauses_text p size = dimacs (prop_count size p.symbols) (prop_clauses size p.symbols p.clauses)
