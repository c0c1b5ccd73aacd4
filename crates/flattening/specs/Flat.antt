-- The flattened clause that the code's literals stand for.
use Rattle.std.specs.Prelude.{ℕ, ◌≤◌, List, [], map}
use Rattle.theory.specs.Lists.{up_to}
use Rattle.theory.specs.Syntax.{Signature}
use Rattle.theory.specs.Problem.{max_variables}
use Rattle.theory.specs.Flattening as theory
use Rattle.syntax.specs.declared.words.ClauseWords.{ClauseWords}
use Rattle.syntax.specs.Codes.{clause_in}
use Rattle.shallow.specs.Literals.{literal_in}
use Rattle.shallow.specs.Flattenable.{Flattenable}
use Rattle.flattening.specs.declared.flat.FlatClause.{FlatClause}

-- the flattened clause, with places for variables
unfoldable pub flat_in : Signature → FlatClause → theory.FlatClause
flat_in g c = record { owns = []; news = c.variables; literals = map (literal_in g c.literals) (up_to c.count) }

-- and it is within the limit of variables after flattening
pub record WithinLimits (arities : List ℕ) (w : ClauseWords) : Type 0 where
  pub clause : Flattenable arities w
  pub variables : theory.variable_count (theory.flatten (clause_in clause.signature w)) ≤ max_variables
