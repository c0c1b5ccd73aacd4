-- Clause words that can be flattened.
use Rattle.std.specs.Prelude.{ℕ, ◌≤◌, List, length}
use Rattle.theory.specs.Syntax.{Signature}
use Rattle.theory.specs.Problem.{max_literals}
use Rattle.syntax.specs.declared.words.ClauseWords.{ClauseWords}
use Rattle.syntax.specs.Signatures.{Arities, Small}
use Rattle.syntax.specs.Codes.{IsClause, clause_in}

-- the clause words are a clause within the limit of literals over some signature with these arities
pub record Flattenable (arities : List ℕ) (w : ClauseWords) : Type 0 where
  pub signature : Signature
  pub table : Arities signature arities
  pub small : Small signature
  pub clause : IsClause signature w
  pub literals : length (clause_in signature w) ≤ max_literals
