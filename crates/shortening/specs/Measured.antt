-- A clause that is held to the limits by its words.
use Rattle.std.specs.Prelude.{ℕ, ◌≤◌, ◌≡◌, true, List}
use Rattle.theory.specs.Syntax.{Clause, clause_ok}
use Rattle.theory.specs.Grammar.{clause_words}
use Rattle.theory.specs.Problem.{max_words}
use Rattle.syntax.specs.declared.signature.Signature.{Signature}
use Rattle.syntax.specs.Signatures.{signature_in}
use Rattle.clauses.specs.declared.clause.Words.{Words}
use Rattle.shortening.specs.HelperWords.{WordsTo}

-- w was read of the words of a clause over these symbols
pub record Measured (all : Signature) (w : Words) : Type 0 where
  pub sheet : List ℕ
  pub clause : Clause
  pub ok : w.count ≤ max_words → clause_ok (signature_in sheet all) clause ≡ true
  pub words : WordsTo (signature_in sheet all) (clause_words clause) w
