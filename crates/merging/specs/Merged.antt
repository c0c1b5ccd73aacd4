-- One round of step 1 on codes, and what the whole step answers.
use Rattle.std.specs.Prelude.{ℕ, ◌+◌, ◌≡◌, cond, List, ◌++◌, map, eqb, get_or, take, drop}
use Rattle.theory.specs.Syntax.{Signature}
use Rattle.theory.specs.Flattening as theory
use Rattle.syntax.specs.declared.words.ClauseWords.{ClauseWords}
use Rattle.syntax.specs.Codes.{IsClause, clause_in}

-- put the code x for the code y
abbrev pub renamed_code : ℕ → ℕ → ℕ → ℕ
renamed_code x y n = cond (eqb n y) x n

-- the codes without the four from `at` on
abbrev pub deleted_at : List ℕ → ℕ → List ℕ
deleted_at ns at = take at ns ++ drop (at + 4) ns

-- and the third of the four put for the fourth
abbrev pub without_at : List ℕ → ℕ → List ℕ
without_at ns at = deleted_at (map (renamed_code (get_or ns (at + 2) 0) (get_or ns (at + 3) 0)) ns) at

-- r is the clause of c after step 1
pub record Merged (g : Signature) (c r : ClauseWords) : Type 0 where
  pub is_clause : IsClause g r
  pub clause : clause_in g r ≡ theory.merged (clause_in g c)
