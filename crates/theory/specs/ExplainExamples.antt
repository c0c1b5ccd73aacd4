-- Explain by example, from the bytes of a sheet and a case to the reason, as one claim that holds by computation (proofs/ExplainExamples).
use Rattle.std.specs.Prelude.{ℕ, ◌≡◌, List, [], ◌∷◌}
use Rattle.std.proofs.Math.Option.{none, some}
use Rattle.theory.specs.Bytes.{bytes}
use Rattle.theory.specs.Refusals.{answer, refused, at_place}
use Rattle.theory.specs.Operations.{explain_answer}
use Rattle.theory.specs.Examples.{two_constants, one_clause, only_a}

-- two clauses, the second with three letters, C and A first; r is the relation "less" on three elements, p holds of the second
unfoldable pub turned_letters : List ℕ
turned_letters = bytes "sheet=1\nfuns=0\npreds=2\npred=r/2\npred=p/1\nclauses=2\nclause=- r A A\nclause=- r C A + p A + r A B\n"

unfoldable pub less_of_three : List ℕ
less_of_three = bytes "case=1\nsize=3\nr=0 1 1 0 0 1 0 0 0\np=0 1 0\n"

-- the table; elements and letters count from 0, clauses from 1
pub record ExplainExamples : Type 0 where
  pub model : explain_answer only_a (bytes "case=1\nsize=2\na=1\np=1 0\n") ≡ answer none
  -- letters out of alphabetical order: C, A, B are 1, 3, 1
  pub turned : explain_answer turned_letters less_of_three ≡ answer (some (record { clause = 2; letters = 2 ∷ 0 ∷ 1 ∷ []; values = 0 ∷ 2 ∷ 0 ∷ [] }))
  -- a literal that step 1 deletes is shown with both its letters
  pub merged-literal : explain_answer (one_clause "- = A B") (bytes "case=1\nsize=2\n") ≡ answer (some (record { clause = 1; letters = 0 ∷ 1 ∷ []; values = 0 ∷ 0 ∷ [] }))
  -- the last letter runs fastest
  pub last-fastest : explain_answer (one_clause "+ = B A") (bytes "case=1\nsize=3\n") ≡ answer (some (record { clause = 1; letters = 1 ∷ 0 ∷ []; values = 0 ∷ 1 ∷ [] }))
  -- a clause without letters
  pub no-letters : explain_answer two_constants (bytes "case=1\nsize=2\na=2\nb=2\n") ≡ answer (some (record { clause = 1; letters = []; values = [] }))
  pub empty-clause : explain_answer (one_clause "") (bytes "case=1\nsize=1\n") ≡ answer (some (record { clause = 1; letters = []; values = [] }))
  -- the second clause fails, and the first does not
  pub second-clause : explain_answer only_a (bytes "case=1\nsize=3\na=2\np=0 1 1\n") ≡ answer (some (record { clause = 2; letters = 0 ∷ []; values = 2 ∷ [] }))
  -- refusals of the sheet and of the case, with line and column
  pub bad-sheet : explain_answer (bytes "sheet=1\nfuns=x\n") (bytes "case=1\n") ≡ refused (at_place 2 (record { line = 2; column = 6 }))
  pub bad-case : explain_answer two_constants (bytes "case=1\nsize=2\na=3\nb=1\n") ≡ refused (at_place 12 (record { line = 3; column = 3 }))
