-- Examples of document 02's slip 7, from the bytes of a solver's text to the answer, as one claim that holds by computation (proofs/Examples).
use Rattle.std.specs.Prelude.{ℕ, ◌≡◌, List, [], ◌∷◌}
use Prim.Native.String.{String}
use Rattle.theory.specs.Bytes.{bytes}
use Rattle.theory.specs.Refusals.{Answer, answer, refused, unplaced, needing}
use Rattle.theory.specs.Examples.{two_constants, nothing_at_all}
use Rattle.solver.specs.SolverText.{Outcome, model_case, claimed_none, solver_text, solver_answer, solver_output}

-- what comes of a text for two constants that differ, at size 2, in a hundred bytes; variables 1 and 2 are those of a, 3 and 4 those of b
unfoldable pub from : String → Answer (Outcome (List ℕ))
from text = solver_text two_constants 2 (bytes text) 100

-- the table
pub record SolverExamples : Type 0 where
  pub taken : from "s SATISFIABLE\nv -1 2 3 -4 0\n" ≡ answer (model_case (bytes "case=1\nsize=2\na=2\nb=1\n"))
  pub any_order : from "c kettle\nc\ns SATISFIABLE\nv -4 3\ncnf\nv 2 -1\nv 0\ncc 1 0\n" ≡ answer (model_case (bytes "case=1\nsize=2\na=2\nb=1\n"))
  pub length : solver_answer (from "s SATISFIABLE\nv -1 2 3 -4 0\n") ≡ answer (model_case 22)
  pub output : solver_output (from "s SATISFIABLE\nv -1 2 3 -4 0\n") (bytes "a lent buffer of thirty bytes.") ≡ bytes "case=1\nsize=2\na=2\nb=1\ny bytes."
  pub claimed : from "s UNSATISFIABLE\n" ≡ answer claimed_none
  pub claimed-no-room : solver_text two_constants 2 (bytes "c x\ns UNSATISFIABLE\nc y\n") 0 ≡ answer claimed_none
  pub claimed-output : solver_output (from "s UNSATISFIABLE\n") (7 ∷ 8 ∷ []) ≡ 7 ∷ 8 ∷ []
  pub no-model : from "s SATISFIABLE\nv 1 -2 3 -4 0\n" ≡ refused (unplaced 19)
  pub no_result : from "s SATISFIABLE\nv -1 -2 3 -4 0\n" ≡ refused (unplaced 14)
  pub short : solver_text two_constants 2 (bytes "s SATISFIABLE\nv -1 2 3 -4 0\n") 21 ≡ refused (needing 11 22)
  pub no-room-last : solver_text two_constants 2 (bytes "s SATISFIABLE\nv 1 -2 3 -4 0\n") 0 ≡ refused (unplaced 19)
  pub size-first : solver_text two_constants 9 (bytes "") 0 ≡ refused (unplaced 8)
  pub no-variable : solver_text nothing_at_all 1 (bytes "s SATISFIABLE\nv 0\n") 14 ≡ answer (model_case (bytes "case=1\nsize=1\n"))
  pub no-value-line : solver_text nothing_at_all 1 (bytes "s SATISFIABLE\n") 14 ≡ refused (unplaced 18)
  pub empty : from "" ≡ refused (unplaced 18)
  pub missing : from "s SATISFIABLE\nv -1 2 3 0\n" ≡ refused (unplaced 18)
  pub doubled : from "s SATISFIABLE\nv -1 2 3 -4 2 0\n" ≡ refused (unplaced 18)
  pub above : from "s SATISFIABLE\nv -1 2 3 -4 5 0\n" ≡ refused (unplaced 18)
  pub far-above : from "s SATISFIABLE\nv -1 2 3 -4 18446744073709551617 0\n" ≡ refused (unplaced 18)
  pub no_zero : from "s SATISFIABLE\nv -1 2 3 -4\n" ≡ refused (unplaced 18)
  pub inner-zero : from "s SATISFIABLE\nv -1 2 0\nv 3 -4 0\n" ≡ refused (unplaced 18)
  pub minus-zero : from "s SATISFIABLE\nv -1 2 3 -4 -0\n" ≡ refused (unplaced 18)
  pub leading-zero : from "s SATISFIABLE\nv -1 02 3 -4 0\n" ≡ refused (unplaced 18)
  pub plus : from "s SATISFIABLE\nv -1 +2 3 -4 0\n" ≡ refused (unplaced 18)
  pub two-spaces : from "s SATISFIABLE\nv -1  2 3 -4 0\n" ≡ refused (unplaced 18)
  pub no_number : from "s SATISFIABLE\nv\nv -1 2 3 -4 0\n" ≡ refused (unplaced 18)
  pub last-space : from "s SATISFIABLE\nv -1 2 3 -4 0 \n" ≡ refused (unplaced 18)
  pub carriage-return : from "s SATISFIABLE\r\nv -1 2 3 -4 0\r\n" ≡ refused (unplaced 18)
  pub no_end : from "s SATISFIABLE\nv -1 2 3 -4 0" ≡ refused (unplaced 18)
  pub comment-no-end : from "s SATISFIABLE\nv -1 2 3 -4 0\nc" ≡ refused (unplaced 18)
  pub empty-line : from "s SATISFIABLE\n\nv -1 2 3 -4 0\n" ≡ refused (unplaced 18)
  pub values-first : from "v -1 2 3 -4 0\ns SATISFIABLE\n" ≡ refused (unplaced 18)
  pub two-verdicts : from "s UNSATISFIABLE\ns UNSATISFIABLE\n" ≡ refused (unplaced 18)
  pub none-with-values : from "s UNSATISFIABLE\nv 0\n" ≡ refused (unplaced 18)
  pub unknown : from "s UNKNOWN\n" ≡ refused (unplaced 18)
