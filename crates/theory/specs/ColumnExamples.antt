-- Number, line and column of refused sheets and cases, and one as the finder prints it, as one claim that holds by computation (proofs/ColumnExamples).
use Rattle.std.specs.Prelude.{ℕ, ◌≡◌, List, [], ◌∷◌, ◌++◌}
use Prim.Native.String.{String}
use Rattle.theory.specs.Bytes.{bytes}
use Rattle.theory.specs.Refusals.{Answer, answer, refused}
use Rattle.theory.specs.DueLines.{sheet_symbols}
use Rattle.theory.specs.Columns.{placed_problem, placed_case}
use Rattle.theory.specs.Operations.{find_result}
use Rattle.theory.specs.Program.{program_work, program_output, printed}

-- number, line and column of a refusal
abbrev pub refusal_place : {A : Type 0} → Answer A → List ℕ
refusal_place (answer a) = []
refusal_place (refused r) = r.number ∷ r.place.line ∷ r.place.column ∷ []

-- those of the sheet of these bytes
unfoldable pub of_sheet : String → List ℕ
of_sheet s = refusal_place (placed_problem (bytes s))

-- a sheet with a constant a, a function f of one argument, a predicate p of two, and one clause
unfoldable pub with_clause : String → List ℕ
with_clause c = bytes "sheet=1\nfuns=2\nfun=a/0\nfun=f/1\npreds=1\npred=p/2\nclauses=1\nclause=" ++ (bytes c ++ bytes "\n")

-- those of that sheet
unfoldable pub of_clause : String → List ℕ
of_clause c = refusal_place (placed_problem (with_clause c))

-- those of a case of its symbols
unfoldable pub of_case : String → List ℕ
of_case c = refusal_place (placed_case (sheet_symbols (with_clause "")) (bytes c))

-- the table
pub record ColumnExamples : Type 0 where
  pub empty : of_sheet "" ≡ 2 ∷ 1 ∷ 1 ∷ []
  pub no-LF : of_sheet "sheet=1" ≡ 2 ∷ 1 ∷ 8 ∷ []
  pub heading : of_sheet "sheet=2\n" ≡ 2 ∷ 1 ∷ 7 ∷ []
  pub no-count : of_sheet "sheet=1\nfuns=\n" ≡ 2 ∷ 2 ∷ 6 ∷ []
  pub no_digit : of_sheet "sheet=1\nfuns=1x" ≡ 2 ∷ 2 ∷ 7 ∷ []
  pub leading-zero : of_sheet "sheet=1\nfuns=01\n" ≡ 2 ∷ 2 ∷ 7 ∷ []
  pub three-digits : of_sheet "sheet=1\nfuns=123\n" ≡ 2 ∷ 2 ∷ 8 ∷ []
  pub missing : of_sheet "sheet=1\nfuns=1\n" ≡ 2 ∷ 3 ∷ 1 ∷ []
  pub no-arity : of_sheet "sheet=1\nfuns=1\nfun=a\n" ≡ 2 ∷ 3 ∷ 6 ∷ []
  pub bad-arity : of_sheet "sheet=1\nfuns=1\nfun=a/x\n" ≡ 2 ∷ 3 ∷ 8 ∷ []
  pub two_digits : of_sheet "sheet=1\nfuns=1\nfun=a/12\n" ≡ 2 ∷ 3 ∷ 9 ∷ []
  pub bad-key : of_sheet "sheet=1\nfuns=1\nfan=a/0\n" ≡ 2 ∷ 3 ∷ 2 ∷ []
  pub after-end : of_sheet "sheet=1\nfuns=0\npreds=0\nclauses=0\n\n" ≡ 2 ∷ 5 ∷ 1 ∷ []
  pub over-count : of_sheet "sheet=1\nfuns=13\n" ≡ 3 ∷ 2 ∷ 6 ∷ []
  pub over-arity : of_sheet "sheet=1\nfuns=1\nfun=ab/4\n" ≡ 3 ∷ 3 ∷ 8 ∷ []
  pub empty_name : of_sheet "sheet=1\nfuns=1\nfun=/0\n" ≡ 4 ∷ 3 ∷ 5 ∷ []
  pub repeated : of_sheet "sheet=1\nfuns=1\nfun=a/0\npreds=1\npred=a/1\n" ≡ 4 ∷ 5 ∷ 6 ∷ []
  pub unknown : of_clause "+ p a b" ≡ 5 ∷ 8 ∷ 14 ∷ []
  pub trailing : of_clause "+ p a a " ≡ 5 ∷ 8 ∷ 16 ∷ []
  pub misplaced : of_clause "+ p a + a" ≡ 6 ∷ 8 ∷ 14 ∷ []
  pub unfinished : of_clause "+ p a" ≡ 6 ∷ 8 ∷ 13 ∷ []
  pub words : of_clause "+ = f f f f f f f f f f f f f f f f f f f f f f f f f f f f f f f f f f f f f f f f f f f f f f f f f f f f f f f f f f f f f A A" ≡ 7 ∷ 8 ∷ 136 ∷ []
  pub literals : of_clause "+ p A A + p A A + p A A + p A A + p A A + p A A + p A A + p A A + p A A + p A A + p A A + p A A + p A A + p A A + p A A + p A A + p A A" ≡ 7 ∷ 8 ∷ 136 ∷ []
  pub variables : of_clause "+ = f f f f f f f f f f f f A A" ≡ 7 ∷ 8 ∷ 1 ∷ []
  pub size : of_case "case=1\nsize=9\n" ≡ 12 ∷ 2 ∷ 6 ∷ []
  pub value : of_case "case=1\nsize=2\na=3\n" ≡ 12 ∷ 3 ∷ 3 ∷ []
  pub short : of_case "case=1\nsize=2\na=2\nf=1\n" ≡ 12 ∷ 4 ∷ 4 ∷ []
  pub long : of_case "case=1\nsize=2\na=2\nf=1 2 1\n" ≡ 12 ∷ 4 ∷ 6 ∷ []
  pub extra : of_case "case=1\nsize=1\na=1\nf=1\np=0\n\n" ≡ 12 ∷ 6 ∷ 1 ∷ []
  pub shown : printed (find_result (bytes "sheet=2\n") 1 3 program_work program_output) ≡ bytes "answer=refused\nreason=2\nline=1\ncolumn=7\n"
