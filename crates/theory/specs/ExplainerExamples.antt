-- The explainer program by example, from the bytes of its input to those of its output, as one claim that holds by computation (proofs/ExplainerExamples).
use Rattle.std.specs.Prelude.{◌≡◌, ◌++◌}
use Rattle.theory.specs.Bytes.{bytes}
use Rattle.theory.specs.Explainer.{explainer}
use Rattle.theory.specs.Examples.{one_clause, only_a}
use Rattle.theory.specs.ExplainExamples.{turned_letters, less_of_three}

-- the table
pub record ExplainerExamples : Type 0 where
  pub yes : explainer (only_a ++ bytes "case=1\nsize=2\na=1\np=1 0\n") ≡ bytes "answer=yes\n"
  pub two-letters : explainer (one_clause "+ = B A" ++ bytes "case=1\nsize=3\n") ≡ bytes "answer=no\nclause=1\nB=1\nA=2\n"
  pub three-letters : explainer (turned_letters ++ less_of_three) ≡ bytes "answer=no\nclause=2\nC=1\nA=3\nB=1\n"
  -- a case's lines are counted from its own first
  pub bad-case : explainer (only_a ++ bytes "case=1\nsize=2\na=3\np=1 0\n") ≡ bytes "answer=refused\nreason=12\nline=3\ncolumn=3\n"
  -- without a case line all is sheet, and the case is empty
  pub no-case : explainer only_a ≡ bytes "answer=refused\nreason=12\nline=1\ncolumn=1\n"
  -- the case line without its LF is one of the sheet
  pub unended-line : explainer (one_clause "+ = A A" ++ bytes "case=1") ≡ bytes "answer=refused\nreason=2\nline=6\ncolumn=1\n"
  -- a sheet without its last LF swallows the case line
  pub swallowed : explainer (bytes "sheet=1\nfuns=0\npreds=0\nclauses=1\nclause=+ = A Acase=1\nsize=2\n") ≡ bytes "answer=refused\nreason=5\nline=5\ncolumn=14\n"
