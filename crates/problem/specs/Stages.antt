-- The parts of a sheet, read one after the other.
use Rattle.std.specs.Prelude.{ℕ, ◌+◌, ◌≤◌, ◌≡◌, Bool, List, [], leb, length}
use Rattle.theory.specs.Bytes.{bytes}
use Rattle.theory.specs.Syntax.{function, predicate, Signature, functions}
use Rattle.theory.specs.Refusals.{Answer, answer, unplaced, ◌>>=◌, check}
use Rattle.theory.specs.Problem.{max_bytes, max_clauses, key_line, count_line, nothing_left}
use Rattle.theory.specs.Problem as theory
use Rattle.naming.specs.FixedTerms.{named_terms}
use Rattle.naming.specs.NamedProblem.{in_mode}
use Rattle.naming.specs.NamedReading.{max_helpers}
use Rattle.syntax.specs.declared.signature.Signature as declared
use Rattle.syntax.specs.Signatures.{max_declared, signature_in}
use Rattle.clauses.specs.Names.{Readable}
use Rattle.syntax.specs.declared.limits.Problem as code
use Rattle.problem.specs.declared.sections.SheetFault.{SheetFault}
use Rattle.std.specs.Prelude.{IfOk}
use Rattle.std.specs.Prelude as rust
use Rattle.problem.specs.Sections.{section_from}
use Rattle.problem.specs.Problems.{handed_reading, HandedIn}
use Rattle.problem.specs.ClausePlaces.{clause_lines_in}

-- the symbols of a sheet are read up to `at`, where line l starts, no line after `last`; n of them are functions
pub record SymbolsRead (sheet : List ℕ) (at l last : ℕ) (s : declared.Signature) (n : ℕ) : Type 0 where
  pub within : at ≤ length sheet
  pub readable : Readable sheet s
  pub few : s.count ≤ max_declared
  pub line : l ≤ last
  pub counted : n ≡ length (functions (signature_in sheet s))

-- r is what was read, and the problem is as reading the lines leaves it
pub record ProblemRead (named : Bool) (sheet : List ℕ) (a : Answer theory.Problem) (r : rust.Result code.Problem SheetFault) : Type 0 where
  pub read : handed_reading sheet r ≡ a
  pub handed : IfOk r (HandedIn named sheet)

-- n clause lines from line l on, and nothing after them
unfoldable pub clause_lines_from : Bool → ℕ → Signature → ℕ → List ℕ → Answer theory.Problem
clause_lines_from named n g l text = do
  cs ← clause_lines_in named n g l text
  _ ← nothing_left (l + n) cs.1
  answer (record { symbols = g; clauses = cs.0 })

-- a count line, so many clause lines, and nothing after them
unfoldable pub clauses_from : Bool → Signature → ℕ → List ℕ → Answer theory.Problem
clauses_from named g l text = do
  c ← count_line (bytes "clauses=") max_clauses l text
  clause_lines_from named c.0 g (l + 1) c.1

-- the predicates, then the clauses
unfoldable pub predicates_from : Bool → Signature → ℕ → List ℕ → Answer theory.Problem
predicates_from named g l text = do
  s ← section_from (bytes "preds=") (bytes "pred=") predicate g l text
  clauses_from named s.0 s.1 s.2

-- the functions, then the rest
unfoldable pub functions_from : Bool → ℕ → List ℕ → Answer theory.Problem
functions_from named l text = do
  s ← section_from (bytes "funs=") (bytes "fun=") function [] l text
  predicates_from named s.0 s.1 s.2

-- a whole sheet, up to the end of its lines: limit 7 is that of the mode where `named` says so
unfoldable pub read_lines_in : Bool → List ℕ → Answer theory.Problem
read_lines_in named text = do
  _ ← check (leb (length text) max_bytes) (unplaced 1)
  a ← key_line (bytes "sheet=1") 1 text
  _ ← nothing_left 1 a.0
  functions_from named 2 a.1

-- 21 where there are more terms to name than helpers
abbrev pub few_helpers : theory.Problem → Answer theory.Problem
few_helpers p = check (leb (length (named_terms p.clauses)) max_helpers) (unplaced 21) >>= λ _. answer p

-- the problem of the mode for one that was handed in, or 21
abbrev pub mode_of : theory.Problem → Answer theory.Problem
mode_of p = few_helpers p >>= λ q. answer (in_mode q)
