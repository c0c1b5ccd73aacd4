-- What is known of a text's statements, one by one and together.
use Rattle.std.specs.Prelude.{ℕ, ◌≤◌, ◌<◌, ◌≡◌, true, List, [], ◌++◌, length, take, Ok, Err}
use Rattle.std.specs.Prelude as rust
use Rattle.std.proofs.Math.Option.{Option, none, some}
use Rattle.theory.specs.Syntax.{Symbol}
use Rattle.theory.specs.Grammar.{clause_words}
use Rattle.theory.specs.Problem.{max_clauses}
use Rattle.syntax.specs.declared.signature.Signature.{Signature}
use Rattle.syntax.specs.declared.words.ClauseWords.{ClauseWords}
use Rattle.syntax.specs.Faults.{number_of}
use Rattle.syntax.specs.Signatures.{signature_in}
use Rattle.syntax.specs.Codes.{words_in}
use Rattle.tptp.specs.Trees.{NameClause, Statement, statement_of}
use Rattle.tptp.specs.Symbols.{clause_over, problem_of}
use Rattle.tptp.specs.Scanning.{clause_entries}
use Rattle.tptp.specs.Places.{refused_at}
use Rattle.tptp.specs.Tptp.{read_file, clauses_of_file, Fault, statement_faults, tptp_text}
use Rattle.tptp.specs.Claims.Order.{first_fault, declared_by, signature_by}
use Rattle.tptp.specs.Claims.Deciding.{first_of_statements, declared_in}
use Rattle.statements.specs.Follows.{own_tokens, WholeAt}
use Rattle.declaring.specs.declared.symbols.Symbols.{Symbols}
use Rattle.declaring.specs.Tables.{TableOf, LimitedTable}
use Rattle.sheet_text.specs.Parts.{Writable, lines_of_clauses}
use Rattle.importing.specs.declared.faults.TextFault.{TextFault}
use Rattle.importing.specs.declared.survey.Checked.{Checked}
use Rattle.importing.specs.declared.survey.Survey.{Survey}
use Rattle.importing.specs.Entered.{entries_fit}
use Rattle.importing.specs.Noting.{fault_of}

-- w are the words of the clause c over the signature, each entry having one
pub record LineWords (text : List ℕ) (s : Signature) (c : NameClause) (w : ClauseWords) : Type 0 where
  pub writable : Writable text s w
  pub words : words_in w ≡ clause_words (clause_over (signature_in text s) c)
  pub fit : entries_fit (signature_in text s) [] (clause_entries c) ≡ true

-- a whole statement comes next after the symbols of the table
pub record StatementStands (text : List ℕ) (start stop : ℕ) (t : Symbols) : Type 0 where
  pub at : ℕ
  pub end : ℕ
  pub whole : WholeAt text at start stop end
  pub limited : LimitedTable text t
  pub symbols : List Symbol
  pub table : TableOf text symbols t

-- the first fault of the statement s after i others, where X would be declared before it
abbrev pub fault_after : List Symbol → ℕ → Statement → Option Fault
fault_after X i s = first_fault (statement_faults (signature_by (X ++ declared_by s.clause)) i s)

-- the statement s after i others has no fault, and r is the table with its symbols and the words of its clause
pub record StatementClean (text : List ℕ) (s : Statement) (i : ℕ) (t : Symbols) (r : Checked) : Type 0 where
  pub clean : (X : List Symbol) → TableOf text X t → fault_after X i s ≡ none
  pub limited : LimitedTable text r.table
  pub table : (X : List Symbol) → TableOf text X t → TableOf text (X ++ declared_by s.clause) r.table
  pub words : (X : List Symbol) → TableOf text X t → LineWords text r.table.signature s.clause r.words
  pub few : i < max_clauses

-- the first fault of the statement s after i others
pub record StatementFaulty (text : List ℕ) (s : Statement) (i : ℕ) (t : Symbols) (f : TextFault) : Type 0 where
  pub fault : (X : List Symbol) → TableOf text X t → fault_after X i s ≡ some (fault_of f)
  pub within : f.place ≤ length text

-- r is what the statement s after i others makes of the table
abbrev pub StatementOf : List ℕ → Statement → ℕ → Symbols → rust.Result Checked TextFault → Type 0
StatementOf text s i t (Ok r) = StatementClean text s i t r
StatementOf text s i t (Err f) = StatementFaulty text s i t f

abbrev pub StatementChecked : List ℕ → ℕ → ℕ → ℕ → Symbols → rust.Result Checked TextFault → Type 0
StatementChecked text start stop i t r = (at end : ℕ) → WholeAt text at start stop end → StatementOf text (statement_of (own_tokens text at)) i t r

-- the lines of the clauses of a text
abbrev pub lines_in : List ℕ → List ℕ
lines_in text = let p = problem_of (clauses_of_file (read_file text)) in lines_of_clauses p.symbols p.clauses

-- all statements are whole and clean, their symbols are in the table, and their lines have this length
pub record CleanSurvey (text : List ℕ) (r : Survey) : Type 0 where
  pub foreign : (read_file text).foreign ≡ none
  pub clean : first_of_statements text ≡ none
  pub limited : LimitedTable text r.table
  pub table : TableOf text (declared_in (read_file text).statements) r.table
  pub count : r.count ≡ length (read_file text).statements
  pub few : r.count ≤ max_clauses
  pub measured : r.length ≡ length (lines_in text)
  pub short : r.length ≤ 53760

-- the lines stand at the front, if they have room there
abbrev pub LinesHeld : List ℕ → List ℕ → Survey → Type 0
LinesHeld text lines r = r.length ≤ length lines → take r.length lines ≡ lines_in text

-- f is the first fault of a text
pub record TextRefused (text : List ℕ) (f : TextFault) : Type 0 where
  pub refused : (room : ℕ) → tptp_text text room ≡ refused_at text (number_of f.fault) f.place
  pub within : f.place ≤ length text

-- r is the survey of a text
abbrev pub Surveyed : List ℕ → List ℕ → rust.Result Survey TextFault → Type 0
Surveyed text lines (Ok r) = CleanSurvey text r × LinesHeld text lines r
Surveyed text lines (Err f) = TextRefused text f
