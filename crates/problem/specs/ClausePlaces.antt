-- What the reader of clause lines answers.
use Rattle.std.specs.Prelude.{ℕ, suc, ◌≤◌, ◌≡◌, Bool, true, false, List, ◌∷◌, length, drop}
use Rattle.theory.specs.Syntax.{Signature, Clause}
use Rattle.theory.specs.Lines.{Cut}
use Rattle.theory.specs.Refusals.{Answer, answer, refused, at_line, ◌>>=◌}
use Rattle.theory.specs.Problem.{clause_lines}
use Rattle.naming.specs.NamedReading.{named_clause_lines}
use Rattle.text.specs.Lines.{part}
use Rattle.problem.specs.Problems.{clause_at, clause_of_in, ClauseThere}
use Rattle.syntax.specs.declared.faults.Fault.{Fault}
use Rattle.syntax.specs.Faults.{number_of}
use Rattle.std.specs.Prelude.{Ok, Err, IfOk, IfErr}
use Rattle.std.specs.Prelude as rust

-- r says that the value is a clause within the limits, or what is refused of it
pub record LineHeld (named : Bool) (g : Signature) (value : List ℕ) (r : rust.Result (Unit {0}) Fault) : Type 0 where
  pub taken : IfOk r (λ _. (c : Clause) × ((l : ℕ) → clause_of_in named g l value ≡ answer c))
  pub fault : IfErr r (λ f. (l : ℕ) → clause_of_in named g l value ≡ refused (at_line (number_of f) l))

-- n clause lines from line l on, with the limits of the mode where `named` says so; and the text after them
abbrev pub clause_lines_in : Bool → ℕ → Signature → ℕ → List ℕ → Answer ((List Clause) × List ℕ)
clause_lines_in false n g l text = clause_lines n g l text
clause_lines_in true n g l text = named_clause_lines n g l text

-- what line l was read to, and n clause lines after it
abbrev pub clause_line_in : Bool → List ℕ → Signature → ℕ → ℕ → rust.Result (ℕ × ℕ) Fault → Answer ((List Clause) × List ℕ)
clause_line_in named sheet g n l (Ok (from, next)) = do
  r ← clause_lines_in named n g (suc l) (drop next sheet)
  answer (clause_at sheet g from ∷ r.0, r.1)
clause_line_in named sheet g n l (Err f) = refused (at_line (number_of f) l)

-- the clause stands within the sheet, and the next line
abbrev pub ClauseWithin : Bool → List ℕ → Signature → rust.Result (ℕ × ℕ) Fault → Type 0
ClauseWithin named sheet g (Ok (from, next)) = ClauseThere named sheet g from × (next ≤ length sheet)
ClauseWithin named sheet g (Err f) = Unit {0}

-- the clause of line l's value, and n clause lines after it
unfoldable pub clause_value : Bool → Signature → ℕ → ℕ → Cut → Answer ((List Clause) × List ℕ)
clause_value named g n l p = do
  c ← clause_of_in named g l p.0
  r ← clause_lines_in named n g (suc l) p.1
  answer (c ∷ r.0, r.1)

-- r is what the value from one place to another is read to
pub record ClauseValueRead (named : Bool) (sheet : List ℕ) (from end : ℕ) (g : Signature) (r : rust.Result (ℕ × ℕ) Fault) : Type 0 where
  pub read : (n l : ℕ) → clause_line_in named sheet g n l r ≡ clause_value named g n l (part sheet from end, drop (suc end) sheet)
  pub within : ClauseWithin named sheet g r

-- r is what the line from `at` on is read to
pub record ClauseLineRead (named : Bool) (sheet : List ℕ) (at : ℕ) (g : Signature) (r : rust.Result (ℕ × ℕ) Fault) : Type 0 where
  pub read : (n l : ℕ) → clause_line_in named sheet g n l r ≡ clause_lines_in named (suc n) g l (drop at sheet)
  pub within : ClauseWithin named sheet g r
