-- Deciding: the answer is told by the first fault, statement by statement and in a statement one occurrence after the other, each by the symbols and variables up to itself.
use Rattle.std.specs.Prelude.{ℕ, ◌≡◌, cond, not, List, [], ◌∷◌, ◌++◌, ltb, leb, length}
use Rattle.std.proofs.Math.Option.{Option, none, some}
use Rattle.theory.specs.Lists.{concat_map}
use Rattle.theory.specs.Syntax.{Symbol}
use Rattle.theory.specs.Grammar.{clause_words}
use Rattle.theory.specs.Least.{or_else}
use Rattle.theory.specs.Problem.{max_bytes, max_clauses, within_limits}
use Rattle.theory.specs.Refusals.{answer, refused, needing}
use Rattle.tptp.specs.Places.{refused_at}
use Rattle.tptp.specs.Trees.{Statement}
use Rattle.tptp.specs.Symbols.{Occurrence, clause_occurrences, declares, names, first_of_name, clause_over, problem_of}
use Rattle.theory.specs.SheetText.{sheet_text}
use Rattle.tptp.specs.Tptp.{read_file, clauses_of_file, Fault, fault_if, occurrence_faults, statement_faults, foreign_fault, faults, tptp_text}
use Rattle.tptp.specs.Claims.Order.{first_fault, declared_by, signature_by, first_fault_from}

-- the sheet of a text's clauses
abbrev pub sheet_of : List ℕ → List ℕ
sheet_of text = sheet_text (problem_of (clauses_of_file (read_file text)))

-- the first fault of the text's whole statements, told statement by statement
abbrev pub first_of_statements : List ℕ → Option Fault
first_of_statements text = first_fault_from [] 0 (read_file text).statements

-- what comes after the statements: the 15, the sheet's bytes
abbrev pub last_fault : List ℕ → Option Fault
last_fault text = first_fault (foreign_fault (read_file text).foreign ++ fault_if (ltb max_bytes (length (sheet_of text))) 17 (length text))

-- the symbols that statements would declare
abbrev pub declared_in : List Statement → List Symbol
declared_in ss = concat_map (λ (s : Statement). declared_by s.clause) ss

-- the first fault of occurrences, the symbols X and the variables U having appeared before them; what comes later is not looked at
abbrev pub first_of_occurrences : List Symbol → List (List ℕ) → List Occurrence → Option Fault
first_of_occurrences X U [] = none
first_of_occurrences X U (o ∷ os) =
    let own = first_fault (occurrence_faults (signature_by (X ++ declares o)) (first_of_name (λ y. y) (U ++ names o)) o) in
    let later = first_of_occurrences (X ++ declares o) (U ++ names o) os in
    or_else own later

-- the limits of a statement's clause, by the symbols X and its own
abbrev pub first_of_limits : List Symbol → Statement → Option Fault
first_of_limits X s = let c = clause_over (signature_by (X ++ declared_by s.clause)) s.clause in first_fault (fault_if (not (within_limits (clause_words c) c)) 17 s.stop)

-- the theorem
pub record Deciding : Type 0 where
  -- a fault of a whole statement decides
  pub by-statement : (text : List ℕ) (room : ℕ) (f : Fault) → first_of_statements text ≡ some f → tptp_text text room ≡ refused_at text f.number f.place
  -- else the 15
  pub by-foreign : (text : List ℕ) (room p : ℕ) → first_of_statements text ≡ none → (read_file text).foreign ≡ some p → tptp_text text room ≡ refused_at text 15 p
  -- else the sheet's bytes, then 11
  pub by_bytes : (text : List ℕ) (room : ℕ) → first_of_statements text ≡ none → (read_file text).foreign ≡ none
      → tptp_text text room ≡ cond (ltb max_bytes (length (sheet_of text))) (refused_at text 17 (length text)) (cond (leb (length (sheet_of text)) room) (answer (sheet_of text)) (refused (needing 11 (length (sheet_of text)))))
  -- a text of which the first statements are whole and clean is refused no earlier than in the next one
  pub no-earlier : (text : List ℕ) (ss rest : List Statement) → (read_file text).statements ≡ ss ++ rest → first_fault_from [] 0 ss ≡ none
      → first_fault (faults text) ≡ or_else (first_fault_from (declared_in ss) (length ss) rest) (last_fault text)
  -- a statement's first fault, i others and the symbols X being before it: its cnf, its occurrences one by one, its full stop
  pub in-statement : (X : List Symbol) (i : ℕ) (s : Statement) → first_fault (statement_faults (signature_by (X ++ declared_by s.clause)) i s)
      ≡ or_else (first_fault (fault_if (leb max_clauses i) 17 s.start)) (or_else (first_of_occurrences X [] (clause_occurrences s.clause)) (first_of_limits X s))
