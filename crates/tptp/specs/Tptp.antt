-- TPTP clauses in: the statements of a text, the first fault, and the sheet that is left in the output.
use Rattle.std.specs.Prelude.{ℕ, suc, Bool, true, false, cond, not, ◌||◌, List, [], ◌∷◌, ◌++◌, map, eqb, leb, ltb, length}
use Rattle.std.specs.Bool.{beq}
use Rattle.std.proofs.Math.Option.{Option, none, some}
use Rattle.theory.specs.Lists.{concat_map, or_zero}
use Rattle.theory.specs.Syntax.{Kind, is_function, Signature, symbol_at, functions, predicates}
use Rattle.theory.specs.Grammar.{clause_words}
use Rattle.theory.specs.Problem.{max_bytes, max_symbols, max_clauses, max_arity, is_name, within_limits, place_of_name}
use Rattle.theory.specs.Refusals.{Answer, answer, refused, needing}
use Rattle.tptp.specs.Places.{refused_at}
use Rattle.tptp.specs.Tokens.{full_stop, TptpToken, is, tokens}
use Rattle.tptp.specs.Grammar.{DueToken, statement, due_after_token, may_end}
use Rattle.tptp.specs.Trees.{NameClause, Statement, statement_of}
use Rattle.tptp.specs.Symbols.{Occurrence, of_variable, of_symbol, clause_occurrences, signature_of, variables_of, letter_of_name, symbol_of_name, clause_over, problem_of}
use Rattle.theory.specs.SheetText.{sheet_text}

-- the statements of a text up to the first 15, and the place of that 15
pub record File : Type 0 where
  pub statements : List Statement
  pub foreign : Option ℕ

-- no 15, or a 15 at this place, before which no statement is whole
abbrev pub foreign_at : Option ℕ → File
foreign_at o = record { statements = []; foreign = o }

-- a statement in front of those of a file
abbrev pub with_statement : Statement → File → File
with_statement s f = record { statements = s ∷ f.statements; foreign = f.foreign }

-- the file from a token on, in a text of n bytes: the tokens of its statement so far, and what is due after them;
-- a token that cannot stand there is a 15, and so is the end of the text where it may not end
abbrev pub file_from : ℕ → List TptpToken → List TptpToken → DueToken → File
file_from n [] before d = foreign_at (cond (may_end d) none (some n))
file_from n (t ∷ ts) before d =
    elim (due_after_token d t) [
      | none ↦ foreign_at (some t.place)
      | some e ↦ elim (is full_stop t) [ true ↦ with_statement (statement_of (before ++ (t ∷ []))) (file_from n ts [] e) | false ↦ file_from n ts (before ++ (t ∷ [])) e ]
    ]

-- the file that a text is
unfoldable pub read_file : List ℕ → File
read_file text = file_from (length text) (tokens text) [] statement

-- the clauses of a file
abbrev pub clauses_of_file : File → List NameClause
clauses_of_file f = map (λ (s : Statement). s.clause) f.statements

-- a fault: its number and its place
pub record Fault : Type 0 where
  pub number : ℕ
  pub place : ℕ

-- the fault where the test holds
abbrev pub fault_if : Bool → ℕ → ℕ → List Fault
fault_if b n i = cond b (record { number = n; place = i } ∷ []) []

-- the most variables of a clause as written: A to H
abbrev pub max_letters : ℕ
max_letters = 8

-- two kinds are the same
abbrev pub same_symbol_kind : Kind → Kind → Bool
same_symbol_kind k l = beq (is_function k) (is_function l)

-- the place of a name among the symbols of its kind
abbrev pub place_in_kind : Signature → Kind → List ℕ → ℕ
place_in_kind g k w = or_zero (place_of_name w (cond (is_function k) (functions g) (predicates g)))

-- the faults of an occurrence: 16, not the kind and arity of its name's first appearance; 17, a limit of the sheet
abbrev pub occurrence_faults : Signature → List (List ℕ) → Occurrence → List Fault
occurrence_faults g xs (of_variable x) = fault_if (leb max_letters (letter_of_name xs x.bytes)) 17 x.place
occurrence_faults g xs (of_symbol f k n) =
    let h = symbol_at g (symbol_of_name g f.bytes) in
    fault_if (not (same_symbol_kind k h.kind) || not (eqb n h.arity)) 16 f.place
    ++ fault_if (ltb max_arity n || not (is_name f.bytes) || leb max_symbols (place_in_kind g k f.bytes)) 17 f.place

-- the faults of a statement in the order of their places, i statements being before it: its cnf, its variables and symbols, its full stop
abbrev pub statement_faults : Signature → ℕ → Statement → List Fault
statement_faults g i s =
    let c = clause_over g s.clause in
    fault_if (leb max_clauses i) 17 s.start
    ++ (concat_map (occurrence_faults g (variables_of s.clause)) (clause_occurrences s.clause)
    ++ fault_if (not (within_limits (clause_words c) c)) 17 s.stop)

-- the faults of statements, i others being before them
abbrev pub faults_from : Signature → ℕ → List Statement → List Fault
faults_from g i [] = []
faults_from g i (s ∷ ss) = statement_faults g i s ++ faults_from g (suc i) ss

-- the 15, if there is one
abbrev pub foreign_fault : Option ℕ → List Fault
foreign_fault none = []
foreign_fault (some p) = record { number = 15; place = p } ∷ []

-- the faults of a text: those of its whole statements before the 15, the 15, the sheet's bytes
unfoldable pub faults : List ℕ → List Fault
faults text =
    let f = read_file text in
    faults_from (signature_of (clauses_of_file f)) 0 f.statements
    ++ (foreign_fault f.foreign
    ++ fault_if (ltb max_bytes (length (sheet_text (problem_of (clauses_of_file f))))) 17 (length text))

-- the sheet's text, given an output of so many bytes: the first fault, else 11, else the text
abbrev pub sheet_in : List ℕ → List Fault → List ℕ → ℕ → Answer (List ℕ)
sheet_in text (f ∷ fs) sheet room = refused_at text f.number f.place
sheet_in text [] sheet room = cond (leb (length sheet) room) (answer sheet) (refused (needing 11 (length sheet)))

-- the sheet that a TPTP text is left as in an output of so many bytes
unfoldable pub tptp_text : List ℕ → ℕ → Answer (List ℕ)
tptp_text text room = sheet_in text (faults text) (sheet_text (problem_of (clauses_of_file (read_file text)))) room
