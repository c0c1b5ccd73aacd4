-- The numbers of a TPTP text's faults: 15 to 17.
use Prim.Native.Nat.{ℕ, suc}
use mathlib.Core.Path.{◌≡◌, refl, ◌∙◌}
use mathlib.Core.Bool.{Bool, true, false, not, ◌||◌}
use mathlib.Core.Option.{Option, none, some}
use mathlib.Core.List.{List, [], ◌∷◌, ◌++◌}
use lib.Dec.{eqb, ltb, leb}
use lib.ListN.{length}
use Rattle.theory.specs.Lists.{all, up_from, elem, concat_map}
use Rattle.theory.specs.Syntax.{Symbol, Signature, Clause, symbol_at}
use Rattle.theory.specs.Grammar.{clause_words}
use Rattle.theory.specs.Problem.{max_bytes, max_clauses, max_arity, max_symbols, is_name, within_limits}
use Rattle.theory.proofs.Tests.{and-join}
use Rattle.theory.proofs.Lists.{all_append}
use Rattle.tptp.specs.Trees.{Statement}
use Rattle.tptp.specs.Symbols.{Occurrence, of_variable, of_symbol, clause_occurrences, signature_of, variables_of, letter_of_name, symbol_of_name, clause_over}
use Rattle.tptp.specs.Tptp.{File, read_file, clauses_of_file, Fault, fault_if, max_letters, same_symbol_kind, place_in_kind, occurrence_faults, statement_faults, faults_from, foreign_fault, faults}
use Rattle.tptp.specs.Claims.Deciding.{sheet_of}

abbrev pub is_tptp_number : Fault → Bool
is_tptp_number f = elem f.number (up_from 15 3)

fault-numbers : (b : Bool) (n i : ℕ) → elem n (up_from 15 3) ≡ true → all is_tptp_number (fault_if b n i) ≡ true
fault-numbers true n i h = and-join (elem n (up_from 15 3)) true h refl
fault-numbers false n i h = refl

both-numbers : (xs ys : List Fault) → all is_tptp_number xs ≡ true → all is_tptp_number ys ≡ true → all is_tptp_number (xs ++ ys) ≡ true
both-numbers xs ys h k = all_append is_tptp_number xs ys ∙ and-join (all is_tptp_number xs) (all is_tptp_number ys) h k

one-numbers : (g : Signature) (xs : List (List ℕ)) (o : Occurrence) → all is_tptp_number (occurrence_faults g xs o) ≡ true
one-numbers g xs (of_variable x) = fault-numbers (leb max_letters (letter_of_name xs x.bytes)) 17 x.place refl
one-numbers g xs (of_symbol f k n) =
    let h : Symbol = symbol_at g (symbol_of_name g f.bytes) in
    let other : Bool = not (same_symbol_kind k h.kind) || not (eqb n h.arity) in
    let over : Bool = ltb max_arity n || not (is_name f.bytes) || leb max_symbols (place_in_kind g k f.bytes) in
    both-numbers (fault_if other 16 f.place) (fault_if over 17 f.place) (fault-numbers other 16 f.place refl) (fault-numbers over 17 f.place refl)

occurrence-numbers : (g : Signature) (xs : List (List ℕ)) (os : List Occurrence) → all is_tptp_number (concat_map (occurrence_faults g xs) os) ≡ true
occurrence-numbers g xs [] = refl
occurrence-numbers g xs (o ∷ os) = both-numbers (occurrence_faults g xs o) (concat_map (occurrence_faults g xs) os) (one-numbers g xs o) (occurrence-numbers g xs os)

statement-numbers : (g : Signature) (i : ℕ) (ss : List Statement) → all is_tptp_number (faults_from g i ss) ≡ true
statement-numbers g i [] = refl
statement-numbers g i (s ∷ ss) =
    let os : List Fault = concat_map (occurrence_faults g (variables_of s.clause)) (clause_occurrences s.clause) in
    let c : Clause = clause_over g s.clause in
    let over : Bool = not (within_limits (clause_words c) c) in
    both-numbers (statement_faults g i s) (faults_from g (suc i) ss)
    (both-numbers (fault_if (leb max_clauses i) 17 s.start) (os ++ fault_if over 17 s.stop) (fault-numbers (leb max_clauses i) 17 s.start refl)
    (both-numbers os (fault_if over 17 s.stop) (occurrence-numbers g (variables_of s.clause) (clause_occurrences s.clause)) (fault-numbers over 17 s.stop refl)))
    (statement-numbers g (suc i) ss)

foreign-numbers : (o : Option ℕ) → all is_tptp_number (foreign_fault o) ≡ true
foreign-numbers none = refl
foreign-numbers (some p) = refl

pub text-numbers : (text : List ℕ) → all is_tptp_number (faults text) ≡ true
unfolding faults
text-numbers text =
    let f : File = read_file text in
    let large : Bool = ltb max_bytes (length (sheet_of text)) in
    both-numbers (faults_from (signature_of (clauses_of_file f)) 0 f.statements) (foreign_fault f.foreign ++ fault_if large 17 (length text)) (statement-numbers (signature_of (clauses_of_file f)) 0 f.statements)
    (both-numbers (foreign_fault f.foreign) (fault_if large 17 (length text)) (foreign-numbers f.foreign) (fault-numbers large 17 (length text) refl))
