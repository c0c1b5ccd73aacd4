-- Laws for a caller that reads statement by statement: the first fault decides the answer, and each occurrence is judged by the symbols and variables up to itself.
use Prim.Native.Nat.{ℕ, suc, ◌+◌}
use mathlib.Core.Path.{◌≡◌, refl, sym, ap, ◌∙◌}
use mathlib.Core.Bool.{Bool, true, false, cond, not}
use mathlib.Core.Option.{Option, none, some}
use mathlib.Core.List.{List, [], ◌∷◌, ◌++◌, append_assoc, append-nil}
use native.Mathlib.Omega.{arith}
use native.Mathlib.Nat.{add-zero}
use lib.Dec.{ltb, leb}
use lib.ListN.{length}
use Rattle.theory.specs.Lists.{any, all, same, concat_map, place_that, or_zero}
use Rattle.theory.specs.Syntax.{Symbol, Signature}
use Rattle.theory.specs.Grammar as words
use Rattle.theory.specs.Least.{or_else}
use Rattle.theory.specs.Problem.{is_named, within_limits}
use Rattle.theory.specs.Refusals.{Answer, answer, refused, needing}
use Rattle.theory.proofs.Tests.{or_left, or_right}
use Rattle.theory.proofs.Lists.{any_append, same_refl, all-imply}
use Rattle.theory.proofs.Finding.{any→place_that, place_that-append}
use Rattle.tptp.specs.Places.{refused_at}
use Rattle.tptp.specs.Trees.{Statement}
use Rattle.tptp.specs.Symbols.{Occurrence, of_variable, of_symbol, clause_occurrences, declares, names, first_of_name, signature_of, variables_of, letter_of_name, clause_over}
use Rattle.tptp.specs.Tptp.{File, read_file, clauses_of_file, Fault, fault_if, occurrence_faults, statement_faults, faults_from, foreign_fault, faults, sheet_in, tptp_text}
use Rattle.tptp.specs.Claims.Order.{first_fault, declared_by, signature_by, first_fault_from}
use Rattle.tptp.specs.Claims.Deciding.{sheet_of, first_of_statements, last_fault, declared_in, first_of_occurrences}
use Rattle.tptp.specs.Claims.Deciding as claims
use Rattle.tptp.proofs.Fresh.{self-named}
use Rattle.tptp.proofs.Models.{first-has}
use Rattle.tptp.proofs.SoFar.{first-append, occurrence-so-far}
use Rattle.tptp.proofs.Order.{first-fault-append, order}

-- the answer, by the first fault
abbrev answer_by : List ℕ → Option Fault → List ℕ → ℕ → Answer (List ℕ)
answer_by text (some f) sheet room = refused_at text f.number f.place
answer_by text none sheet room = cond (leb (length sheet) room) (answer sheet) (refused (needing 11 (length sheet)))

by_first : (text : List ℕ) (fs : List Fault) (sheet : List ℕ) (room : ℕ) → sheet_in text fs sheet room ≡ answer_by text (first_fault fs) sheet room
by_first text [] sheet room = refl
by_first text (f ∷ fs) sheet room = refl

-- the first fault of all: that of the statements, else the last
pub first-of-all : (text : List ℕ) → first_fault (faults text) ≡ or_else (first_of_statements text) (last_fault text)
unfolding faults
first-of-all text =
    let f : File = read_file text in
    first-fault-append (faults_from (signature_of (clauses_of_file f)) 0 f.statements) (foreign_fault f.foreign ++ fault_if (ltb 16384 (length (sheet_of text))) 17 (length text))
    ∙ ap (λ (o : Option Fault). or_else o (last_fault text)) (sym (order.stream f.statements))

by_all : (text : List ℕ) (room : ℕ) → tptp_text text room ≡ answer_by text (or_else (first_of_statements text) (last_fault text)) (sheet_of text) room
unfolding tptp_text
by_all text room = by_first text (faults text) (sheet_of text) room ∙ ap (λ (o : Option Fault). answer_by text o (sheet_of text) room) (first-of-all text)

-- a fault of a whole statement decides
pub by-statement : (text : List ℕ) (room : ℕ) (f : Fault) → first_of_statements text ≡ some f → tptp_text text room ≡ refused_at text f.number f.place
by-statement text room f h = by_all text room ∙ ap (λ (o : Option Fault). answer_by text (or_else o (last_fault text)) (sheet_of text) room) h

-- else the 15
pub by-foreign : (text : List ℕ) (room p : ℕ) → first_of_statements text ≡ none → (read_file text).foreign ≡ some p → tptp_text text room ≡ refused_at text 15 p
by-foreign text room p h k =
    let last : List Fault = fault_if (ltb 16384 (length (sheet_of text))) 17 (length text) in
    by_all text room
    ∙ ap (λ (o : Option Fault). answer_by text (or_else o (last_fault text)) (sheet_of text) room) h
    ∙ ap (λ (o : Option ℕ). answer_by text (first_fault (foreign_fault o ++ last)) (sheet_of text) room) k

-- else the sheet's bytes
pub by_bytes : (text : List ℕ) (room : ℕ) → first_of_statements text ≡ none → (read_file text).foreign ≡ none
    → tptp_text text room ≡ cond (ltb 16384 (length (sheet_of text))) (refused_at text 17 (length text)) (cond (leb (length (sheet_of text)) room) (answer (sheet_of text)) (refused (needing 11 (length (sheet_of text)))))
by_bytes text room h k =
    by_all text room
    ∙ ap (λ (o : Option Fault). answer_by text (or_else o (last_fault text)) (sheet_of text) room) h
    ∙ ap (λ (o : Option ℕ). answer_by text (first_fault (foreign_fault o ++ fault_if (ltb 16384 (length (sheet_of text))) 17 (length text))) (sheet_of text) room) k
    ∙ go (ltb 16384 (length (sheet_of text)))
  where
    go : (b : Bool) → answer_by text (first_fault (fault_if b 17 (length text))) (sheet_of text) room
        ≡ cond b (refused_at text 17 (length text)) (cond (leb (length (sheet_of text)) room) (answer (sheet_of text)) (refused (needing 11 (length (sheet_of text)))))
    go true = refl
    go false = refl

-- after clean statements the rest decides, by the symbols so far
pub after-clean : (ss rest : List Statement) (X : List Symbol) (i : ℕ) → first_fault_from X i ss ≡ none → first_fault_from X i (ss ++ rest) ≡ first_fault_from (X ++ declared_in ss) (i + length ss) rest
after-clean [] rest X i h = ap (λ (Y : List Symbol). first_fault_from Y i rest) (sym (append-nil X)) ∙ ap (λ (n : ℕ). first_fault_from (X ++ []) n rest) (sym (add-zero i))
after-clean (s ∷ ss) rest X i h =
    go (first_fault (statement_faults (signature_by X₁) i s)) h (λ k. after-clean ss rest X₁ (suc i) k)
  where
    D : List Symbol
    D = declared_by s.clause

    X₁ : List Symbol
    X₁ = X ++ D

    go : (o : Option Fault) → or_else o (first_fault_from X₁ (suc i) ss) ≡ none → (first_fault_from X₁ (suc i) ss ≡ none → first_fault_from X₁ (suc i) (ss ++ rest) ≡ first_fault_from (X₁ ++ declared_in ss) (suc i + length ss) rest)
        → or_else o (first_fault_from X₁ (suc i) (ss ++ rest)) ≡ first_fault_from (X ++ (D ++ declared_in ss)) (i + suc (length ss)) rest
    go (some f) k ih = let z : ◌≡◌ {A = ℕ} 0 1 = cc in absurd (omega arith)
    go none k ih =
        let e : suc i + length ss ≡ i + suc (length ss) = omega arith in
        ih k ∙ ap (λ (Y : List Symbol). first_fault_from Y (suc i + length ss) rest) (append_assoc X D (declared_in ss)) ∙ ap (λ (n : ℕ). first_fault_from (X ++ (D ++ declared_in ss)) n rest) e

-- a fault of earlier statements decides, whatever follows
pub before-fault : (ss rest : List Statement) (X : List Symbol) (i : ℕ) (f : Fault) → first_fault_from X i ss ≡ some f → first_fault_from X i (ss ++ rest) ≡ some f
before-fault [] rest X i f h = let z : ◌≡◌ {A = ℕ} 0 1 = cc in absurd (omega arith)
before-fault (s ∷ ss) rest X i f h =
    go (first_fault (statement_faults (signature_by (X ++ declared_by s.clause)) i s)) h (λ k. before-fault ss rest (X ++ declared_by s.clause) (suc i) f k)
  where
    Y : List Symbol
    Y = X ++ declared_by s.clause

    go : (o : Option Fault) → or_else o (first_fault_from Y (suc i) ss) ≡ some f → (first_fault_from Y (suc i) ss ≡ some f → first_fault_from Y (suc i) (ss ++ rest) ≡ some f) → or_else o (first_fault_from Y (suc i) (ss ++ rest)) ≡ some f
    go (some e) k ih = k
    go none k ih = ih k

-- a variable's letter is told by the variables so far
pub letter-so-far : (U W : List (List ℕ)) (x : List ℕ) → any (same x) U ≡ true → letter_of_name (first_of_name (λ y. y) (U ++ W)) x ≡ letter_of_name (first_of_name (λ y. y) U) x
letter-so-far U W x h =
    let r = first-append (λ (y : List ℕ). y) U W in
    let p = any→place_that (same x) (first_of_name (λ y. y) U) (first-has (λ (y : List ℕ). y) x U h) in
    ap or_zero (ap (place_that (same x)) r.1 ∙ place_that-append (same x) (first_of_name (λ y. y) U) r.0 p.0 p.1 ∙ sym p.1)

-- a name stands in a list that it ends
pub here : (x : List ℕ) (U : List (List ℕ)) → any (same x) (U ++ (x ∷ [])) ≡ true
here x U = any_append (same x) U (x ∷ []) ∙ or_right (any (same x) U) (any (same x) (x ∷ [])) (or_left (same x x) false (same_refl x))

-- an occurrence has the same faults where more symbols and variables are known
judged-alike : (X Y : List Symbol) (U W : List (List ℕ)) (o : Occurrence)
    → occurrence_faults (signature_by ((X ++ declares o) ++ Y)) (first_of_name (λ y. y) ((U ++ names o) ++ W)) o ≡ occurrence_faults (signature_by (X ++ declares o)) (first_of_name (λ y. y) (U ++ names o)) o
judged-alike X Y U W (of_variable x) = ap (λ (n : ℕ). fault_if (leb 8 n) 17 x.place) (letter-so-far (U ++ (x.bytes ∷ [])) W x.bytes (here x.bytes U))
judged-alike X Y U W (of_symbol f k n) =
    let D : List Symbol = declares (of_symbol f k n) in
    let named : all (λ (u : Symbol). is_named u.name (X ++ D)) D ≡ true =
    all-imply (λ (u : Symbol). is_named u.name D) (λ (u : Symbol). is_named u.name (X ++ D)) D
    (λ u h. any_append (λ (v : Symbol). same u.name v.name) X D ∙ or_right (is_named u.name X) (is_named u.name D) h) (self-named D) in
    occurrence-so-far (X ++ D) Y (first_of_name (λ y. y) ((U ++ []) ++ W)) (of_symbol f k n) named

-- so the first fault of occurrences is told one by one
pub one_by_one : (os : List Occurrence) (X : List Symbol) (U : List (List ℕ))
    → first_fault (concat_map (occurrence_faults (signature_by (X ++ concat_map declares os)) (first_of_name (λ y. y) (U ++ concat_map names os))) os) ≡ first_of_occurrences X U os
one_by_one [] X U = refl
one_by_one (o ∷ os) X U =
    let D : List Symbol = concat_map declares os in
    let N : List (List ℕ) = concat_map names os in
    let X₁ : List Symbol = X ++ declares o in
    let U₁ : List (List ℕ) = U ++ names o in
    let whole : List Symbol → List (List ℕ) → List Fault = λ Z T. concat_map (occurrence_faults (signature_by Z) (first_of_name (λ y. y) T)) (o ∷ os) in
    ap (λ (Z : List Symbol). first_fault (whole Z (U ++ (names o ++ N)))) (sym (append_assoc X (declares o) D))
    ∙ ap (λ (T : List (List ℕ)). first_fault (whole (X₁ ++ D) T)) (sym (append_assoc U (names o) N))
    ∙ first-fault-append (occurrence_faults (signature_by (X₁ ++ D)) (first_of_name (λ y. y) (U₁ ++ N)) o) (concat_map (occurrence_faults (signature_by (X₁ ++ D)) (first_of_name (λ y. y) (U₁ ++ N))) os)
    ∙ ap (λ (l : List Fault). or_else (first_fault l) (first_fault (concat_map (occurrence_faults (signature_by (X₁ ++ D)) (first_of_name (λ y. y) (U₁ ++ N))) os))) (judged-alike X D U N o)
    ∙ ap (or_else (first_fault (occurrence_faults (signature_by X₁) (first_of_name (λ y. y) U₁) o))) (one_by_one os X₁ U₁)

-- the first fault of a statement, i others and the symbols X being before it: its cnf, its occurrences one by one, its full stop
pub of-statement : (X : List Symbol) (i : ℕ) (s : Statement)
    → first_fault (statement_faults (signature_by (X ++ declared_by s.clause)) i s)
    ≡ or_else (first_fault (fault_if (leb 64 i) 17 s.start)) (or_else (first_of_occurrences X [] (clause_occurrences s.clause))
    (first_fault (fault_if (not (within_limits (words.clause_words (clause_over (signature_by (X ++ declared_by s.clause)) s.clause)) (clause_over (signature_by (X ++ declared_by s.clause)) s.clause))) 17 s.stop)))
unfolding variables_of
of-statement X i s =
    let g : Signature = signature_by (X ++ declared_by s.clause) in
    let os : List Occurrence = clause_occurrences s.clause in
    let b : List Fault = concat_map (occurrence_faults g (variables_of s.clause)) os in
    let d : List Fault = fault_if (not (within_limits (words.clause_words (clause_over g s.clause)) (clause_over g s.clause))) 17 s.stop in
    first-fault-append (fault_if (leb 64 i) 17 s.start) (b ++ d)
    ∙ ap (or_else (first_fault (fault_if (leb 64 i) 17 s.start))) (first-fault-append b d ∙ ap (λ (o : Option Fault). or_else o (first_fault d)) (one_by_one os X []))

-- after clean statements the rest decides
no-earlier : (text : List ℕ) (ss rest : List Statement) → (read_file text).statements ≡ ss ++ rest → first_fault_from [] 0 ss ≡ none → first_fault (faults text) ≡ or_else (first_fault_from (declared_in ss) (length ss) rest) (last_fault text)
no-earlier text ss rest e h =
    let n : 0 + length ss ≡ length ss = omega arith in
    first-of-all text
    ∙ ap (λ (l : List Statement). or_else (first_fault_from [] 0 l) (last_fault text)) e
    ∙ ap (λ (o : Option Fault). or_else o (last_fault text)) (after-clean ss rest [] 0 h)
    ∙ ap (λ (k : ℕ). or_else (first_fault_from (declared_in ss) k rest) (last_fault text)) n

pub deciding : claims.Deciding
deciding = record { by-statement = by-statement; by-foreign = by-foreign; by_bytes = by_bytes; no-earlier = no-earlier; in-statement = of-statement }
