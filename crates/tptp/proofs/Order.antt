-- The first fault, statement by statement.
use Prim.Native.Nat.{ℕ, suc}
use mathlib.Core.Path.{◌≡◌, refl, sym, ap, ◌∙◌}
use mathlib.Core.Bool.{Bool, true, not, ◌&&◌}
use mathlib.Core.Option.{Option}
use mathlib.Core.List.{List, [], ◌∷◌, ◌++◌, append_assoc}
use lib.Dec.{eqb, leb}
use Rattle.theory.specs.Lists.{all, same, concat_map}
use Rattle.theory.specs.Syntax.{function, predicate, is_function, Symbol, Signature, symbol_at}
use Rattle.theory.specs.Grammar as words
use Rattle.theory.specs.Least.{or_else}
use Rattle.theory.specs.Problem.{is_named, within_limits}
use Rattle.theory.proofs.Tests.{and_left, and_right, and-join, or_right, beq-true}
use Rattle.theory.proofs.Lists.{all-imply, any_append, concat_map-map}
use Rattle.tptp.specs.Trees.{Statement}
use Rattle.tptp.specs.Symbols.{Occurrence, of_variable, of_symbol, clause_occurrences, declares, signature_of, variables_of, symbol_of_name, clause_over}
use Rattle.tptp.specs.Tptp.{Fault, fault_if, same_symbol_kind, occurrence_faults, statement_faults, faults_from}
use Rattle.tptp.specs.Claims.Order.{first_fault, declared_by, signature_by, first_fault_from}
use Rattle.tptp.specs.Claims.Order as claims
use Rattle.tptp.proofs.Fresh.{self-named}
use Rattle.tptp.proofs.Taken.{sound, limited, clean, occurrences-clean}
use Rattle.tptp.proofs.SoFar.{occurrences-so-far, settled_at, limits-so-far}

-- the first of two lists of faults is the first of the one, else of the other
pub first-fault-append : (xs ys : List Fault) → first_fault (xs ++ ys) ≡ or_else (first_fault xs) (first_fault ys)
first-fault-append [] ys = refl
first-fault-append (x ∷ xs) ys = refl

module _ (X Y : List Symbol) where
  abbrev now : Signature
  now = signature_by X

  abbrev later : Signature
  later = signature_by (X ++ Y)

  abbrev named : Symbol → Bool
  named f = is_named f.name X

  -- an occurrence without faults is settled
  settle : (xs : List (List ℕ)) (os : List Occurrence) → all (sound now xs) os ≡ true → all named (concat_map declares os) ≡ true → all (settled_at X Y) os ≡ true
  settle xs [] h k = refl
  settle xs (of_variable x ∷ os) h k = settle xs os (and_right (sound now xs (of_variable x)) (all (sound now xs) os) h) k
  settle xs (of_symbol f function n ∷ os) h k =
      let e : Symbol = symbol_at now (symbol_of_name now f.bytes) in
      let one : (same_symbol_kind function e.kind && eqb n e.arity) ≡ true = and_left (same_symbol_kind function e.kind && eqb n e.arity) (all (sound now xs) os) h in
      and-join (is_named f.bytes X && is_function e.kind) (all (settled_at X Y) os)
      (and-join (is_named f.bytes X) (is_function e.kind) (and_left (is_named f.bytes X) (all named (concat_map declares os)) k)
      (sym (beq-true (is_function e.kind)) ∙ and_left (same_symbol_kind function e.kind) (eqb n e.arity) one))
      (settle xs os (and_right (same_symbol_kind function e.kind && eqb n e.arity) (all (sound now xs) os) h) (and_right (is_named f.bytes X) (all named (concat_map declares os)) k))
  settle xs (of_symbol f predicate n ∷ os) h k =
      let e : Symbol = symbol_at now (symbol_of_name now f.bytes) in
      settle xs os (and_right (same_symbol_kind predicate e.kind && eqb n e.arity) (all (sound now xs) os) h) (and_right (is_named f.bytes X) (all named (concat_map declares os)) k)

  -- a statement whose symbols have appeared has the same first fault
  statement-so-far : (i : ℕ) (s : Statement) → all named (declared_by s.clause) ≡ true → first_fault (statement_faults later i s) ≡ first_fault (statement_faults now i s)
  statement-so-far i s h =
      ap (λ (b : List Fault). first_fault (a ++ (b ++ d later))) (occurrences-so-far X Y xs os h) ∙ go (concat_map (occurrence_faults now xs) os) refl
    where
      xs : List (List ℕ)
      xs = variables_of s.clause

      os : List Occurrence
      os = clause_occurrences s.clause

      a : List Fault
      a = fault_if (leb 64 i) 17 s.start

      d : Signature → List Fault
      d g = fault_if (not (within_limits (words.clause_words (clause_over g s.clause)) (clause_over g s.clause))) 17 s.stop

      go : (b : List Fault) → concat_map (occurrence_faults now xs) os ≡ b → first_fault (a ++ (b ++ d later)) ≡ first_fault (a ++ (b ++ d now))
      go (x ∷ b) e = first-fault-append a ((x ∷ b) ++ d later) ∙ sym (first-fault-append a ((x ∷ b) ++ d now))
      go [] e =
          let c : clean now xs os ≡ true = occurrences-clean now xs os e in
          let st : all (settled_at X Y) os ≡ true = settle xs os (and_left (all (sound now xs) os) (all (limited now) (concat_map declares os)) c) h in
          ap (λ (b : Bool). first_fault (a ++ fault_if (not b) 17 s.stop)) (limits-so-far X Y s.clause st)

declared-by : (ss : List Statement) → List Symbol
declared-by ss = concat_map (λ (s : Statement). declared_by s.clause) ss

first-from : (ss : List Statement) (X : List Symbol) (i : ℕ) → first_fault_from X i ss ≡ first_fault (faults_from (signature_by (X ++ declared-by ss)) i ss)
unfolding declared-by
first-from [] X i = refl
first-from (s ∷ ss) X i =
    let D : List Symbol = declared_by s.clause in
    let X₁ : List Symbol = X ++ D in
    let Y : List Symbol = concat_map (λ (s : Statement). declared_by s.clause) ss in
    let whole : X ++ (D ++ Y) ≡ X₁ ++ Y = sym (append_assoc X D Y) in
    let names : all (λ (f : Symbol). is_named f.name X₁) D ≡ true =
    all-imply (λ (f : Symbol). is_named f.name D) (λ (f : Symbol). is_named f.name X₁) D
    (λ f h. any_append (λ (u : Symbol). same f.name u.name) X D ∙ or_right (is_named f.name X) (is_named f.name D) h) (self-named D) in
    ap (λ (o : Option Fault). or_else o (first_fault_from X₁ (suc i) ss)) (sym (statement-so-far X₁ Y i s names))
    ∙ ap (or_else (first_fault (statement_faults (signature_by (X₁ ++ Y)) i s))) (first-from ss X₁ (suc i))
    ∙ sym (first-fault-append (statement_faults (signature_by (X₁ ++ Y)) i s) (faults_from (signature_by (X₁ ++ Y)) (suc i) ss))
    ∙ ap (λ (l : List Symbol). first_fault (faults_from (signature_by l) i (s ∷ ss))) (sym whole)

pub order : claims.Order
unfolding signature_of declared-by
order =
    record {
      stream = λ ss. first-from ss [] 0 ∙ ap (λ (l : List Symbol). first_fault (faults_from (signature_by l) 0 ss)) (sym (concat_map-map declared_by (λ (s : Statement). s.clause) ss));
    }
