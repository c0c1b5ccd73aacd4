-- Truth in a finite interpretation, in the order of source 004: variables, terms, atoms, signs, the clause, all assignments.
-- The elements of a domain of size s are 0 to s - 1; the texts write them as 1 to s.
use Rattle.std.specs.Prelude.{ℕ, suc, Bool, true, false, cond, not, List, [], ◌∷◌, length, eqb}
use Rattle.std.specs.Bool.{beq}
use Rattle.std.proofs.Math.Option.{Option, none, some}
use Rattle.theory.specs.Lists.{any, first_that}
use Rattle.theory.specs.Vectors.{vectors}
use Rattle.theory.specs.Syntax.{Term, variable, apply, Terms, empty, cons, Atom, equal, holds, Literal, Clause, variables}

-- an interpretation: the value of each function, and the truth of each predicate, at each list of elements
pub record Interpretation : Type 0 where
  pub function : ℕ → List ℕ → ℕ
  pub relation : ℕ → List ℕ → Bool

-- an assignment of elements to variables
abbrev pub Assignment : Type 0
Assignment = ℕ → ℕ

-- the value of a term: a variable's by the assignment, a function's at the values of its terms
abbrev mutual
  pub value : Interpretation → Assignment → Term → ℕ
  value I ρ (variable x) = ρ x
  value I ρ (apply f ts) = I.function f (values I ρ ts)

  pub values : Interpretation → Assignment → Terms → List ℕ
  values I ρ empty = []
  values I ρ (cons t ts) = value I ρ t ∷ values I ρ ts

-- the truth of an atom
abbrev pub atom_true : Interpretation → Assignment → Atom → Bool
atom_true I ρ (equal t u) = eqb (value I ρ t) (value I ρ u)
atom_true I ρ (holds p ts) = I.relation p (values I ρ ts)

-- the truth of a literal: its sign agrees with its atom
abbrev pub literal_true : Interpretation → Assignment → Literal → Bool
literal_true I ρ l = beq l.sign (atom_true I ρ l.atom)

-- the truth of a clause: one of its literals is true
abbrev pub clause_true : Interpretation → Assignment → Clause → Bool
clause_true I ρ c = any (literal_true I ρ) c

-- the assignment that gives the variables xs the values v, in order, and every other variable the element 0
abbrev pub assign : List ℕ → List ℕ → Assignment
assign [] v x = 0
assign (y ∷ ys) [] x = 0
assign (y ∷ ys) (d ∷ v) x = cond (eqb x y) d (assign ys v x)

-- the first choice of values for the clause's own variables under which it fails, the last variable fastest
abbrev pub failing_choice : Interpretation → ℕ → Clause → Option (List ℕ)
failing_choice I s c = first_that (λ v. not (clause_true I (assign (variables c) v) c)) (vectors s (length (variables c)))

-- a clause, counted from 0, and a choice of values under which it fails
pub record Failure : Type 0 where
  pub clause : ℕ
  pub choice : List ℕ

-- the first clause that fails, the clauses counted from i, and its first failing choice
abbrev pub first_failure : Interpretation → ℕ → ℕ → List Clause → Option Failure
first_failure I s i [] = none
first_failure I s i (c ∷ cs) = elim (failing_choice I s c) [ some v ↦ some (record { clause = i; choice = v }) | none ↦ first_failure I s (suc i) cs ]

-- no clause fails
abbrev pub no_failure : Option Failure → Bool
no_failure none = true
no_failure (some f) = false
