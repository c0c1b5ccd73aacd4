-- Symbols, terms, literals and clauses. A symbol is meant by its place in the signature, a variable by its letter's number.
use Rattle.std.specs.Prelude.{ℕ, suc, Bool, true, false, ◌&&◌, List, [], ◌∷◌, ◌++◌, eqb, ltb, length, get_or}
use Rattle.theory.specs.Lists.{all, concat_map, distinct, select}

-- a symbol is a function or a predicate
pub data Kind : Type 0 where
  function predicate : Kind

-- the kind is that of a function
abbrev pub is_function : Kind → Bool
is_function function = true
is_function predicate = false

-- the kind is that of a predicate
abbrev pub is_predicate : Kind → Bool
is_predicate function = false
is_predicate predicate = true

-- a symbol is declared by the sheet, or a helper that stands for a term of it
pub data Origin : Type 0 where
  declared helper : Origin

-- the origin is the sheet
abbrev pub is_from_sheet : Origin → Bool
is_from_sheet declared = true
is_from_sheet helper = false

-- a symbol: its kind, its name in bytes, the number of its arguments, its origin
pub record Symbol : Type 0 where
  pub kind : Kind
  pub name : List ℕ
  pub arity : ℕ
  pub origin : Origin

-- the symbols in numbering order; a sheet's functions come first, each kind in order of declaration
abbrev pub Signature : Type 0
Signature = List Symbol

-- every symbol is declared
abbrev pub all_declared : Signature → Bool
all_declared g = all (λ (f : Symbol). is_from_sheet f.origin) g

-- what stands for a symbol past the end of a signature
abbrev pub no_symbol : Symbol
no_symbol = record { kind = predicate; name = []; arity = 0; origin = declared }

-- the symbol at a place
abbrev pub symbol_at : Signature → ℕ → Symbol
symbol_at g i = get_or g i no_symbol

-- the functions, and the predicates, of a signature in its order
abbrev pub functions : Signature → List Symbol
functions g = select (λ (f : Symbol). is_function f.kind) g

abbrev pub predicates : Signature → List Symbol
predicates g = select (λ (f : Symbol). is_predicate f.kind) g

-- A term is a variable, or a function followed by terms.
mutual
  pub data Term : Type 0 where
    variable : ℕ → Term
    apply : ℕ → Terms → Term

  pub data Terms : Type 0 where
    empty : Terms
    cons : Term → Terms → Terms

-- An atom is an equality of two terms, or a predicate followed by terms.
pub data Atom : Type 0 where
  equal : Term → Term → Atom
  holds : ℕ → Terms → Atom

-- A literal (a signed statement) is a sign, true for positive, and an atom.
pub record Literal : Type 0 where
  pub sign : Bool
  pub atom : Atom

-- A clause is a list of literals.
abbrev pub Clause : Type 0
Clause = List Literal

-- the variables of a term as they appear, repeats included
abbrev mutual
  pub term_variables : Term → List ℕ
  term_variables (variable x) = x ∷ []
  term_variables (apply f ts) = terms_variables ts

  pub terms_variables : Terms → List ℕ
  terms_variables empty = []
  terms_variables (cons t ts) = term_variables t ++ terms_variables ts

-- the variables of an atom as they appear
abbrev pub atom_variables : Atom → List ℕ
atom_variables (equal t u) = term_variables t ++ term_variables u
atom_variables (holds p ts) = terms_variables ts

-- the variables of a clause, each once, in order of first appearance
abbrev pub variables : Clause → List ℕ
variables c = distinct (concat_map (λ (l : Literal). atom_variables l.atom) c)

-- the number of terms
abbrev pub count : Terms → ℕ
count empty = 0
count (cons t ts) = suc (count ts)

-- place f of the signature has a function of n arguments
abbrev pub function_of : Signature → ℕ → ℕ → Bool
function_of g f n = ltb f (length g) && is_function (symbol_at g f).kind && eqb n (symbol_at g f).arity

-- place p of the signature has a predicate of n arguments
abbrev pub predicate_of : Signature → ℕ → ℕ → Bool
predicate_of g p n = ltb p (length g) && is_predicate (symbol_at g p).kind && eqb n (symbol_at g p).arity

-- every function of the term is declared, and stands before as many terms as its arity
abbrev mutual
  pub term_ok : Signature → Term → Bool
  term_ok g (variable x) = true
  term_ok g (apply f ts) = function_of g f (count ts) && terms_ok g ts

  pub terms_ok : Signature → Terms → Bool
  terms_ok g empty = true
  terms_ok g (cons t ts) = term_ok g t && terms_ok g ts

-- the same of an atom, with its predicate
abbrev pub atom_ok : Signature → Atom → Bool
atom_ok g (equal t u) = term_ok g t && term_ok g u
atom_ok g (holds p ts) = predicate_of g p (count ts) && terms_ok g ts

-- the clause is over the signature
abbrev pub clause_ok : Signature → Clause → Bool
clause_ok g c = all (λ (l : Literal). atom_ok g l.atom) c
