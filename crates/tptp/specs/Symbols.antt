-- The symbols and variables of TPTP clauses in order of first appearance, and the problem (document 01: a sheet) that the clauses become.
use Rattle.std.specs.Prelude.{ℕ, suc, true, false, not, List, [], ◌∷◌, ◌++◌, map}
use Rattle.theory.specs.Lists.{same, select, concat_map, place_that, or_zero}
use Rattle.theory.specs.Syntax.{function, predicate, Symbol, Signature, functions, predicates}
use Rattle.theory.specs.Syntax as sheet
use Rattle.theory.specs.Problem.{Problem, place_of_name}
use Rattle.tptp.specs.Trees.{Name, NameTerm, name_variable, name_apply, NameTerms, no_terms, term_and, NameAtom, name_holds, name_equal, NameLiteral, never, plain, tilded, unequal, NameClause}

-- what stands at a place of a clause: a variable, or a symbol of a kind with so many arguments
pub data Occurrence : Type 0 where
  of_variable : Name → Occurrence
  of_symbol : Name → sheet.Kind → ℕ → Occurrence

-- the number of terms
abbrev pub term_count : NameTerms → ℕ
term_count no_terms = 0
term_count (term_and t ts) = suc (term_count ts)

-- the variables and symbols of a term in the order of the text
abbrev mutual
  pub term_occurrences : NameTerm → List Occurrence
  term_occurrences (name_variable x) = of_variable x ∷ []
  term_occurrences (name_apply f ts) = of_symbol f function (term_count ts) ∷ terms_occurrences ts

  pub terms_occurrences : NameTerms → List Occurrence
  terms_occurrences no_terms = []
  terms_occurrences (term_and t ts) = term_occurrences t ++ terms_occurrences ts

abbrev pub atom_occurrences : NameAtom → List Occurrence
atom_occurrences (name_holds p ts) = of_symbol p predicate (term_count ts) ∷ terms_occurrences ts
atom_occurrences (name_equal t u) = term_occurrences t ++ term_occurrences u

abbrev pub literal_occurrences : NameLiteral → List Occurrence
literal_occurrences never = []
literal_occurrences (plain a) = atom_occurrences a
literal_occurrences (tilded a) = atom_occurrences a
literal_occurrences (unequal t u) = term_occurrences t ++ term_occurrences u

-- those of a clause
abbrev pub clause_occurrences : NameClause → List Occurrence
clause_occurrences c = concat_map literal_occurrences c

-- the symbol that an occurrence would declare
abbrev pub declares : Occurrence → List Symbol
declares (of_variable x) = []
declares (of_symbol f k n) = record { kind = k; name = f.bytes; arity = n; origin = sheet.declared } ∷ []

-- the variable that an occurrence names
abbrev pub names : Occurrence → List (List ℕ)
names (of_variable x) = x.bytes ∷ []
names (of_symbol f k n) = []

-- the first element of each name, in order of appearance
abbrev pub first_of_name : {A : Type 0} → (A → List ℕ) → List A → List A
first_of_name name [] = []
first_of_name name (x ∷ xs) = x ∷ select (λ y. not (same (name x) (name y))) (first_of_name name xs)

-- the symbols that the occurrences of the clauses would declare
abbrev pub declared : List NameClause → List Symbol
declared cs = concat_map (λ (c : NameClause). concat_map declares (clause_occurrences c)) cs

-- the symbols of the clauses: a name's first appearance sets its kind and arity; functions first, then predicates
unfoldable pub signature_of : List NameClause → Signature
signature_of cs =
    let fs = first_of_name (λ (f : Symbol). f.name) (declared cs) in
    functions fs ++ predicates fs

-- the variables of a clause in order of first appearance: the first becomes A, the next B
unfoldable pub variables_of : NameClause → List (List ℕ)
variables_of c = first_of_name (λ x. x) (concat_map names (clause_occurrences c))

-- the number of a variable's letter, A being 0
abbrev pub letter_of_name : List (List ℕ) → List ℕ → ℕ
letter_of_name xs x = or_zero (place_that (same x) xs)

-- the place of a name in the signature
abbrev pub symbol_of_name : Signature → List ℕ → ℕ
symbol_of_name g w = or_zero (place_of_name w g)

-- a term, atom, literal over the signature g, the variables xs becoming letters; $false leaves no literal
abbrev mutual
  pub term_over : Signature → List (List ℕ) → NameTerm → sheet.Term
  term_over g xs (name_variable x) = sheet.variable (letter_of_name xs x.bytes)
  term_over g xs (name_apply f ts) = sheet.apply (symbol_of_name g f.bytes) (terms_over g xs ts)

  pub terms_over : Signature → List (List ℕ) → NameTerms → sheet.Terms
  terms_over g xs no_terms = sheet.empty
  terms_over g xs (term_and t ts) = sheet.cons (term_over g xs t) (terms_over g xs ts)

abbrev pub atom_over : Signature → List (List ℕ) → NameAtom → sheet.Atom
atom_over g xs (name_holds p ts) = sheet.holds (symbol_of_name g p.bytes) (terms_over g xs ts)
atom_over g xs (name_equal t u) = sheet.equal (term_over g xs t) (term_over g xs u)

abbrev pub literal_as_written : Signature → List (List ℕ) → NameLiteral → sheet.Clause
literal_as_written g xs never = []
literal_as_written g xs (plain a) = record { sign = true; atom = atom_over g xs a } ∷ []
literal_as_written g xs (tilded a) = record { sign = false; atom = atom_over g xs a } ∷ []
literal_as_written g xs (unequal t u) = record { sign = false; atom = sheet.equal (term_over g xs t) (term_over g xs u) } ∷ []

-- the clause of the sheet that a clause becomes
unfoldable pub clause_over : Signature → NameClause → sheet.Clause
clause_over g c = concat_map (literal_as_written g (variables_of c)) c

-- the problem that the clauses become, all in their order
unfoldable pub problem_of : List NameClause → Problem
problem_of cs = record { symbols = signature_of cs; clauses = map (clause_over (signature_of cs)) cs }
