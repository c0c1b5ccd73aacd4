-- Truth of TPTP clauses where names mean functions and relations over elements; it knows nothing of sheets.
use Rattle.std.specs.Prelude.{ℕ, ◌<◌, ◌≡◌, Bool, true, false, not, List, [], ◌∷◌, eqb}
use Rattle.theory.specs.Lists.{any}
use Rattle.tptp.specs.Trees.{Name, NameTerm, name_variable, name_apply, NameTerms, no_terms, term_and, NameAtom, name_holds, name_equal, NameLiteral, never, plain, tilded, unequal, NameClause}

-- what names mean: the value of each function, and the truth of each predicate, at each list of elements
pub record Meaning : Type 0 where
  pub function : List ℕ → List ℕ → ℕ
  pub relation : List ℕ → List ℕ → Bool

-- an assignment of elements to variables
abbrev pub NameAssignment : Type 0
NameAssignment = List ℕ → ℕ

-- the value of a term
abbrev mutual
  pub name_value : Meaning → NameAssignment → NameTerm → ℕ
  name_value M ρ (name_variable x) = ρ x.bytes
  name_value M ρ (name_apply f ts) = M.function f.bytes (name_values M ρ ts)

  pub name_values : Meaning → NameAssignment → NameTerms → List ℕ
  name_values M ρ no_terms = []
  name_values M ρ (term_and t ts) = name_value M ρ t ∷ name_values M ρ ts

-- the truth of an atom
abbrev pub name_atom_true : Meaning → NameAssignment → NameAtom → Bool
name_atom_true M ρ (name_holds p ts) = M.relation p.bytes (name_values M ρ ts)
name_atom_true M ρ (name_equal t u) = eqb (name_value M ρ t) (name_value M ρ u)

-- the truth of a literal
abbrev pub name_literal_true : Meaning → NameAssignment → NameLiteral → Bool
name_literal_true M ρ never = false
name_literal_true M ρ (plain a) = name_atom_true M ρ a
name_literal_true M ρ (tilded a) = not (name_atom_true M ρ a)
name_literal_true M ρ (unequal t u) = not (eqb (name_value M ρ t) (name_value M ρ u))

-- the truth of a clause: one of its literals is true
abbrev pub name_clause_true : Meaning → NameAssignment → NameClause → Bool
name_clause_true M ρ c = any (name_literal_true M ρ) c

-- the clause is true under every assignment of elements 0 to s - 1
abbrev pub NamesValid : Meaning → ℕ → NameClause → Type 0
NamesValid M s c = (ρ : NameAssignment) → ((x : List ℕ) → ρ x < s) → name_clause_true M ρ c ≡ true

-- every clause of the list is
abbrev pub AllNamesValid : Meaning → ℕ → List NameClause → Type 0
AllNamesValid M s [] = Unit {0}
AllNamesValid M s (c ∷ cs) = NamesValid M s c × AllNamesValid M s cs
