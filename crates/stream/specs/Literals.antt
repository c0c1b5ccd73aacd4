-- The literals and the clause that codes stand for: 2x says yes to variable x, 2x + 1 says no, variables counted from 0.
use Rattle.std.specs.Prelude.{ℕ, ◌+◌, ◌/◌, ◌%◌, List, [], ◌∷◌, ◌++◌, map, eqb}
use Rattle.theory.specs.Bytes.{space}
use Rattle.theory.specs.Propositional.{PropLiteral, PropClause}
use Rattle.theory.specs.Dimacs.{literal_text}
use Rattle.propagation.specs.Clauses.{codes}

-- the literal of a code
abbrev pub literal_of : ℕ → PropLiteral
literal_of u = record { positive = eqb (u % 2) 0; number = u / 2 + 1 }

-- the clause of codes
abbrev pub prop_clause_of : List ℕ → PropClause
prop_clause_of us = map literal_of us

-- the codes of clauses
abbrev pub all_codes : List PropClause → List (List ℕ)
all_codes cs = map codes cs

-- a literal's text and the space after it
abbrev pub literal_spaced : PropLiteral → List ℕ
literal_spaced l = literal_text l ++ (space ∷ [])
