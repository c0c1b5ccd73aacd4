-- A flattened clause with places for variables: the clause's own in order, then the new ones. Its instances are the same.
use Rattle.std.specs.Prelude.{ℕ, List, [], map}
use Rattle.lifting.specs.Places.{place_in}
use Rattle.theory.specs.Flattening.{FlatVariable, new, FlatAtom, flat_predicate, flat_result, flat_equality, FlatLiteral, FlatClause, variable_count}

-- the variable at a place; there are only new ones
abbrev pub placed_variable : List ℕ → FlatVariable → FlatVariable
placed_variable owns y = new (place_in owns y)

-- an atom with places
abbrev pub placed_atom : List ℕ → FlatAtom → FlatAtom
placed_atom owns (flat_predicate p xs) = flat_predicate p (map (placed_variable owns) xs)
placed_atom owns (flat_result f xs y) = flat_result f (map (placed_variable owns) xs) (placed_variable owns y)
placed_atom owns (flat_equality x y) = flat_equality (placed_variable owns x) (placed_variable owns y)

-- a literal with places
abbrev pub placed_literal : List ℕ → FlatLiteral → FlatLiteral
placed_literal owns l = record { sign = l.sign; atom = placed_atom owns l.atom }

-- a flattened clause with places
unfoldable pub placed : FlatClause → FlatClause
placed c = record { owns = []; news = variable_count c; literals = map (placed_literal c.owns) c.literals }
