-- The shallow literal that the code's literal stands for.
use Rattle.std.specs.Prelude.{ℕ, false, List, [], ◌∷◌, map, get_or, take, replicate}
use Rattle.theory.specs.Syntax.{Signature, symbol_at}
use Rattle.theory.specs.Problem.{max_arity}
use Rattle.theory.specs.Flattening.{new, FlatAtom, flat_predicate, flat_result, flat_equality, FlatLiteral}
use Rattle.shallow.specs.declared.literals.Shape.{Shape}
use Rattle.shallow.specs.declared.literals.Shape.TheVariants.{Predicate, FunctionResult, VariableEquality}
use Rattle.shallow.specs.declared.literals.Literal.{Literal}

-- the three arguments
abbrev pub three : List ℕ → List ℕ
three xs = get_or xs 0 0 ∷ (get_or xs 1 0 ∷ (get_or xs 2 0 ∷ []))

-- the atom of a shape with these arguments, of which as many count as the symbol's arity
abbrev pub atom_with : Signature → List ℕ → Shape → FlatAtom
atom_with g xs (Predicate p) = flat_predicate p (map new (take (symbol_at g p).arity xs))
atom_with g xs (FunctionResult f y) = flat_result f (map new (take (symbol_at g f).arity xs)) (new y)
atom_with g xs (VariableEquality x y) = flat_equality (new x) (new y)

-- the shallow literal
abbrev pub literal_with : Signature → Literal → FlatLiteral
literal_with g k = record { sign = k.sign; atom = atom_with g (three k.arguments) k.shape }

-- what stands past the literals
abbrev pub no_literal : Literal
no_literal = record { sign = false; shape = Predicate 0; arguments = [] }

-- a literal that was not written
abbrev pub blank_literal : Literal
blank_literal = record { sign = false; shape = Predicate 0; arguments = replicate max_arity 0 }

-- literal i
abbrev pub literal_in : Signature → List Literal → ℕ → FlatLiteral
literal_in g literals i = literal_with g (get_or literals i no_literal)
