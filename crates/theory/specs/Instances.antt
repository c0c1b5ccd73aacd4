-- Step 3 of document 01: the instances of a flattened clause.
use Rattle.std.specs.Prelude.{ℕ, Bool, cond, List, [], ◌∷◌, map, length, get_or, drop, eqb}
use Rattle.std.specs.Bool.{beq}
use Rattle.std.proofs.Math.Option.{Option, none, some}
use Rattle.theory.specs.Lists.{concat_map}
use Rattle.theory.specs.Vectors.{vectors}
use Rattle.theory.specs.Syntax.{Signature}
use Rattle.theory.specs.Truth.{assign}
use Rattle.theory.specs.Flattening.{FlatVariable, own, new, FlatAtom, flat_predicate, flat_result, flat_equality, FlatLiteral, FlatClause, variable_count}
use Rattle.theory.specs.Propositional.{PropClause, prop_variable}

-- the value of a flattened clause's variable under the values v of its own variables and then its new ones.
abbrev pub flat_value : List ℕ → List ℕ → FlatVariable → ℕ
flat_value owns v (own x) = assign owns v x
flat_value owns v (new i) = get_or (drop (length owns) v) i 0

-- an atom under such values: known to be true or false, or a propositional variable
pub data Ground : Type 0 where
  known : Bool → Ground
  variable : ℕ → Ground

-- the atom under the values ν
abbrev pub ground : ℕ → Signature → (FlatVariable → ℕ) → FlatAtom → Ground
ground s g ν (flat_predicate p xs) = variable (prop_variable s g p (map ν xs) 0)
ground s g ν (flat_result f xs y) = variable (prop_variable s g f (map ν xs) (ν y))
ground s g ν (flat_equality x y) = known (eqb (ν x) (ν y))

-- one literal more: a known truth drops the instance, a known falsehood drops the literal, nothing else is dropped
abbrev pub add_literal : Bool → Ground → Option PropClause → Option PropClause
add_literal sign (known b) r = cond (beq sign b) none r
add_literal sign (variable n) none = none
add_literal sign (variable n) (some c) = some (record { positive = sign; number = n } ∷ c)

-- one instance of a flattened clause, or none where it is dropped
abbrev pub instance : ℕ → Signature → (FlatVariable → ℕ) → List FlatLiteral → Option PropClause
instance s g ν [] = some []
instance s g ν (l ∷ ls) = add_literal l.sign (ground s g ν l.atom) (instance s g ν ls)

-- a list of the clause, if there is one
abbrev pub kept : Option PropClause → List PropClause
kept none = []
kept (some c) = c ∷ []

-- the instances of a flattened clause, the last variable fastest
unfoldable pub instances : ℕ → Signature → FlatClause → List PropClause
instances s g c = concat_map (λ v. kept (instance s g (flat_value c.owns v) c.literals)) (vectors s (variable_count c))
