-- Flattening: a clause is valid exactly if its flattened clause is.
use Rattle.std.specs.Prelude.{ℕ, zero, ◌<◌, ◌≡◌, ◌↔◌, Bool, true, List, map, eqb, length}
use Rattle.std.specs.Bool.{beq}
use Rattle.std.proofs.Math.Option.{none}
use Rattle.theory.specs.Lists.{any}
use Rattle.theory.specs.Vectors.{AllBelow}
use Rattle.theory.specs.Syntax.{Signature, Clause, function_of, clause_ok}
use Rattle.theory.specs.Truth.{Interpretation}
use Rattle.theory.specs.Flattening.{FlatVariable, FlatAtom, flat_predicate, flat_result, flat_equality, FlatLiteral, FlatClause, leftmost, merged, flatten, variable_count}
use Rattle.theory.specs.Instances.{flat_value}
use Rattle.theory.specs.Claims.Truth.{Valid}

-- the truth of a shallow atom under values of its variables
abbrev pub flat_atom_true : Interpretation → (FlatVariable → ℕ) → FlatAtom → Bool
flat_atom_true I ν (flat_predicate p xs) = I.relation p (map ν xs)
flat_atom_true I ν (flat_result f xs y) = eqb (I.function f (map ν xs)) (ν y)
flat_atom_true I ν (flat_equality x y) = eqb (ν x) (ν y)

-- the truth of a shallow literal
abbrev pub flat_literal_true : Interpretation → (FlatVariable → ℕ) → FlatLiteral → Bool
flat_literal_true I ν l = beq l.sign (flat_atom_true I ν l.atom)

-- one of the literals is true
abbrev pub flat_true : Interpretation → (FlatVariable → ℕ) → List FlatLiteral → Bool
flat_true I ν ls = any (flat_literal_true I ν) ls

-- a flattened clause is true under all values of its own and its new variables
abbrev pub FlatValid : Interpretation → ℕ → FlatClause → Type 0
FlatValid I s c = (v : List ℕ) → length v ≡ variable_count c → AllBelow s v → flat_true I (flat_value c.owns v) c.literals ≡ true

-- the declared functions have values below s at arguments below s
abbrev pub Closed : Signature → ℕ → Interpretation → Type 0
Closed g s I = (f : ℕ) (v : List ℕ) → function_of g f (length v) ≡ true → AllBelow s v → I.function f v < s

-- the theorem
pub record Flattening : Type 0 where
  -- step 1 leaves no negative equality of two variables
  pub none_left : (c : Clause) → leftmost (merged c) ≡ none
  -- validity is kept, for every clause over the signature
  pub validity : (g : Signature) (s : ℕ) (I : Interpretation) (c : Clause) → zero < s → Closed g s I → clause_ok g c ≡ true → Valid I s c ↔ FlatValid I s (flatten c)
