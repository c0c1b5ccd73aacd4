-- The choices of values for a clause's variables, counted through.
use Rattle.std.specs.Prelude.{ℕ, ◌^◌, ◌≤◌, ◌<◌, ◌≡◌, [], length, get_or}
use Rattle.theory.specs.Vectors.{vectors}
use Rattle.interpretation.specs.declared.vector.ArgumentVector.{ArgumentVector}
use Rattle.interpretation.specs.Vectors.{digits_in}

-- a is number i of all choices of n values below s, if there are so many
pub record ChoiceAt (s n : ℕ) (a : ArgumentVector) (i : ℕ) : Type 0 where
  pub count : a.count ≡ n
  pub size : a.size.0 ≡ s
  pub small : s ≤ 8
  pub places : n ≤ 10
  pub long : length a.digits ≡ 10
  pub chosen : i < s ^ n → digits_in a ≡ get_or (vectors s n) i []
