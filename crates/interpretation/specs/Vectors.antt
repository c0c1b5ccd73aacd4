-- Argument vectors: the list of digits that one holds, and the step to the next, by ranks.
use Rattle.std.specs.Prelude.{ℕ, ◌+◌, ◌%◌, ◌^◌, ◌≤◌, ◌≡◌, List, take, replicate}
use Rattle.theory.specs.Vectors.{rank, AllBelow}
use Rattle.syntax.specs.declared.size.DomainSize.{DomainSize}
use Rattle.interpretation.specs.declared.vector.ArgumentVector.{ArgumentVector}

-- the digits of a vector
abbrev pub digits_in : ArgumentVector → List ℕ
digits_in a = take a.count a.digits

-- n digits 0, each of size s
abbrev pub first_vector : ℕ → DomainSize → ArgumentVector
first_vector n s = record { digits = replicate 10 0; count = n; size = s }

-- every digit is below the size
pub record IsVector (a : ArgumentVector) : Type 0 where
  pub places : a.count ≤ 10
  pub positive : 1 ≤ a.size.0
  pub small : a.size.0 ≤ 8
  pub below : AllBelow a.size.0 (digits_in a)

-- r has the next rank, 0 after the last
pub record IsNext (a r : ArgumentVector) : Type 0 where
  pub count : r.count ≡ a.count
  pub size : r.size.0 ≡ a.size.0
  pub vector : IsVector r
  pub next : rank a.size.0 (digits_in r) ≡ (rank a.size.0 (digits_in a) + 1) % (a.size.0 ^ a.count)
