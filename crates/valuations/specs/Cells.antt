-- The bytes of cells' variables, and the values that they say.
use Rattle.std.specs.Prelude.{ℕ, List, eqb, length, take, drop, replicate}
use Rattle.theory.specs.Lists.{select}
use Rattle.theory.specs.Syntax.{Kind}
use Rattle.theory.specs.Valuation.{values_of}

-- n bytes from a place on
abbrev pub bits_at : List ℕ → ℕ → ℕ → List ℕ
bits_at σ from n = take n (drop from σ)

-- how many bytes are 1
abbrev pub ones : List ℕ → ℕ
ones bits = length (select (eqb 1) bits)

-- the values of n cells of one kind, whose bytes start at a place
abbrev pub cell_values : ℕ → Kind → ℕ → ℕ → List ℕ → List ℕ
cell_values s k n from σ = values_of s (replicate n k) (drop from σ)
