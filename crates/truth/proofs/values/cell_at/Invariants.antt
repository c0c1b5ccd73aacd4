use Prim.Native.Nat.{ℕ, ◌≤◌, ◌<◌}
use mathlib.Core.Path.{◌≡◌}
use mathlib.Core.List.{List}
use lib.ListN.{length, take}
use Rattle.theory.specs.Vectors as vectors
use Rattle.truth.proofs.values.cell_at.Given as goal

-- `cell_at` meets its contract: the rank of the arguments before i.

-- the rank of the first i arguments
pub record Ranked (s : ℕ) (arguments : List ℕ) (i rank : ℕ) : Type 0 where
  pub within : i ≤ length arguments
  pub is : rank ≡ vectors.rank s (take i arguments)
  pub small : rank < 512

abbrev pub invariant-loop-i : goal.invariant-loop-i
invariant-loop-i l =
    Ranked l.s l.arguments l.i l.rank
