use Prim.Native.Nat.{◌+◌, ◌≤◌}
use mathlib.Core.Path.{◌≡◌}
use lib.ListN.{length, drop}
use Rattle.theory.specs.Valuation.{first_one}
use Rattle.valuations.proofs.valuation.first_one.Given as goal

-- `first_one` meets its contract: the bytes from d on are looked at.
abbrev pub invariant-loop-d : goal.invariant-loop-d
invariant-loop-d l =
    (l.d + l.place ≤ length l.cell) × (l.place ≡ first_one (drop l.d l.cell))
