-- The part of an input that is lent from a place to its end.
use Prim.Native.Nat.{ℕ, ◌-◌, ◌≤◌}
use mathlib.Core.Path.{◌≡◌}
use mathlib.Core.List.{List}
use native.Mathlib.Omega.{arith}
use lib.ListN.{length, take, drop, length-drop}
use lib.Seq.{take_all}

pub rest : (input : List ℕ) (next : ℕ) → next ≤ length input → take (length input - next) (drop next input) ≡ drop next input
rest input next h = take_all (length input - next) (drop next input) (omega (arith, length-drop next input))
