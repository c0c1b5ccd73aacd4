use Prim.Native.Nat.{◌≤◌}
use mathlib.Core.Path.{◌≡◌}
use mathlib.Core.List.{map}
use lib.ListN.{get_or}
use Rattle.theory.specs.Lists.{select, up_to}
use Rattle.twins.specs.Constants.{marked_at, held_bases}
use Rattle.twins.proofs.constants.constants_of.Given as goal

-- `constants_of` meets its contract: the constants among the symbols before i are noted.
abbrev pub invariant-loop-i : goal.invariant-loop-i
invariant-loop-i l =
    (l.constants.count ≤ l.i) × (held_bases l.constants ≡ map (λ i'. get_or l.n.bases i' 0) (select (marked_at l.signature) (up_to l.i)))
