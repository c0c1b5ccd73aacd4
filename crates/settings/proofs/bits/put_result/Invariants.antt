use mathlib.Core.Path.{◌≡◌}
use lib.ListN.{take}
use Rattle.theory.specs.Valuation.{one_hot}
use Rattle.text.specs.Put.{put}
use Rattle.settings.proofs.bits.put_result.Given as goal

-- `put_result` meets its contract: the bytes of the results before d are put.
abbrev pub invariant-loop-d : goal.invariant-loop-d
invariant-loop-d l =
    l.out ≡ put l.initial.out l.first (take l.d (one_hot l.d-end l.value.0))
