use Rattle.std.specs.Prelude.{eqb}
use mathlib.Core.Path.{◌≡◌}
use lib.ListN.{take}
use Rattle.std.specs.List.{count_by}
use Rattle.valuations.proofs.valuation.count_ones.Given as goal

-- `count_ones` meets its contract: the ones among the bytes before b are counted.
abbrev pub invariant-loop-b : goal.invariant-loop-b
invariant-loop-b l =
    l.count ≡ count_by (λ b. eqb b 1) (take l.b-index l.cell)
