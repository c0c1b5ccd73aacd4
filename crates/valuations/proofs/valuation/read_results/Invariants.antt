use mathlib.Core.Path.{◌≡◌}
use lib.ListN.{take, drop, replicate}
use Rattle.theory.specs.Syntax as theory
use Rattle.theory.specs.Valuation.{values_of}
use Rattle.valuations.proofs.valuation.read_results.Given as goal

-- `read_results` meets its contract: the first r values are read.
abbrev pub invariant-loop-r : goal.invariant-loop-r
invariant-loop-r l =
    take l.r l.table ≡ values_of l.size.0 (replicate l.r theory.function) (drop l.first l.setting)
