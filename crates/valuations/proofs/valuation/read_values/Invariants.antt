use mathlib.Core.Path.{◌≡◌}
use lib.ListN.{take}
use Rattle.theory.specs.Valuation.{setting_of}
use Rattle.valuations.proofs.valuation.read_values.Given as goal

-- `read_values` meets its contract: the first i bytes are written.
abbrev pub invariant-loop-i : goal.invariant-loop-i
invariant-loop-i l =
    take l.i l.setting ≡ setting_of (take l.i l.values)
