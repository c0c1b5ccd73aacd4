use mathlib.Core.Path.{◌≡◌}
use lib.ListN.{drop}
use Rattle.theory.specs.Lists.{all}
use Rattle.theory.specs.Problem.{is_name_byte, is_name}
use Rattle.problem.proofs.symbols.is_name.Given as goal

-- `is_name` looks at one byte after the other.
abbrev pub invariant-loop-i : goal.invariant-loop-i
invariant-loop-i l =
    is_name l.name ≡ all is_name_byte (drop l.i l.name)
