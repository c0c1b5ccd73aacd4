use mathlib.Core.Path.{◌≡◌}
use mathlib.Core.Bool.{false}
use lib.ListN.{length}
use Rattle.theory.specs.Least.{smallest_model}
use Rattle.problem.specs.Problems.{problem_in}
use Rattle.plain.proofs.SizeBySize.{remaining}
use Rattle.plain.proofs.sizes.search_sizes.Given as goal

-- `search_sizes` meets its contract: no size before this one has a model.
abbrev pub invariant-loop-s : goal.invariant-loop-s
invariant-loop-s l =
    (l.output ≡ l.initial.output)
    × (length l.output ≡ length l.initial.output)
    × (smallest_model (problem_in l.sheet l.p) l.range.low.0 l.range.high.0 ≡ remaining false (problem_in l.sheet l.p) l.range.high.0 l.s)
