use Prim.Native.Nat.{◌-◌, ◌≤◌}
use mathlib.Core.Path.{◌≡◌}
use Rattle.allowance.specs.AllowedSearch.{before, search_within}
use Rattle.problem.specs.Problems.{problem_in}
use Rattle.finding.proofs.SizeBySize.{remaining}
use Rattle.finding.proofs.sizes.search_sizes.Given as goal

-- `search_sizes` meets its contract: the search over all sizes goes on from this one, with the choices that are left.
abbrev pub invariant-loop-number : goal.invariant-loop-number
invariant-loop-number l =
    (l.output ≡ l.initial.output)
    × (l.made ≤ l.allowance)
    × (search_within l.p.symmetry (problem_in l.sheet l.p) l.range.low.0 l.range.high.0 l.allowance ≡ before l.made (remaining l.p.symmetry (problem_in l.sheet l.p) l.range.high.0 l.number (l.allowance - l.made)))
