use Prim.Native.Nat.{◌*◌, ◌^◌}
use mathlib.Core.List.{map}
use lib.ListN.{take}
use Rattle.theory.specs.PropClauses.{clause_part}
use Rattle.syntax.specs.Signatures.{signature_in}
use Rattle.problem.specs.Problems.{problem_in}
use Rattle.counts.specs.Totals.{TotalOf}
use Rattle.counts.proofs.all_clause_counts.Given as goal

-- `all_clause_counts` meets its contract: the first k clauses are counted.
abbrev pub invariant-loop-k : goal.invariant-loop-k
invariant-loop-k l =
    TotalOf (map (clause_part l.size.0 (signature_in l.sheet l.p.signature)) (take l.k (problem_in l.sheet l.p).clauses)) (l.k * (26 * 2 ^ 30)) l.total
