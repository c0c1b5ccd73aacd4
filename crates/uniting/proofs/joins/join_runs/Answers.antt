-- `join_runs` adds the first sheet's own lines to those that are new.
use native.Mathlib.Omega.{arith}
use mathlib.Core.Path.{refl}
use Rattle.uniting.proofs.LineRuns.{run-bytes}
use Rattle.uniting.proofs.NewLines.{own-count, other-count, join-measured}
use Rattle.uniting.proofs.joins.join_runs.Goals as goal

pub overflow_add-count : goal.overflow_add-count
overflow_add-count c = let s = c in
    let a = s.args in
    omega (arith, c.new_lines-added.ensures.count, own-count a.first.now a.second.now a.own a.other s.requires.0 s.requires.1, other-count a.first.now a.second.now a.own a.other s.requires.0 s.requires.1)

pub overflow_sub-bytes : goal.overflow_sub-bytes
overflow_sub-bytes c = let s = c in (run-bytes s.args.first.now s.args.own s.requires.0).0

pub returns : goal.returns
returns c = let s = c in
    let a = s.args in
    let n = c.new_lines-added in record { joined = join-measured a.first.now a.second.now a.own a.other s.requires.0 s.requires.1 n.result n.ensures.measured n.ensures.count n.ensures.bytes; first = refl; second = refl }
