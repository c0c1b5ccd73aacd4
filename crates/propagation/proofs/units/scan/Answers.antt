use Rattle.std.proofs.Common.{rules}
use Rattle.propagation.proofs.Scans.{scanning-turn, scanning-stop}
use Rattle.propagation.proofs.units.scan.Goals as goal

pub returns-in_err-entries : goal.returns-in_err-entries
returns-in_err-entries c =
    let stop = scanning-stop _ _ _ _ _ _ _ _ c.loop-place.invariant c.loop-place-test.true _ _ c.in_err-entries.ensures in
    search (rules, stop)

pub loop-place-preserved : goal.loop-place-preserved
loop-place-preserved c =
    scanning-turn _ _ _ _ _ _ _ _ c.loop-place.invariant c.loop-place-test.true _ _ c.in_ok-entries.ensures
