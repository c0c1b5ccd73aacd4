use Rattle.propagation.proofs.Scans.{Scanning}
use Rattle.propagation.proofs.units.scan.Given as goal

-- `units::scan` meets its contract. The invariant of its loop: the scan of what is left gives what the contract says.
abbrev pub invariant-loop-place : goal.invariant-loop-place
invariant-loop-place l =
    Scanning l.initial.work l.v l.from l.to l.len l.work l.entries l.place
