-- `propagation::advance` meets its contract.
use mathlib.Core.Path.{refl, ◌∙◌}
use Prim.Native.Nat.{◌*◌, ◌<◌}
use native.Mathlib.Omega.{arith}
use Rattle.propagation.specs.Advance.{sinking}
use Rattle.propagation.proofs.Advances.{is, sinks, scans}
use Rattle.propagation.proofs.advance.Goals as goal
use Rattle.propagation.proofs.advance.Goals.{Start}

literal : (s : Start) → sinking s.args.v s.args.head s.args.work.now < 2 * s.args.v
literal s = is s.args.v s.requires.ready.clauses s.args.head s.args.len s.args.work.now s.requires.ready.held s.requires.head_lt_len

pub bounds-work-at : goal.bounds-work-at
bounds-work-at c = omega (arith, literal (goal.at.bounds-work-at c).Start, c.requires.ready.held.room, c.negated-literal.ensures)

pub bounds-work-at-2 : goal.bounds-work-at-2
bounds-work-at-2 c = omega (arith, literal (goal.at.bounds-work-at-2 c).Start, c.requires.ready.held.room, c.negated-literal.ensures)

pub overflow_mul-literal : goal.overflow_mul-literal
overflow_mul-literal c = omega (arith, literal (goal.at.overflow_mul-literal c).Start, c.requires.ready.held.small, c.negated-literal.ensures)

pub overflow_add-literal : goal.overflow_add-literal
overflow_add-literal c = omega (arith, literal (goal.at.overflow_add-literal c).Start, c.requires.ready.held.small, c.negated-literal.ensures)

pub lower-requires : goal.lower-requires
lower-requires c = rw c.negated-literal.ensures (sinks _ _ _ _ _ c.requires.ready.held c.requires.head_lt_len)

pub scan-requires : goal.scan-requires
scan-requires c = rw (c.lower.ensures, c.negated-literal.ensures) (scans _ _ _ _ _ c.requires.ready.held c.requires.head_lt_len)

pub returns : goal.returns
returns c = c.scan.ensures ∙ rw (c.lower.ensures, c.negated-literal.ensures) refl
