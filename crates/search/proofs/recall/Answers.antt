-- `recall` meets its contract.
use mathlib.Core.Path.{refl, ◌∙◌}
use Prim.Native.Nat.{◌*◌, ◌<◌}
use native.Mathlib.Omega.{arith}
use Rattle.propagation.specs.Advance.{sinking}
use Rattle.search.proofs.Unwinding.{literal, raisable}
use Rattle.search.proofs.recall.Goals as goal
use Rattle.search.proofs.recall.Goals.{Start}

bound : (s : Start) → sinking s.args.v s.args.place s.args.work.now < 2 * s.args.v
bound s = literal s.args.v s.requires.clauses s.args.place s.args.len s.args.work.now s.requires.held

pub bounds-work-at : goal.bounds-work-at
bounds-work-at c = omega (arith, bound (goal.at.bounds-work-at c).Start, c.requires.held.room, c.negated-against.ensures)

pub bounds-work-at-2 : goal.bounds-work-at-2
bounds-work-at-2 c = omega (arith, bound (goal.at.bounds-work-at-2 c).Start, c.requires.held.room, c.negated-against.ensures)

pub overflow_mul-against : goal.overflow_mul-against
overflow_mul-against c = omega (arith, bound (goal.at.overflow_mul-against c).Start, c.requires.held.small, c.negated-against.ensures)

pub overflow_add-against : goal.overflow_add-against
overflow_add-against c = omega (arith, bound (goal.at.overflow_add-against c).Start, c.requires.held.small, c.negated-against.ensures)

pub raise-requires : goal.raise-requires
raise-requires c = rw c.negated-against.ensures (raisable _ _ _ _ _ c.requires.held)

pub returns : goal.returns
returns c = c.raise.ensures ∙ rw c.negated-against.ensures refl
