-- `closed` counts down, or goes to the list around.
use native.Mathlib.Omega.{arith}
use Rattle.argument_lists.proofs.Passes.{closed-beyond, closed-outside, closed-noted, innermost-placed}
use Rattle.argument_lists.proofs.pass.Lists.closed.Goals as goal

pub returns-then-p-ne0-clause-tells : goal.returns-then-p-ne0-clause-tells
returns-then-p-ne0-clause-tells c = λ ns k w us r t. closed-beyond ns k w us _ _ _ t r c.if-p-ne0.true

pub returns-in_default-clause-tells : goal.returns-in_default-clause-tells
returns-in_default-clause-tells c = λ ns k w us r t. closed-outside ns k w us _ _ _ t r c.in_default.is

pub offset_bounds-self-k : goal.offset_bounds-self-k
offset_bounds-self-k c = omega (arith, (innermost-placed _ _ _ _ c.requires c.in-Some.is).few)

pub bounds-self-k : goal.bounds-self-k
bounds-self-k c = (innermost-placed _ _ _ _ c.requires c.in-Some.is).in_links

pub returns-clause-tells : goal.returns-clause-tells
returns-clause-tells c = λ ns k w us r t. rw c.if-p-ne0.false (closed-noted ns k w us _ _ _ t r c.if-p-ne0.false _ c.in-Some.is _ c.linked.ensures)
