-- `next_argument` counts one argument of the innermost list.
use native.Mathlib.Omega.{arith}
use Rattle.argument_lists.proofs.Passes.{argument-beyond, argument-outside, argument-one, argument-many, innermost-placed}
use Rattle.argument_lists.proofs.pass.Lists.next_argument.Goals as goal

pub returns-then-p-ne0-clause-tells : goal.returns-then-p-ne0-clause-tells
returns-then-p-ne0-clause-tells c = λ ns k w us r t. argument-beyond ns k w us _ _ _ t r c.if-p-ne0.true

pub returns-in_default-clause-tells : goal.returns-in_default-clause-tells
returns-in_default-clause-tells c = λ ns k w us r t. argument-outside ns k w us _ _ _ t r c.in_default.is

pub bounds-self-k : goal.bounds-self-k
bounds-self-k c = (innermost-placed _ _ _ _ c.requires c.in-Some.is).in_counts

pub bounds-self-k-then-self-k-lt-MANY : goal.bounds-self-k-then-self-k-lt-MANY
bounds-self-k-then-self-k-lt-MANY c = (innermost-placed _ _ _ _ c.requires c.in-Some.is).in_counts

pub bounds-self-k-then-self-k-lt-MANY-2 : goal.bounds-self-k-then-self-k-lt-MANY-2
bounds-self-k-then-self-k-lt-MANY-2 c = (innermost-placed _ _ _ _ c.requires c.in-Some.is).in_counts

pub returns-then-self-k-lt-MANY-clause-tells : goal.returns-then-self-k-lt-MANY-clause-tells
returns-then-self-k-lt-MANY-clause-tells c = λ ns k w us r t. argument-one ns k w us _ _ _ t r c.if-p-ne0.false _ c.in-Some.is (innermost-placed _ _ _ _ c.requires c.in-Some.is).in_counts c.if-self-k-lt-MANY.true

pub returns-else-self-k-lt-MANY-clause-tells : goal.returns-else-self-k-lt-MANY-clause-tells
returns-else-self-k-lt-MANY-clause-tells c = λ ns k w us r t. argument-many ns k w us _ _ _ t r c.if-p-ne0.false _ c.in-Some.is (omega (arith, c.if-self-k-lt-MANY.false))
