-- `opened` notes the list, or counts it where there is no room.
use native.Mathlib.Omega.{arith}
use Rattle.argument_lists.proofs.Passes.{opened-beyond, opened-noted, link-few}
use Rattle.argument_lists.proofs.pass.Lists.opened.Goals as goal

pub returns-then-n-ge-LISTS-clause-tells : goal.returns-then-n-ge-LISTS-clause-tells
returns-then-n-ge-LISTS-clause-tells c = λ ns k w us l t. opened-beyond ns k w us _ _ _ t l (omega (arith, c.if-n-ge-LISTS.true))

pub link_to-requires : goal.link_to-requires
link_to-requires c = link-few _ _ _ c.requires.0

pub returns-clause-tells : goal.returns-clause-tells
returns-clause-tells c = λ ns k w us l t. rw c.link_to.ensures (opened-noted ns k w us _ _ _ t l (omega (arith, c.if-n-ge-LISTS.false)))
