-- `pop` meets its contract.
use Rattle.search.proofs.Popping.{popped-kept, popped-down}
use Rattle.search.proofs.pop.Goals as goal

pub returns-then-place-head-clause-pops : goal.returns-then-place-head-clause-pops
returns-then-place-head-clause-pops c cs k = popped-down _ _ _ _ _ k c.requires.len_nonzero c.if-place-head.true _ c.recall.ensures

pub returns-clause-pops : goal.returns-clause-pops
returns-clause-pops c cs k = popped-kept _ _ _ _ _ k c.requires.len_nonzero c.if-place-head.false
