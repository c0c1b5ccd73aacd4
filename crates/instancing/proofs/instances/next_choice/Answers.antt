use borrow.Author.Rules.{rules}
use native.Mathlib.Omega.{arith}
use Rattle.instancing.proofs.Counting.{choice-vector, next-choice}
use Rattle.instancing.proofs.instances.next_choice.Goals as goal

pub step-requires : goal.step-requires
step-requires c = let z = c in
    choice-vector z.requires.0 z.requires.1 z.args.values z.requires.2 z.requires.4 z.requires.3 (omega (arith, z.requires.4.size, c.if-values-eq0.false))

pub returns : goal.returns
returns c s n i h x = next-choice s n c.args.values i x h c.step.result (search rules) c.step.ensures
