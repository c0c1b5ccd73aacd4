-- `write_at` meets its contract.
use native.Mathlib.Omega.{arith}
use Rattle.theory.specs.Refusals.{unplaced}
use Rattle.answers.proofs.Answering.{refuses, answers-as}
use Rattle.writing.proofs.Refusing.{too_many, not-too-many}
use Rattle.writing.proofs.write_at.Goals as goal

pub returns-then-c-gt-MAX_INSTANCES : goal.returns-then-c-gt-MAX_INSTANCES
returns-then-c-gt-MAX_INSTANCES c =
    refuses _ (unplaced 9) c.at_line.result c.args.output.now (too_many _ _ _ _ (omega (arith, c.if-c-gt-MAX_INSTANCES.true, c.counts_at-c.ensures.instances))) c.at_line.ensures

pub returns : goal.returns
returns c = let w = c.write_text in
    answers-as _ _ w.result c.args.output.now _ (not-too-many _ _ _ _ (omega (arith, c.if-c-gt-MAX_INSTANCES.false, c.counts_at-c.ensures.instances))) w.ensures
