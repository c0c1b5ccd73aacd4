use borrow.Author.Rules.{rules}
use mathlib.Core.Path.{◌≡◌, refl}
use native.Mathlib.Omega.{arith}
use lib.ListN.{length}
use Rattle.judging.proofs.ClausesLent.{codes-below, few-own, clause-held}
use Rattle.judging.proofs.Unfailed.{none-failed, all-passed, none_passed, choice-lent, choice-fails, choice-passes, clause-passes}
use Rattle.judging.proofs.failures.first_failure.Goals as goal

pub walk-init : goal.walk-init
walk-init c = (refl, none-failed _ _ _ _)

pub clause_words-c-requires : goal.clause_words-c-requires
clause_words-c-requires c = (c.requires.accepted, (omega arith))

pub variables_of-variables-requires : goal.variables_of-variables-requires
variables_of-variables-requires c = let z = c in
    let w = c.clause_words-c in
    (w.ensures.accepted.clause.fits, codes-below _ _ z.requires.accepted _ w.result w.ensures (search rules))

pub power-choices-requires : goal.power-choices-requires
power-choices-requires c = let z = c in
    let w = c.clause_words-c in
    let v = c.variables_of-variables in
    (omega (arith, z.requires.size), omega (arith, few-own _ _ z.requires.accepted _ w.result w.ensures (search rules) v.result v.ensures))

pub loop-i-init : goal.loop-i-init
loop-i-init c = let z = c in
    let l = c.walk in
    let w = c.clause_words-c in
    let v = c.variables_of-variables in
    let h = clause-held _ _ z.requires.accepted _ w.result w.ensures (search rules) v.result v.ensures (search rules) z.requires _ c.power-choices.ensures in
    (l.invariant.0, h, none_passed _ _ _ _ z.requires.accepted _ l.invariant.1 h (omega arith) z.requires.positive z.requires.size c.first-values.result c.first-values.ensures)

pub slice_bounds-clause_value-end : goal.slice_bounds-clause_value-end
slice_bounds-clause_value-end c = omega (arith, c.loop-i.invariant.1.within)

pub slice_bounds-clause_value-end-in-loop-i-2 : goal.slice_bounds-clause_value-end-in-loop-i-2
slice_bounds-clause_value-end-in-loop-i-2 c = let l = c.loop-i in omega (arith, l.invariant.1.few, l.invariant.2.reached.long)

pub clause_value-requires : goal.clause_value-requires
clause_value-requires c = let l = c.loop-i in (l.invariant.1.lent, choice-lent _ _ _ _ l.invariant.1 l.invariant.2)

pub step-values-requires : goal.step-values-requires
step-values-requires c = c.loop-i.invariant.2.reached.vector

pub loop-i-preserved : goal.loop-i-preserved
loop-i-preserved c = let l = c.loop-i in
    let long : length c.step-values.result.digits ≡ 10 = search rules in (
      l.invariant.0,
      l.invariant.1,
      choice-passes _ _ _ _ l.invariant.1 l.invariant.2 c.loop-i-test.true _ c.clause_value.ensures c.if-not-clause_value.false c.step-values.result long c.step-values.ensures,
    )

pub walk-preserved : goal.walk-preserved
walk-preserved c = let l = c.loop-i in (l.invariant.0, clause-passes _ _ _ _ l.invariant.1 l.invariant.2 (omega arith) (omega arith))

pub returns-after-walk : goal.returns-after-walk
returns-after-walk c = let z = c in
    let l = c.walk in
    rw l.invariant.0 (all-passed _ _ _ _ z.requires.accepted _ l.invariant.1 (omega arith))

pub returns-then-not-clause_value : goal.returns-then-not-clause_value
returns-then-not-clause_value c = let l = c.loop-i in
    choice-fails _ _ _ _ l.invariant.1 l.invariant.2 c.loop-i-test.true _ c.clause_value.ensures c.if-not-clause_value.true
