use native.Mathlib.Omega.{arith}
use Rattle.instancing.proofs.Counting.{begun-choice}
use Rattle.instancing.proofs.Walking.{no-choice, choice-consumes, choice-consumed, all-choices}
use Rattle.instancing.proofs.instances.clause_instances.Goals as goal

pub loop-i-init : goal.loop-i-init
loop-i-init g c = let s = c in
    let a = s.args in (
      begun-choice a.size.0 a.variables c.first-values.result s.requires.all_safe.4 s.requires.all_safe.3 c.first-values.ensures,
      λ o. no-choice g.C.ClauseConsumer.effect a.consumer.now o,
    )

pub one_instance-requires : goal.one_instance-requires
one_instance-requires g c = let s = c in
    let a = s.args in
    let l = c.loop-i in record { all_safe = (s.requires.all_safe.0, s.requires.all_safe.1, s.requires.all_safe.2, l.invariant.0.long); instance_next = choice-consumes g.C.ClauseConsumer.effect a.consumer.now s.requires.forms_next.0 l.values l._i l.invariant.0 (omega (arith, c.power-choices.ensures, c.loop-i-test.true)) l.consumer s.requires.forms_next.1 (l.invariant.1 s.requires.forms_next.0) }

pub loop-i-preserved : goal.loop-i-preserved
loop-i-preserved g c = let a = c.args in
    let l = c.loop-i in
    let lt = c.loop-i-test.true in
    let t = c.one_instance in (
      c.next_choice-values.ensures a.size.0 a.variables l._i (omega (arith, c.power-choices.ensures, lt)) l.invariant.0,
      λ o.
          choice-consumed g.C.ClauseConsumer.effect a.consumer.now o l.values l._i l.invariant.0 (omega (arith, c.power-choices.ensures, lt)) l.consumer
          t.new.consumer (l.invariant.1 o) t.ensures,
    )

pub returns : goal.returns
returns g c = let a = c.args in
    let l = c.loop-i in
    λ o.
    all-choices g.C.ClauseConsumer.effect a.consumer.now o l._i l.consumer (omega (arith, c.power-choices.ensures, c.loop-i-test.false)) (l.invariant.1 o)
