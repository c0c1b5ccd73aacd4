use Prim.Native.Nat.{◌*◌, ◌<◌}
use mathlib.Core.Path.{sym, ◌∙◌}
use native.Mathlib.Omega.{arith}
use lib.ListN.{length}
use Rattle.forms.proofs.Evaluating.{place-safe, safe-here, written_on, left-out-on, dropped-here, all-evaluated}
use Rattle.forms.proofs.instance.instance_at.Goals as goal
use Rattle.forms.proofs.instance.instance_at.Goals.{then-forms-at-eq0, else-forms-at-eq0+else-is_true_at}

pub code_at-requires : goal.code_at-requires
code_at-requires c = let l = c.loop-i in
    let a = c.args in
    (safe-here a.values.now a.count a.forms.now l.codes l.written l.i l.invariant c.loop-i-test.true, (omega (arith, l.invariant.room, c.loop-i-test.true), c.requires.all_safe.1.1))

pub is_true_at-requires : goal.is_true_at-requires
is_true_at-requires c = let l = c.loop-i in
    let a = c.args in
    let fs = a.forms.now in
    let f = safe-here a.values.now a.count fs l.codes l.written l.i l.invariant c.loop-i-test.true in
    record { at_in_bounds = (omega (arith, l.invariant.room, c.loop-i-test.true), c.requires.all_safe.1.1); at_bound = (place-safe fs (l.i * 10) 2 (omega arith) f.x, place-safe fs (l.i * 10) 4 (omega arith) f.y) }

pub returns-then-is_true_at : goal.returns-then-is_true_at
returns-then-is_true_at c = let l = c.loop-i in
    let a = c.args in
    record { count = tt; instance = dropped-here a.values.now a.count a.forms.now l.codes l.written l.i l.invariant c.loop-i-test.true c.if-forms-at-eq0.false (sym c.is_true_at.ensures ∙ c.if-is_true_at.true) }

pub loop-i-preserved : goal.loop-i-preserved
loop-i-preserved c = let l = c.loop-i in
    let h = c.loop-i-test.true in
    let v = c.args.values.now in
    let n = c.args.count in
    let fs = c.args.forms.now in
    let room : l.written < length l.codes = omega (arith, l.invariant.few, c.requires.count_in_bounds, h) in
    elim c.if-forms-at-eq0.branch [
      | then-forms-at-eq0 w ↦ rw (w.codes-is, w.written-is) (written_on v n fs l.codes l.written l.i l.invariant h w.code_at.result room w.if-forms-at-eq0.true w.code_at.ensures)
      | else-forms-at-eq0+else-is_true_at w ↦ rw (w.codes-is, w.written-is) (left-out-on v n fs l.codes l.written l.i l.invariant h w.if-forms-at-eq0.false (sym w.is_true_at.ensures ∙ w.if-is_true_at.false))
    ]

pub returns : goal.returns
returns c = let l = c.loop-i in
    let a = c.args in
    record { count = omega (arith, l.invariant.few); instance = all-evaluated a.values.now a.count a.forms.now l.codes l.written l.i l.invariant c.loop-i-test.false }
