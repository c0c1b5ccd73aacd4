use Prim.Native.Nat.{◌<◌}
use native.Mathlib.Omega.{arith}
use mathlib.Core.Path.{refl, sym, ap, ◌∙◌}
use lib.ListN.{length}
use Rattle.text.specs.Put.{put-none}
use Rattle.text.specs.Lines.{part}
use Rattle.sheet_text.proofs.LinesWritten.{same_text}
use Rattle.uniting.specs.Runs.{run_lines}
use Rattle.uniting.specs.Joins.{new_text}
use Rattle.uniting.proofs.LineRuns.{run-starts, run_length, line_of_run}
use Rattle.uniting.proofs.NewLines.{whole_run, new-fits, more-written}
use Rattle.uniting.proofs.joins.put_new_lines.Goals as goal

pub loop-i-init : goal.loop-i-init
loop-i-init c = let s = c in (run-starts _ _ s.requires.1.0, refl, sym (put-none _ _), omega arith)

pub put_new-e-requires : goal.put_new-e-requires
put_new-e-requires c = let s = c in
    let a = s.args in
    let l = c.loop-i in
    let z = c.line_end-end in
    let h = s.requires.1.0 in
    let r = line_of_run a.second.now a.other h l._i l.from z.result (omega arith) l.invariant.0 z.ensures in (
      s.requires.0,
      omega (arith, s.requires.1.1, l.invariant.1, l.invariant.3, new-fits (run_lines a.first.now a.own) (run_lines a.second.now a.other) l._i (omega (arith, run_length a.second.now a.other h)) (part a.second.now l.from z.result) r.line),
    )

pub loop-i-preserved : goal.loop-i-preserved
loop-i-preserved c = let s = c in
    let a = s.args in
    let l = c.loop-i in
    let z = c.line_end-end in
    let p = c.put_new-e in
    let h = s.requires.1.0 in
    let X = run_lines a.first.now a.own in
    let R = run_lines a.second.now a.other in
    let r = line_of_run a.second.now a.other h l._i l.from z.result (omega arith) l.invariant.0 z.ensures in
    let lt : l._i < length R = omega (arith, run_length a.second.now a.other h) in
    let w = more-written X R l._i lt (part a.second.now l.from z.result) r.line a.out.now l.out p.new.out a.at l.e p.result
    (omega (arith, s.requires.1.1, l.invariant.3, new-fits X R l._i lt (part a.second.now l.from z.result) r.line)) l.invariant.2 l.invariant.3 p.ensures.written p.ensures.place in
    (r.next, p.auto.out ∙ l.invariant.1, w.0, w.1)

pub returns : goal.returns
returns c = let s = c in
    let a = s.args in
    let l = c.loop-i in
    let e = ap (new_text (run_lines a.first.now a.own)) (whole_run (run_lines a.second.now a.other) l._i (omega (arith, run_length a.second.now a.other s.requires.1.0))) in let both = same_text a.out.now l.out a.at l.e _ _ e l.invariant.2 l.invariant.3 in record { written = both.0; place = both.1 }
