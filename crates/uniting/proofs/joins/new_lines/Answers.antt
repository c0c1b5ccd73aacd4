use native.Mathlib.Omega.{arith}
use Rattle.text.specs.Lines.{part}
use Rattle.text.proofs.Part.{length_part}
use Rattle.uniting.specs.Runs.{run_lines}
use Rattle.uniting.proofs.LineRuns.{lines-few, run_length, line_of_run}
use Rattle.uniting.proofs.NewLines.{measured-more, whole-measured}
use Rattle.uniting.proofs.joins.new_lines.Goals as goal

pub with_new-lines-requires : goal.with_new-lines-requires
with_new-lines-requires c = let s = c in
    let a = s.args in
    let l = c.loop-i in
    let z = c.line_end-end in
    let h = s.requires.1 in
    let r = line_of_run a.second.now a.other h l._i l.at z.result (omega arith) l.invariant.0 z.ensures in (
      s.requires.0,
      (
        omega (arith, l.invariant.2, h.within, h.lined.short, lines-few a.second.now),
        omega (arith, l.invariant.3, h.lined.short, r.ended, z.ensures.from, length_part a.second.now l.at z.result z.ensures.from z.ensures.within),
      ),
    )

pub loop-i-preserved : goal.loop-i-preserved
loop-i-preserved c = let s = c in
    let a = s.args in
    let l = c.loop-i in
    let z = c.line_end-end in
    let h = s.requires.1 in
    let r = line_of_run a.second.now a.other h l._i l.at z.result (omega arith) l.invariant.0 z.ensures in
    let w = c.with_new-lines in (
      r.next,
      measured-more (run_lines a.first.now a.own) (run_lines a.second.now a.other) l._i (omega (arith, run_length a.second.now a.other h))
          l.lines w.result (part a.second.now l.at z.result) r.line l.invariant.1 w.ensures.count w.ensures.bytes,
      omega (arith, l.invariant.2, w.ensures.fewer),
      omega (arith, l.invariant.3, w.ensures.shorter, z.ensures.from, length_part a.second.now l.at z.result z.ensures.from z.ensures.within),
    )

pub returns : goal.returns
returns c = let s = c in
    let a = s.args in
    let l = c.loop-i in record { measured = whole-measured (run_lines a.first.now a.own) (run_lines a.second.now a.other) l._i l.lines (omega (arith, run_length a.second.now a.other s.requires.1)) l.invariant.1; count = omega (arith, l.invariant.2); bytes = omega (arith, l.invariant.3, l.invariant.0.within) }
