use Prim.Native.Nat.{ℕ}
use native.Mathlib.Omega.{arith}
use mathlib.Core.Path.{sym, ap, ◌∙◌}
use mathlib.Core.List.{List, []}
use Rattle.theory.specs.Lists as lists
use Rattle.uniting.specs.Runs.{run_lines}
use Rattle.uniting.proofs.LineRuns.{run_length, line_of_run, any-hit, any-on, any-over}
use Rattle.uniting.proofs.runs.has_line.Goals as goal

pub returns-then-eq : goal.returns-then-eq
returns-then-eq c = let s = c in
    let a = s.args in
    let l = c.loop-i in
    let z = c.line_end-end in
    let r = line_of_run a.text.now a.run s.requires l._i l.at z.result (omega arith) l.invariant.0 z.ensures in
    let w : List ℕ = a.line.now in
    sym (l.invariant.1
    ∙ any-hit (lists.same w) (run_lines a.text.now a.run) [] l._i (omega (arith, run_length a.text.now a.run s.requires))
    (ap (lists.same w) (sym r.line) ∙ sym c.eq.ensures ∙ c.if-eq.true))

pub loop-i-preserved : goal.loop-i-preserved
loop-i-preserved c = let s = c in
    let a = s.args in
    let l = c.loop-i in
    let z = c.line_end-end in
    let r = line_of_run a.text.now a.run s.requires l._i l.at z.result (omega arith) l.invariant.0 z.ensures in
    let w : List ℕ = a.line.now in (
      r.next,
      l.invariant.1
          ∙ any-on (lists.same w) (run_lines a.text.now a.run) [] l._i (omega (arith, run_length a.text.now a.run s.requires))
          (ap (lists.same w) (sym r.line) ∙ sym c.eq.ensures ∙ c.if-eq.false),
    )

pub returns : goal.returns
returns c = let s = c in
    let a = s.args in
    let l = c.loop-i in
    sym (l.invariant.1 ∙ any-over (lists.same a.line.now) (run_lines a.text.now a.run) [] l._i (omega (arith, run_length a.text.now a.run s.requires)))
