-- `put_new` writes the line and its LF if the run has it not.
use mathlib.Core.Path.{sym, ◌∙◌}
use Rattle.uniting.specs.Runs.{run_lines}
use Rattle.uniting.proofs.NewLines.{old-written, new-written}
use Rattle.uniting.proofs.joins.put_new.Goals as goal

pub returns-then-has_line : goal.returns-then-has_line
returns-then-has_line c = let a = c.args in let both = old-written (run_lines a.first.now a.own) a.line.now a.out.now a.at (sym c.has_line.ensures ∙ c.if-has_line.true) in record { written = both.0; place = both.1 }

pub returns : goal.returns
returns c = let s = c in
    let a = s.args in
    let p = c.put_bytes-end in let both = new-written (run_lines a.first.now a.own) a.line.now a.out.now p.new.out a.at p.result (sym c.has_line.ensures ∙ c.if-has_line.false) s.requires.1 p.ensures.written p.ensures.place in record { written = both.0; place = both.1 }
