-- `count_at` reads the count, then holds it to the limit.
use mathlib.Core.Path.{◌≡◌}
use mathlib.Core.Option.{some}
use Rattle.theory.specs.Lines.{count_of}
use Rattle.text.specs.Lines.{part}
use Rattle.problem.proofs.KeyLines.{no-count, count-over, count-read}
use Rattle.clauses.proofs.Refused.{first_refused}
use Rattle.problem.proofs.lines.count_at.Goals as goal

pub returns-then-limit-n : goal.returns-then-limit-n
returns-then-limit-n c = let a = c.args in let v = part a.sheet.now a.from a.end in let e : some _ ≡ count_of v = rw c.in_ok-n.ensures.ok_part at c.count_of.ensures in count-over a.sheet.now a.from a.end a.limit _ e c.if-limit-n.true

pub returns-in_err-n : goal.returns-in_err-n
returns-in_err-n c = let a = c.args in
    let e = c.in_err-n.ensures.ok_part in
    rw (first_refused _ _ _ e c.ok_or.ensures.value c.in_err-n.was c.from_residual.ensures.1) (no-count a.sheet.now a.from a.end a.limit (rw e at c.count_of.ensures))

pub returns : goal.returns
returns c = let a = c.args in let v = part a.sheet.now a.from a.end in let e : some _ ≡ count_of v = rw c.in_ok-n.ensures.ok_part at c.count_of.ensures in count-read a.sheet.now a.from a.end a.limit _ e c.if-limit-n.false c.requires.1
