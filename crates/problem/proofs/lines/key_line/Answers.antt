-- `key_line` finds the line's end, then its key.
use mathlib.Core.Path.{◌≡◌}
use mathlib.Core.Bool.{true, false}
use Rattle.problem.proofs.KeyLines.{no_line, no_key, key-value}
use Rattle.problem.proofs.lines.key_line.Goals as goal

pub returns-then-end-sheet : goal.returns-then-end-sheet
returns-then-end-sheet c = let a = c.args in no_line a.sheet.now a.at _ a.key.now c.line_end-end.ensures c.if-end-sheet.true

pub returns-then-not-starts_with : goal.returns-then-not-starts_with
returns-then-not-starts_with c = let e : c.starts_with.result ≡ false = c.if-not-starts_with.true in let a = c.args in no_key a.sheet.now a.at _ a.key.now c.line_end-end.ensures c.if-end-sheet.false (rw e at c.starts_with.ensures)

pub returns : goal.returns
returns c = let e : c.starts_with.result ≡ true = c.if-not-starts_with.false in let a = c.args in key-value a.sheet.now a.at _ a.key.now c.line_end-end.ensures c.if-end-sheet.false (rw e at c.starts_with.ensures)
