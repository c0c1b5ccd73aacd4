-- `digit_line` reads a line of a key and a digit.
use native.Mathlib.Omega.{arith}
use mathlib.Core.Path.{◌≡◌}
use mathlib.Core.Bool.{true, false}
use Rattle.input_lines.proofs.DigitLines.{no_line, no_key, keyed}
use Rattle.theory.specs.Program.{digit_of}
use Rattle.input_lines.proofs.KeyedLines.{value-from}
use Rattle.input_lines.proofs.digits.digit_line.Goals as goal

pub returns-then-end-input : goal.returns-then-end-input
returns-then-end-input c = let a = c.args in no_line a.input.now a.at _ a.key.now c.line_end-end.ensures c.if-end-input.true

pub returns-then-not-starts_with : goal.returns-then-not-starts_with
returns-then-not-starts_with c = let e : c.starts_with.result ≡ false = c.if-not-starts_with.true in let a = c.args in no_key a.input.now a.at _ a.key.now c.line_end-end.ensures c.if-end-input.false (rw e at c.starts_with.ensures)

pub digit_at-requires : goal.digit_at-requires
digit_at-requires c = let e : c.starts_with.result ≡ true = c.if-not-starts_with.false in let a = c.args in let l = c.line_end-end in (value-from digit_of a.input.now a.at l.result a.key.now l.ensures c.if-end-input.false (rw e at c.starts_with.ensures), omega (arith, l.ensures.within, c.if-end-input.false))

pub returns : goal.returns
returns c = let e : c.starts_with.result ≡ true = c.if-not-starts_with.false in let a = c.args in let l = c.line_end-end in keyed a.input.now a.at l.result a.key.now l.ensures c.if-end-input.false (rw e at c.starts_with.ensures) _ c.digit_at.ensures
