-- `digit_at` reads the digit that a value is.
use native.Mathlib.Omega.{arith}
use Rattle.input_lines.proofs.DigitLines.{other_length, below, above, digit}
use Rattle.input_lines.proofs.digits.digit_at.Goals as goal

pub returns-then-end-from-ne1 : goal.returns-then-end-from-ne1
returns-then-end-from-ne1 c = let z = c in let a = z.args in other_length a.input.now a.from a.end z.requires.0 z.requires.1 c.if-end-from-ne1.true

pub returns-then-b-lt48 : goal.returns-then-b-lt48
returns-then-b-lt48 c = let z = c in let a = z.args in below a.input.now a.from a.end z.requires.0 z.requires.1 (omega (arith, c.if-end-from-ne1.false)) c.if-b-lt48.true

pub returns-then-b-gt57 : goal.returns-then-b-gt57
returns-then-b-gt57 c = let z = c in let a = z.args in above a.input.now a.from a.end z.requires.0 z.requires.1 (omega (arith, c.if-end-from-ne1.false)) (omega (arith, c.if-b-lt48.false)) c.if-b-gt57.true

pub returns : goal.returns
returns c = let z = c in let a = z.args in digit a.input.now a.from a.end z.requires.0 z.requires.1 (omega (arith, c.if-end-from-ne1.false)) (omega (arith, c.if-b-lt48.false)) (omega (arith, c.if-b-gt57.false))
