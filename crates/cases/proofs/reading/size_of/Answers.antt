-- `size_of` meets its contract.
use mathlib.Core.Path.{◌≡◌, ap, ◌∙◌}
use mathlib.Core.Bool.{true, false}
use native.Mathlib.Omega.{arith}
use Rattle.syntax.specs.Sizes.{checked_size}
use Rattle.cases.proofs.Headings.{no_key, other_length, no_digit, digit-checked}
use Rattle.cases.proofs.reading.size_of.Goals as goal

pub returns-then-not-starts_with : goal.returns-then-not-starts_with
returns-then-not-starts_with c = let w = c.starts_with in
    let z : w.result ≡ false = c.if-not-starts_with.true in
    no_key c.args.line.now (rw z at w.ensures)

pub returns-then-line-ne6 : goal.returns-then-line-ne6
returns-then-line-ne6 c = let w = c.starts_with in
    let z : w.result ≡ true = c.if-not-starts_with.false in
    other_length c.args.line.now (rw z at w.ensures) c.if-line-ne6.true

pub returns-in_err-digit : goal.returns-in_err-digit
returns-in_err-digit c = let w = c.starts_with in
    let z : w.result ≡ true = c.if-not-starts_with.false in
    c.from_residual.ensures ∙ no_digit c.args.line.now (rw z at w.ensures) c.if-line-ne6.false (omega (arith, c.in_err-digit.ensures))

pub overflow_cast-digit : goal.overflow_cast-digit
overflow_cast-digit c = omega (arith, c.in_ok-digit.ensures.1, c.type_inv.line 5)

pub returns : goal.returns
returns c = let w = c.starts_with in
    let z : w.result ≡ true = c.if-not-starts_with.false in
    c.checked.ensures ∙ ap checked_size c.in_ok-digit.ensures.1 ∙ digit-checked c.args.line.now (rw z at w.ensures) c.if-line-ne6.false c.in_ok-digit.ensures.0
