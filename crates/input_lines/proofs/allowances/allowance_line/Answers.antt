-- `allowance_line` meets its contract: the key, and the value behind it.
use native.Mathlib.Omega.{arith}
use mathlib.Core.Path.{◌≡◌}
use mathlib.Core.Bool.{true, false}
use Rattle.input_lines.proofs.AllowanceLines.{no_line, no_key, keyed}
use Rattle.theory.specs.Bytes.{bytes}
use Rattle.allowance.specs.FinderProgram.{allowance_of}
use Rattle.input_lines.proofs.KeyedLines.{value-from}
use Rattle.input_lines.proofs.allowances.allowance_line.Goals as goal

pub returns-then-end-input : goal.returns-then-end-input
returns-then-end-input c = let a = c.args in no_line a.input.now a.at _ c.line_end-end.ensures c.if-end-input.true

pub returns-then-not-starts_with : goal.returns-then-not-starts_with
returns-then-not-starts_with c = let e : c.starts_with.result ≡ false = c.if-not-starts_with.true in
    let a = c.args in
    no_key a.input.now a.at _ c.line_end-end.ensures c.if-end-input.false (rw e at c.starts_with.ensures)

pub allowance_at-requires : goal.allowance_at-requires
allowance_at-requires c = let e : c.starts_with.result ≡ true = c.if-not-starts_with.false in
    let a = c.args in
    let l = c.line_end-end in
    (value-from allowance_of a.input.now a.at l.result (bytes "allow=") l.ensures c.if-end-input.false (rw e at c.starts_with.ensures), omega (arith, l.ensures.within, c.if-end-input.false))

pub returns : goal.returns
returns c = let e : c.starts_with.result ≡ true = c.if-not-starts_with.false in
    let a = c.args in
    let l = c.line_end-end in
    keyed a.input.now a.at l.result l.ensures c.if-end-input.false (rw e at c.starts_with.ensures) _ c.allowance_at.ensures
