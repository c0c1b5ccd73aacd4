-- `clauses_from` reads the count line, then so many clause lines.
use native.Mathlib.Omega.{arith}
use lib.ListN.{length}
use Rattle.syntax.specs.Signatures.{signature_in}
use Rattle.std.specs.Prelude.{Ok}
use Rattle.problem.specs.Lines.{CountWithin}
use Rattle.problem.proofs.Stages.{clauses-uncounted, clauses-counted}
use Rattle.problem.proofs.sheet.clauses_from.Goals as goal

pub count_line-requires : goal.count_line-requires
count_line-requires c = c.requires.within

pub overflow_add-line : goal.overflow_add-line
overflow_add-line c = omega (arith, c.requires.line)

pub lines_from-requires : goal.lines_from-requires
lines_from-requires c = let z = c in
    let a = z.args in
    let g = signature_in a.sheet.now a.signature in
    let h : CountWithin (length a.sheet.now) 64 (Ok (_, _)) = rw c.in-Ok.is at c.count_line.ensures.within in (record { within = h.1; readable = z.requires.readable; few = z.requires.few; line = omega (arith, z.requires.line); counted = z.requires.counted }, h.0)

pub returns-in-Err : goal.returns-in-Err
returns-in-Err c = let z = c in
    let a = z.args in
    let g = signature_in a.sheet.now a.signature in
    clauses-uncounted a.named a.sheet.now a.at a.line g _ (rw c.in-Err.is at c.count_line.ensures)

pub returns-in-Ok : goal.returns-in-Ok
returns-in-Ok c = let z = c in
    let a = z.args in
    let g = signature_in a.sheet.now a.signature in
    clauses-counted a.named a.sheet.now a.at a.line g c.lines_from.result _ _ (rw c.in-Ok.is at c.count_line.ensures) c.lines_from.ensures
