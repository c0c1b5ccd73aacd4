-- `read_section` reads the count line, then so many symbol lines.
use native.Mathlib.Omega.{arith}
use lib.ListN.{length}
use Rattle.syntax.specs.Signatures.{kind_of}
use Rattle.std.specs.Prelude.{Ok}
use Rattle.problem.specs.Lines.{CountWithin}
use Rattle.problem.proofs.SectionLines.{uncounted, counted}
use Rattle.problem.proofs.sections.read_section.Goals as goal

pub symbol_lines-requires : goal.symbol_lines-requires
symbol_lines-requires c = let z = c in
    let a = z.args in
    let h : CountWithin (length a.sheet.now) 12 (Ok (_, _)) = rw c.in-Ok.is at c.count_line.ensures.within in (h.1, (z.requires.1.0, (omega (arith, z.requires.1.1.0, h.0), omega (arith, z.requires.1.1.1, h.0))))

pub returns-in-Err : goal.returns-in-Err
returns-in-Err c = let z = c in
    let a = z.args in
    uncounted a.sheet.now a.at a.line a.counting.now a.key.now (kind_of a.function) a.before _ (rw c.in-Err.is at c.count_line.ensures)

pub returns-in-Ok : goal.returns-in-Ok
returns-in-Ok c = let z = c in
    let a = z.args in
    counted a.sheet.now a.at a.line a.counting.now a.key.now (kind_of a.function) a.before _ _ (rw c.in-Ok.is at c.count_line.ensures) c.symbol_lines.result c.symbol_lines.ensures
