use Prim.Native.Nat.{◌-◌}
use native.Mathlib.Omega.{arith}
use Rattle.theory.proofs.LineTexts.{good-within}
use Rattle.text.specs.Lines.{part}
use Rattle.text.proofs.Part.{length_part}
use Rattle.syntax.specs.Signatures.{signature_in}
use Rattle.columns.specs.Cases.{due_at_size}
use Rattle.columns.proofs.CaseLines.{lineless, line-told}
use Rattle.columns.proofs.case.case_column.Goals as goal

-- `case_column` tells the byte after the good ones.
pub returns-then-line-eq0 : goal.returns-then-line-eq0
returns-then-line-eq0 c = let a = c.args in lineless (signature_in a.sheet.now a.signature) a.case.now a.line c.if-line-eq0.true

pub overflow_add-result : goal.overflow_add-result
overflow_add-result c = let a = c.args in
    let l = c.line_at-there in
    let b = part a.case.now l.result.from l.result.to in
    omega (arith, good-within (due_at_size c.size_on.result (signature_in a.sheet.now a.signature) (a.line - 1)) b, c.good_in_case.ensures, length_part a.case.now l.result.from l.result.to l.ensures.from l.ensures.within, l.ensures.within)

pub returns : goal.returns
returns c = let a = c.args in
    line-told (signature_in a.sheet.now a.signature) a.case.now a.line c.size_on.result c.good_in_case.result c.line_at-there.result c.if-line-eq0.false c.line_at-there.ensures c.size_on.ensures.size c.good_in_case.ensures
