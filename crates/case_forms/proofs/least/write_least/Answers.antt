use mathlib.Core.Path.{◌≡◌, sym, ap, ◌∙◌}
use native.Mathlib.Omega.{arith}
use lib.ListN.{length}
use Rattle.theory.specs.Refusals.{needing}
use Rattle.theory.specs.CaseText.{case_text, case_length}
use Rattle.renumbering.specs.LeastForm.{least_form}
use Rattle.answers.proofs.Answering.{refuses, writes}
use Rattle.syntax.specs.Signatures.{signature_in}
use Rattle.case_forms.specs.Cells.{first_cells}
use Rattle.case_forms.proofs.Answered.{no-room-least, form-said}
use Rattle.case_forms.proofs.Held.{few, first-end, written-least, length-least-case}
use Rattle.case_forms.proofs.least.write_least.Goals as goal

-- `write_least` meets its contract: 11, or the least form.
pub returns-then-output-length : goal.returns-then-output-length
returns-then-output-length c = let a = c.args in
    let opened = a.case in
    let g = signature_in opened.sheet.now opened.signature.now in
    let m = c.case_length-length in
    let case : m.result ≡ case_length opened.size.0 g = m.ensures opened.sheet.now c.requires.readable in
    refuses _ (needing 11 (case_length opened.size.0 g)) c.needing.result a.output.now
    (no-room-least opened.size.0 g opened.cells.now (length a.output.now) (omega (arith, case, c.if-output-length.true))) (c.needing.ensures ∙ ap (needing 11) case)

pub slice_bounds-first-end : goal.slice_bounds-first-end
slice_bounds-first-end c = let opened = c.args.case in
    let k = c.tables_of-t in
    first-end opened.sheet.now opened.signature.now opened.size.0 opened.cells.now c.requires k.result.cells (k.ensures opened.sheet.now).cells

pub slice_bounds-held-end : goal.slice_bounds-held-end
slice_bounds-held-end c = let opened = c.args.case in
    let k = c.tables_of-t in
    omega (arith, few opened.sheet.now opened.signature.now opened.size.0 opened.cells.now c.requires k.result.cells (k.ensures opened.sheet.now).cells)

pub returns : goal.returns
returns c = let a = c.args in
    let opened = a.case in
    let g = signature_in opened.sheet.now opened.signature.now in
    let k = c.tables_of-t in
    let n = k.result.cells in
    let e = (k.ensures opened.sheet.now).cells in
    let m = c.case_length-length in
    let case : m.result ≡ case_length opened.size.0 g = m.ensures opened.sheet.now c.requires.readable in
    let v = c.put_least in
    writes _ (case_text opened.size.0 g (least_form opened.size.0 g (first_cells opened.size.0 g opened.cells.now))) v.result a.output.now v.new.output
    (form-said opened.size.0 g opened.cells.now (length a.output.now) (omega (arith, case, c.if-output-length.false)))
    (v.ensures.place ∙ sym (length-least-case opened.sheet.now opened.signature.now opened.size.0 opened.cells.now c.requires))
    (written-least opened.sheet.now opened.signature.now opened.size.0 opened.cells.now c.requires n e a.output.now v.new.output v.ensures.written)
