-- `write_renumbered` meets its contract: 25, 11, or the renumbered case.
use Prim.Native.Nat.{ℕ, ◌-◌}
use mathlib.Core.Path.{◌≡◌, sym, ap, ◌∙◌}
use mathlib.Core.Bool.{true}
use mathlib.Core.List.{List}
use native.Mathlib.Omega.{arith}
use lib.ListN.{length, take}
use Rattle.theory.specs.Refusals.{unplaced, needing}
use Rattle.theory.specs.CaseText.{case_text, case_length}
use Rattle.theory.specs.Operations.{over}
use Rattle.renumbering.specs.Renumbering.{renumbered}
use Rattle.renumbered_cases.specs.RenumberedCases.{entries_of, is_listed}
use Rattle.renumbered_cases.proofs.RenumberedCases.{rearranges}
use Rattle.answers.proofs.Answering.{refuses, writes}
use Rattle.syntax.specs.Signatures.{signature_in}
use Rattle.case_forms.specs.Cells.{first_cells}
use Rattle.case_forms.proofs.Answered.{no-list, no_room, case-said}
use Rattle.case_forms.proofs.Held.{part-zeros, listed-rearranges, few, first-end, length_part, first-writable, written-renumbered, length-renumbered-case}
use Rattle.std.specs.Prelude.{is_some}
use Rattle.std.specs.Prelude as rust
use Rattle.rearranging.specs.declared.rearrangement.Rearrangement.{Rearrangement}
use Rattle.case_forms.proofs.renumber.write_renumbered.Goals as goal

pub returns-in_default : goal.returns-in_default
returns-in_default c = let a = c.args in
    let opened = a.case in
    let g = signature_in opened.sheet.now opened.signature.now in
    let l = c.read_list in
    refuses _ (unplaced 25) c.at_line.result a.output.now
    (no-list opened.size.0 g opened.cells.now (length a.output.now) a.list.now (sym l.ensures.taken ∙ ap (λ (o : rust.Option Rearrangement). is_some o) c.in_default.is)) c.at_line.ensures

pub returns-then-output-length : goal.returns-then-output-length
returns-then-output-length c = let a = c.args in
    let opened = a.case in
    let g = signature_in opened.sheet.now opened.signature.now in
    let l = c.read_list in
    let m = c.case_length-length in
    let case : m.result ≡ case_length opened.size.0 g = m.ensures opened.sheet.now c.requires.readable in
    refuses _ (needing 11 (case_length opened.size.0 g)) c.needing.result a.output.now
    (no_room opened.size.0 g opened.cells.now (length a.output.now) a.list.now (sym l.ensures.taken ∙ ap (λ (o : rust.Option Rearrangement). is_some o) c.in-Some.is) (omega (arith, case, c.if-output-length.true)))
    (c.needing.ensures ∙ ap (needing 11) case)

pub slice_bounds-first-end : goal.slice_bounds-first-end
slice_bounds-first-end c = let opened = c.args.case in
    let k = c.tables_of-t in
    first-end opened.sheet.now opened.signature.now opened.size.0 opened.cells.now c.requires k.result.cells (k.ensures opened.sheet.now).cells

pub slice_bounds-held-end : goal.slice_bounds-held-end
slice_bounds-held-end c = let opened = c.args.case in
    let k = c.tables_of-t in
    omega (arith, few opened.sheet.now opened.signature.now opened.size.0 opened.cells.now c.requires k.result.cells (k.ensures opened.sheet.now).cells)

pub returns : goal.returns
returns c = let a = c.args in
    let opened = a.case in
    let g = signature_in opened.sheet.now opened.signature.now in
    let k = c.tables_of-t in
    let n = k.result.cells in
    let e = (k.ensures opened.sheet.now).cells in
    let m = c.case_length-length in
    let case : m.result ≡ case_length opened.size.0 g = m.ensures opened.sheet.now c.requires.readable in
    let l = c.read_list in
    let taken = ap (λ (o : rust.Option Rearrangement). is_some o) c.in-Some.is in
    let read = c.in-Some.ensures.entries in
    let listed : is_listed opened.size.0 a.list.now ≡ true = sym l.ensures.taken ∙ taken in
    let p = entries_of a.list.now in
    let v = c.put_renumbered in
    let text : List ℕ → List ℕ = λ vs. case_text opened.size.0 g vs in
    writes _ (text (renumbered opened.size.0 g p (first_cells opened.size.0 g opened.cells.now))) v.result a.output.now v.new.output
    (case-said opened.size.0 g opened.cells.now (length a.output.now) a.list.now listed (omega (arith, case, c.if-output-length.false)))
    (v.ensures.place ∙ sym (length-renumbered-case opened.sheet.now opened.signature.now opened.size.0 opened.cells.now c.requires p (rearranges opened.size.0 a.list.now listed)))
    (written-renumbered opened.sheet.now opened.signature.now opened.size.0 opened.cells.now c.requires n e p a.output.now v.new.output
    (v.ensures.written ∙ ap (λ (q : List ℕ). over (text (renumbered opened.size.0 g q (take (n - 0) opened.cells.now))) a.output.now) read.1))

pub put_renumbered-requires-clause-writable : goal.put_renumbered-requires-clause-writable
put_renumbered-requires-clause-writable c = let a = c.args in
    let opened = a.case in
    let k = c.tables_of-t in
    let n = k.result.cells in
    let e = (k.ensures opened.sheet.now).cells in
    let taken = ap (λ (o : rust.Option Rearrangement). is_some o) c.in-Some.is in
    let read = c.in-Some.ensures.entries in (
      first-writable opened.sheet.now opened.signature.now opened.size.0 opened.cells.now c.requires n e,
      (
        listed-rearranges opened.size.0 a.list.now c.in-Some.entries read.0 read.1 (sym c.read_list.ensures.taken ∙ taken),
        part-zeros 12320 n (few opened.sheet.now opened.signature.now opened.size.0 opened.cells.now c.requires n e) ∙ sym (length_part opened.sheet.now opened.signature.now opened.size.0 opened.cells.now c.requires n e),
      ),
    )
