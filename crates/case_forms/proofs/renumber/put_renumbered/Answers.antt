use Prim.Native.Nat.{ℕ}
use mathlib.Core.Path.{ap, ◌∙◌}
use mathlib.Core.List.{List}
use Rattle.theory.specs.CaseText.{case_text}
use Rattle.theory.specs.Operations.{over}
use Rattle.syntax.specs.Signatures.{signature_in}
use Rattle.case_forms.proofs.Held.{cells-lent, is-renumbered, renumbered-writable}
use Rattle.case_forms.proofs.renumber.put_renumbered.Goals as goal

-- `put_renumbered` meets its contract: the cells renumbered are a case, and are written.
pub take_renumbered-requires : goal.take_renumbered-requires
take_renumbered-requires c = let a = c.args in
    let opened = a.case in
    (cells-lent opened.sheet.now opened.signature.now opened.size.0 opened.cells.now c.requires.writable.0 a.held.now c.requires.writable.1.1, c.requires.writable.1.0)

pub write_cells-requires-clause-writable : goal.write_cells-requires-clause-writable
write_cells-requires-clause-writable c = let a = c.args in
    let opened = a.case in
    let t = c.take_renumbered in
    renumbered-writable opened.sheet.now opened.signature.now opened.size.0 opened.cells.now c.requires.writable.0 a.r c.requires.writable.1.0 a.held.now t.new.held c.requires.writable.1.1 (t.ensures opened.sheet.now)

pub returns-clause-written : goal.returns-clause-written
returns-clause-written c = let a = c.args in
    let opened = a.case in
    let t = c.take_renumbered in
    c.write_cells.ensures.written
    ∙ ap (λ (l : List ℕ). over (case_text opened.size.0 (signature_in opened.sheet.now opened.signature.now) l) a.output.now)
    (is-renumbered opened.sheet.now opened.signature.now opened.size.0 opened.cells.now c.requires.writable.0 a.r c.requires.writable.1.0 a.held.now t.new.held c.requires.writable.1.1 (t.ensures opened.sheet.now))
