-- `put_least` meets its contract: the least of all renumberings is a case, and is written.
use Prim.Native.Nat.{ℕ}
use mathlib.Core.Path.{ap, ◌∙◌}
use mathlib.Core.List.{List}
use Rattle.theory.specs.CaseText.{case_text}
use Rattle.theory.specs.Operations.{over}
use Rattle.syntax.specs.Signatures.{signature_in}
use Rattle.case_forms.proofs.Held.{cells-lent, cells-copied, is-least, least-writable, none-begun}
use Rattle.case_forms.proofs.least.put_least.Goals as goal

pub take_all-requires : goal.take_all-requires
take_all-requires c = let opened = c.args.case in
    let b = c.put_bytes in
    let n = c.none in
    (cells-lent opened.sheet.now opened.signature.now opened.size.0 opened.cells.now c.requires.writable.0 b.new.out (b.auto.out ∙ c.requires.writable.1), none-begun opened.size.0 n.result n.ensures.held n.ensures.entries)

pub write_cells-requires-clause-writable : goal.write_cells-requires-clause-writable
write_cells-requires-clause-writable c = let a = c.args in
    let opened = a.case in
    let b = c.put_bytes in
    let n = c.none in
    least-writable opened.sheet.now opened.signature.now opened.size.0 opened.cells.now c.requires.writable.0 n.result n.ensures.entries n.ensures.held b.new.out c.take_all.new.held (cells-copied opened.sheet.now opened.signature.now opened.size.0 opened.cells.now c.requires.writable.0 a.held.now b.new.out c.requires.writable.1 b.ensures.written) (c.take_all.ensures opened.sheet.now)

pub returns-clause-written : goal.returns-clause-written
returns-clause-written c = let a = c.args in
    let opened = a.case in
    let b = c.put_bytes in
    let n = c.none in
    c.write_cells.ensures.written
    ∙ ap (λ (l : List ℕ). over (case_text opened.size.0 (signature_in opened.sheet.now opened.signature.now) l) a.output.now)
    (is-least opened.sheet.now opened.signature.now opened.size.0 opened.cells.now c.requires.writable.0 n.result n.ensures.entries n.ensures.held b.new.out c.take_all.new.held (cells-copied opened.sheet.now opened.signature.now opened.size.0 opened.cells.now c.requires.writable.0 a.held.now b.new.out c.requires.writable.1 b.ensures.written) (c.take_all.ensures opened.sheet.now))
