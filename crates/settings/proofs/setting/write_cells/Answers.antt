-- `write_cells` meets its contract: 11, or the bytes.
use Prim.Native.Nat.{◌≤◌}
use mathlib.Core.Path.{◌≡◌, sym, ap, ◌∙◌}
use native.Mathlib.Omega.{arith}
use lib.ListN.{length}
use Rattle.theory.specs.Cells.{cell_count}
use Rattle.theory.specs.Propositional.{prop_count}
use Rattle.theory.specs.Valuation.{valuation_of}
use Rattle.theory.specs.Refusals.{needing}
use Rattle.answers.specs.Answers.{refusal_in}
use Rattle.answers.proofs.Answering.{refuses, writes}
use Rattle.syntax.specs.Signatures.{signature_in}
use Rattle.interpretation.proofs.Tabling.{cells-limited}
use Rattle.settings.proofs.Blocks.{length-valuation}
use Rattle.settings.proofs.Answered.{no_room, bytes-said}
use Rattle.settings.proofs.setting.write_cells.Goals as goal

pub returns-then-output-length : goal.returns-then-output-length
returns-then-output-length c = let a = c.args in
    let n = c.numbering_of-n in
    let told : refusal_in c.needing.result ≡ needing 11 n.result.count = c.needing.ensures in
    λ sheet.
    let g = signature_in sheet a.signature in
    let v : n.result.count ≡ prop_count a.size.0 g = (n.ensures sheet).count in
    refuses _ (needing 11 (prop_count a.size.0 g)) c.needing.result a.output.now
    (no_room a.size.0 g a.cells.now (length a.output.now) (omega (arith, c.if-output-length.true, v))) (told ∙ ap (needing 11) v)

pub returns : goal.returns
returns c = let s = c in
    let a = s.args in
    let n = c.numbering_of-n in
    let p = c.put_valuation in
    λ sheet.
    let g = signature_in sheet a.signature in
    let v : n.result.count ≡ prop_count a.size.0 g = (n.ensures sheet).count in
    let held : cell_count a.size.0 g ≤ length a.cells.now = omega (arith, cells-limited sheet a.signature s.requires.0 a.size.0 s.requires.1.0, s.requires.1.1) in
    writes _ (valuation_of a.size.0 g a.cells.now) n.result.count a.output.now p.new.out
    (bytes-said a.size.0 g a.cells.now (length a.output.now) (omega (arith, c.if-output-length.false, v))) (v ∙ sym (length-valuation a.size.0 g a.cells.now held))
    (p.ensures sheet)
