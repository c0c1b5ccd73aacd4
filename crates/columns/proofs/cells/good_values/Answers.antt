use mathlib.Core.Path.{ap, ◌∙◌}
use native.Mathlib.Omega.{arith}
use lib.ListN.{length}
use Rattle.theory.specs.LineForms.{cell_values, good_value}
use Rattle.theory.proofs.LineValues.{value-within}
use Rattle.text.specs.Lines.{part}
use Rattle.text.proofs.Part.{length_part}
use Rattle.syntax.specs.Signatures.{kind_of}
use Rattle.columns.proofs.KeyBytes.{lent-rest}
use Rattle.columns.proofs.CellBytes.{no-equals, other_byte, equals-met}
use Rattle.columns.proofs.cells.good_values.Goals as goal

-- `good_values` looks for `=`, then for the values.
pub returns-then-bytes-eq0 : goal.returns-then-bytes-eq0
returns-then-bytes-eq0 c = let a = c.args in no-equals a.size.0 _ _ a.bytes.now c.if-bytes-eq0.true

pub returns-then-bytes-ne61 : goal.returns-then-bytes-ne61
returns-then-bytes-ne61 c = let a = c.args in other_byte a.size.0 _ _ a.bytes.now c.if-bytes-eq0.false c.if-bytes-ne61.true

pub overflow_add-result : goal.overflow_add-result
overflow_add-result c = let a = c.args in
    let b = a.bytes.now in
    omega (arith, value-within (cell_values a.size.0 (kind_of a.function) a.count) (part b 1 (length b)), c.good_cells.ensures, length_part b 1 (length b) (omega arith) (omega arith))

pub returns : goal.returns
returns c = let a = c.args in
    let v = cell_values a.size.0 (kind_of a.function) a.count in
    equals-met a.size.0 (kind_of a.function) a.count a.bytes.now c.if-bytes-eq0.false c.good_cells.result c.if-bytes-ne61.false (c.good_cells.ensures ∙ ap (good_value v) (lent-rest a.bytes.now 1))
