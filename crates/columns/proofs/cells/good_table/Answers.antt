-- `good_table` looks for the name, then for what follows it.
use mathlib.Core.List.{[], ◌∷◌}
use native.Mathlib.Omega.{arith}
use lib.ListN.{length}
use Rattle.theory.specs.CaseText.{equals_sign}
use Rattle.theory.specs.LineForms.{keyed, cell_values}
use Rattle.theory.proofs.LineTexts.{good-within}
use Rattle.text.specs.Lines.{part}
use Rattle.text.proofs.Part.{length_part}
use Rattle.syntax.specs.Signatures.{kind_of}
use Rattle.columns.proofs.cells.good_table.Goals as goal

pub overflow_add-result : goal.overflow_add-result
overflow_add-result c = let a = c.args in
    let b = a.line.now in
    let k = c.key_bytes-n in
    omega (arith, good-within (keyed (equals_sign ∷ []) (cell_values a.size.0 (kind_of a.symbol.function) c.power-count.result)) (part b k.result (length b)), c.good_values.ensures, length_part b k.result (length b) k.ensures.within (omega arith), k.ensures.within)
