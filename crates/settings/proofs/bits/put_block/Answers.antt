use mathlib.Core.Path.{sym, ap, ◌∙◌}
use mathlib.Core.Bool.{Bool}
use lib.ListN.{length, replicate}
use Rattle.theory.specs.Valuation.{bits_of_cells}
use Rattle.syntax.specs.Signatures.{kind_of}
use Rattle.text.specs.Put.{put}
use Rattle.settings.proofs.CellBits.{truth-bytes}
use Rattle.settings.proofs.bits.put_block.Goals as goal

pub returns-else-function : goal.returns-else-function
returns-else-function c = let a = c.args in
    c.put_bytes.ensures.written
    ∙ ap (put a.out.now a.from.0) (sym (truth-bytes a.size.0 a.table.now))
    ∙ ap (λ (b : Bool). put a.out.now a.from.0 (bits_of_cells a.size.0 (replicate (length a.table.now) (kind_of b)) a.table.now)) (sym c.if-function.false)
