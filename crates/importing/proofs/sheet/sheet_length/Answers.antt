-- `sheet_length` adds the lengths of the head and of the lines.
use mathlib.Core.Path.{sym, ap, ◌∙◌}
use Prim.Native.Nat.{ℕ, ◌+◌}
use Rattle.importing.proofs.SheetLines.{short, sheet-length-is}
use Rattle.importing.proofs.sheet.sheet_length.Goals as goal

pub head_length-requires : goal.head_length-requires
head_length-requires c = let k = c.requires.1 in (short _ _ k.limited, k.limited.ordered)

pub returns : goal.returns
returns c = λ text k. ap (λ (n : ℕ). n + c.args.survey.length) (c.head_length.ensures.length text k.limited.readable) ∙ sym (sheet-length-is text _ k)
