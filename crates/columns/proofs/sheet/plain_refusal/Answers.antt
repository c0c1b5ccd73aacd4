use mathlib.Core.Path.{sym, ap, ◌∙◌}
use Rattle.theory.specs.Refusals.{refused}
use Rattle.syntax.specs.Faults.{number_of}
use Rattle.columns.proofs.SheetRefused.{refused-placed}
use Rattle.columns.proofs.sheet.plain_refusal.Goals as goal

pub returns : goal.returns
returns c = let z = c in let a = z.args in
    refused-placed a.sheet.now (number_of a.f.fault) a.f.line c.sheet_column.result z.requires c.sheet_column.ensures ∙ sym (ap refused c.at_place.ensures)
