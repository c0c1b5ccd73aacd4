-- `case_refusal` puts the column to the refusal.
use mathlib.Core.Path.{sym, ap, ◌∙◌}
use Rattle.theory.specs.Refusals.{refused}
use Rattle.syntax.specs.Signatures.{signature_in}
use Rattle.columns.proofs.CaseLines.{refused-placed}
use Rattle.columns.proofs.case.case_refusal.Goals as goal

pub returns : goal.returns
returns c = let z = c in let a = z.args in
    refused-placed (signature_in a.sheet.now a.signature) a.case.now a.line c.case_column.result z.requires.1 c.case_column.ensures ∙ sym (ap refused c.at_place.ensures)
