use mathlib.Core.Path.{sym, ap, ◌∙◌}
use mathlib.Core.Bool.{Bool}
use Rattle.theory.specs.Refusals.{refused}
use Rattle.naming.specs.NamedOperations.{placed_in, read_problem_in}
use Rattle.syntax.specs.Faults.{number_of}
use Rattle.columns.proofs.SheetRefused.{named-placed}
use Rattle.columns.proofs.sheet.sheet_refusal.Goals as goal

pub returns-then-named : goal.returns-then-named
returns-then-named c = let z = c in
    let a = z.args in
    let named = c.if-named.true in
    ap (λ (b : Bool). placed_in b a.sheet.now) named
    ∙ named-placed a.sheet.now (number_of a.f.fault) a.f.line c.named_column.result (ap (λ (b : Bool). read_problem_in b a.sheet.now) (sym named) ∙ z.requires) c.named_column.ensures
    ∙ sym (ap refused c.at_place.ensures)
