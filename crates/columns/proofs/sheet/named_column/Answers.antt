use mathlib.Core.Path.{ap}
use mathlib.Core.Bool.{true}
use Rattle.syntax.specs.declared.faults.Fault.TheVariants as fault
use Rattle.syntax.specs.Faults.{number_of}
use Rattle.columns.proofs.FaultNumbers.{same-number}
use Rattle.columns.proofs.SheetRefused.{named-lineless, seven-told, other-told}
use Rattle.columns.proofs.sheet.named_column.Goals as goal

-- `named_column` meets its contract.
pub returns-then-line-eq0 : goal.returns-then-line-eq0
returns-then-line-eq0 c = let a = c.args in named-lineless a.sheet.now (number_of a.fault) a.line c.if-line-eq0.true

pub returns-in-ClauseLimits : goal.returns-in-ClauseLimits
returns-in-ClauseLimits c = let a = c.args in seven-told a.sheet.now (number_of a.fault) a.line (ap number_of c.in-ClauseLimits.is) c.if-line-eq0.false

pub sheet_column-requires : goal.sheet_column-requires
sheet_column-requires c = record { named = true; refusal = c.requires; other = λ _ e. c.in_default.not-ClauseLimits (same-number c.args.fault fault.ClauseLimits e) }

pub returns-in_default : goal.returns-in_default
returns-in_default c = let a = c.args in
    other-told a.sheet.now (number_of a.fault) a.line c.sheet_column.result (λ e. c.in_default.not-ClauseLimits (same-number a.fault fault.ClauseLimits e)) c.if-line-eq0.false c.sheet_column.ensures
