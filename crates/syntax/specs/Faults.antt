-- The number that documents 01 and 02 give what is refused.
use Rattle.std.specs.Prelude.{ℕ}
use Rattle.syntax.specs.declared.faults.Fault.{Fault}
use Rattle.syntax.specs.declared.faults.Fault.TheVariants as fault

abbrev pub number_of : Fault → ℕ
number_of fault.SheetLength = 1
number_of fault.SheetLine = 2
number_of fault.CountOrArity = 3
number_of fault.Name = 4
number_of fault.Word = 5
number_of fault.Clause = 6
number_of fault.ClauseLimits = 7
number_of fault.Size = 8
number_of fault.Instances = 9
number_of fault.WorkLength = 10
number_of fault.OutputLength = 11
number_of fault.CaseLine = 12
number_of fault.Setting = 13
number_of fault.Cell = 14
number_of fault.Token = 15
number_of fault.SymbolUse = 16
number_of fault.TextLimits = 17
number_of fault.Reply = 18
number_of fault.NoModel = 19
number_of fault.PlainCells = 20
number_of fault.Helpers = 21
number_of fault.Disagreement = 22
number_of fault.MergedLimits = 23
number_of fault.Allowance = 24
number_of fault.Renumbering = 25
