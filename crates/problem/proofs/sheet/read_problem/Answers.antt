-- `read_problem` reads the lines plain.
use mathlib.Core.Path.{◌∙◌}
use Rattle.problem.proofs.WholeSheet.{lines-plain}
use Rattle.problem.proofs.PlainProblem.{plain-read}
use Rattle.problem.proofs.sheet.read_problem.Goals as goal

pub returns : goal.returns
returns c = let a = c.args in let r = plain-read a.sheet.now _ c.read_lines.result c.read_lines.ensures in record { read = r.0 ∙ lines-plain a.sheet.now; accepted = r.1 }
