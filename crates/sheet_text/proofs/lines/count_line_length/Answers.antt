-- `count_line_length` meets its contract.
use native.Mathlib.Omega.{arith}
use Rattle.theory.specs.Bytes.{decimal}
use Rattle.sheet_text.proofs.LinesWritten.{line-length}
use Rattle.sheet_text.proofs.lines.count_line_length.Goals as goal

pub overflow_add-result : goal.overflow_add-result
overflow_add-result c = omega (arith, c.requires, c.decimal_length.ensures, line-length c.args.key.now (decimal c.args.n))

pub overflow_add-result-2 : goal.overflow_add-result-2
overflow_add-result-2 c = omega (arith, c.requires, c.decimal_length.ensures, line-length c.args.key.now (decimal c.args.n))

pub returns : goal.returns
returns c = omega (arith, c.decimal_length.ensures, line-length c.args.key.now (decimal c.args.n))
