-- `literal_length` meets its contract.
use Prim.Native.Nat.{◌+◌, ◌/◌}
use native.Mathlib.Omega.{arith}
use Rattle.text.proofs.Decimal.{decimal-within}
use Rattle.stream.proofs.Texts.{length-spaced}
use Rattle.stream.proofs.dimacs.literal_length.Goals as goal

pub overflow_add-result : goal.overflow_add-result
overflow_add-result c = omega (arith, c.decimal_length.ensures, decimal-within 9 (c.args.l / 2 + 1) (omega (arith, c.ranges.l)))

pub overflow_add-result-2 : goal.overflow_add-result-2
overflow_add-result-2 c = omega (arith, c.decimal_length.ensures, decimal-within 9 (c.args.l / 2 + 1) (omega (arith, c.ranges.l)))

pub returns : goal.returns
returns c = omega (arith, c.decimal_length.ensures, length-spaced c.args.l)
