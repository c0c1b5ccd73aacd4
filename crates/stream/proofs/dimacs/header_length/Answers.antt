-- `header_length` meets its contract.
use native.Mathlib.Omega.{arith}
use Rattle.text.proofs.Decimal.{decimal-within}
use Rattle.stream.proofs.Texts.{length-header}
use Rattle.stream.proofs.dimacs.header_length.Goals as goal

pub overflow_add-result : goal.overflow_add-result
overflow_add-result c = omega (arith, c.decimal_length.ensures, decimal-within 9 c.args.variables (omega (arith, c.ranges.variables)))

pub overflow_add-result-2 : goal.overflow_add-result-2
overflow_add-result-2 c = let s = c in
    omega (
      arith,
      c.decimal_length.ensures,
      c.decimal_length-2.ensures,
      decimal-within 9 s.args.variables (omega (arith, s.ranges.variables)),
      decimal-within 9 s.args.clauses (omega (arith, s.ranges.clauses)),
    )

pub returns : goal.returns
returns c = omega (arith, c.decimal_length.ensures, c.decimal_length-2.ensures, length-header c.args.variables c.args.clauses)
