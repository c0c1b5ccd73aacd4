-- `number_rest` adds the parts, of which / excludes the others.
use native.Mathlib.Omega.{arith}
use Rattle.tokens.proofs.NumberLengths.{number_by, number-room, front-room}
use Rattle.tokens.proofs.numbers.number_rest.Goals as goal

pub overflow_add-result : goal.overflow_add-result
overflow_add-result c = let a = c.args in omega (arith, front-room a.text.now a.at _ _ (omega arith) c.ratio_length-n.ensures c.fraction_length-f.ensures, c.well_formed)

pub overflow_add-at : goal.overflow_add-at
overflow_add-at c = let a = c.args in omega (arith, front-room a.text.now a.at _ _ (omega arith) c.ratio_length-n.ensures c.fraction_length-f.ensures, c.well_formed)

pub overflow_add-result-2 : goal.overflow_add-result-2
overflow_add-result-2 c = let a = c.args in omega (arith, number_by a.text.now a.at _ _ _ c.ratio_length-n.ensures c.fraction_length-f.ensures c.exponent_length.ensures, number-room a.text.now a.at (omega arith), c.well_formed)

pub returns : goal.returns
returns c =
    let a = c.args in
    let e = number_by a.text.now a.at _ _ _ c.ratio_length-n.ensures c.fraction_length-f.ensures c.exponent_length.ensures in
    record { value = e; within = omega (arith, e, number-room a.text.now a.at (omega arith)) }
