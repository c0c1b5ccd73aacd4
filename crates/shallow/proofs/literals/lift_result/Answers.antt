use mathlib.Core.Path.{sym, subst}
use native.Mathlib.Omega.{arith}
use Rattle.lifting.proofs.Steps.{inside, function-inside, function-term, arguments-there}
use Rattle.shallow.specs.Shallow.{EqualityMade}
use Rattle.shallow.proofs.Equalities.{left_there, second-there, result-made}
use Rattle.shallow.proofs.literals.lift_result.Goals as goal

-- `lift_result` meets its contract.
pub bounds-reading-at : goal.bounds-reading-at
bounds-reading-at c = inside (left_there c.requires.0)

pub overflow_add-at : goal.overflow_add-at
overflow_add-at c = omega (arith, inside (left_there c.requires.0), c.well_formed)

pub bounds-reading-f : goal.bounds-reading-f
bounds-reading-f c = function-inside (left_there c.requires.0) c.requires.1

pub lift_terms-r-requires : goal.lift_terms-r-requires
lift_terms-r-requires c = let t = left_there c.requires.0 in
    arguments-there t (function-term t c.requires.1)

pub lift_term-y-requires : goal.lift_term-y-requires
lift_term-y-requires c = let s = c.requires.0 in
    let p = function-term (left_there s) c.requires.1 in
    let r = c.lift_terms-r in
    second-there s p r.result r.new.table (r.ensures (arguments-there (left_there s) p))

pub with-requires : goal.with-requires
with-requires c = c.requires.0.space

pub returns : goal.returns
returns c s = let p = function-term (left_there s) c.requires.1 in
    let r = c.lift_terms-r in
    let y = c.lift_term-y in
    let e = r.ensures (arguments-there (left_there s) p) in
    subst (EqualityMade s) (sym c.with.ensures) (result-made s p r.result r.new.table e y.result y.new.table (y.ensures (second-there s p r.result r.new.table e)))
