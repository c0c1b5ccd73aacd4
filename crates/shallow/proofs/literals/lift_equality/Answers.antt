use mathlib.Core.Path.{sym, subst}
use native.Mathlib.Omega.{arith}
use Rattle.lifting.proofs.Steps.{before-end, inside, variable-term, letter-inside, function-inside, function-term, arguments-there}
use Rattle.shallow.specs.Shallow.{EqualityMade}
use Rattle.shallow.proofs.Equalities.{left_there, right_there, variables-made, turned-made}
use Rattle.shallow.proofs.literals.lift_equality.Goals as goal

-- `lift_equality` meets its contract.
pub bounds-reading-at : goal.bounds-reading-at
bounds-reading-at c = inside (left_there c.requires)

pub lift_result-requires : goal.lift_result-requires
lift_result-requires c = (c.requires, c.if-left-lt-LETTER.true)

pub returns-then-left-lt-LETTER : goal.returns-then-left-lt-LETTER
returns-then-left-lt-LETTER c s = c.lift_result.ensures s

pub bounds-reading-left : goal.bounds-reading-left
bounds-reading-left c = letter-inside (left_there c.requires) c.if-left-lt-LETTER.false

pub overflow_add-second : goal.overflow_add-second
overflow_add-second c = omega (arith, before-end (left_there c.requires), c.requires.source.short)

pub bounds-reading-second : goal.bounds-reading-second
bounds-reading-second c = let s = c.requires in
    let t = right_there s (variable-term (left_there s) c.if-left-lt-LETTER.false) in
    inside t

pub bounds-reading-right : goal.bounds-reading-right
bounds-reading-right c = let s = c.requires in
    let t = right_there s (variable-term (left_there s) c.if-left-lt-LETTER.false) in
    letter-inside t c.if-right-ge-LETTER.true

pub overflow_add-second-then-right-ge-LETTER : goal.overflow_add-second-then-right-ge-LETTER
overflow_add-second-then-right-ge-LETTER c = let s = c.requires in
    let t = right_there s (variable-term (left_there s) c.if-left-lt-LETTER.false) in
    omega (arith, before-end t, s.source.short)

pub with-requires : goal.with-requires
with-requires c = c.requires.space

pub returns-then-right-ge-LETTER : goal.returns-then-right-ge-LETTER
returns-then-right-ge-LETTER c s = let h = c.if-left-lt-LETTER.false in
    subst (EqualityMade s) (sym c.with.ensures) (variables-made s (variable-term (left_there s) h) h c.if-right-ge-LETTER.true)

pub overflow_add-second-2 : goal.overflow_add-second-2
overflow_add-second-2 c = let s = c.requires in
    let t = right_there s (variable-term (left_there s) c.if-left-lt-LETTER.false) in
    omega (arith, before-end t, s.source.short)

pub bounds-reading-f : goal.bounds-reading-f
bounds-reading-f c = let s = c.requires in
    let t = right_there s (variable-term (left_there s) c.if-left-lt-LETTER.false) in
    function-inside t c.if-right-ge-LETTER.false

pub lift_terms-r-requires : goal.lift_terms-r-requires
lift_terms-r-requires c = let s = c.requires in
    let t = right_there s (variable-term (left_there s) c.if-left-lt-LETTER.false) in
    arguments-there t (function-term t c.if-right-ge-LETTER.false)

pub with-requires-2 : goal.with-requires-2
with-requires-2 c = c.requires.space

pub returns : goal.returns
returns c s = let h = c.if-left-lt-LETTER.false in
    let v = variable-term (left_there s) h in
    let q = function-term (right_there s v) c.if-right-ge-LETTER.false in
    let r = c.lift_terms-r in
    subst (EqualityMade s) (sym c.with-2.ensures) (turned-made s v q r.result r.new.table (r.ensures (arguments-there (right_there s v) q)) h)
