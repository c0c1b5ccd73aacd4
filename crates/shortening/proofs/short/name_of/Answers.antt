-- `name_of` looks the term up, and adds it where there is room.
use Rattle.shortening.proofs.NamesGiven.{old-given, none-given, new-given}
use Rattle.shortening.proofs.short.name_of.Goals as goal

pub returns-in-Some : goal.returns-in-Some
returns-in-Some c g h there =
    let a = c.args in
    let p = c.in-Some in
    old-given g a.sheet.now a.declared a.terms a.term h there p.place p.ensures.place p.ensures.within

pub returns-then-terms-eq-MAX_HELPERS : goal.returns-then-terms-eq-MAX_HELPERS
returns-then-terms-eq-MAX_HELPERS c g h there =
    let a = c.args in
    none-given g a.sheet.now a.declared a.terms a.term h there c.in_default.ensures.place c.if-terms-eq-MAX_HELPERS.true

pub returns : goal.returns
returns c g h there =
    let a = c.args in
    let w = c.with_term in
    new-given g a.sheet.now a.declared a.terms a.term h there c.in_default.ensures.place c.if-terms-eq-MAX_HELPERS.false w.result w.ensures.held w.ensures.count w.ensures.spans
