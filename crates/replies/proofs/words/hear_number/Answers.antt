-- `hear_number`: the 0, or a number after its sign.
use mathlib.Core.Path.{sym, ◌∙◌}
use Rattle.replies.proofs.NumbersHeard.{last-number, negative-number, positive-number}
use Rattle.replies.proofs.words.hear_number.Goals as goal

pub returns-then-eq : goal.returns-then-eq
returns-then-eq c = let a = c.args in last-number a.marks.now a.word.now (sym c.eq.ensures ∙ c.if-eq.true)

pub hear_literal-requires : goal.hear_literal-requires
hear_literal-requires c = (c.number_within-n.ensures.bounds, c.requires)

pub returns-then-starts_with : goal.returns-then-starts_with
returns-then-starts_with c = let a = c.args in
    negative-number a.marks.now a.word.now (sym c.eq.ensures ∙ c.if-eq.false) _ _ _ c.starts_with.ensures c.if-starts_with.true c.number_within-n.ensures.number c.hear_literal.ensures

pub hear_literal-requires-2 : goal.hear_literal-requires-2
hear_literal-requires-2 c = (c.number_within-n-2.ensures.bounds, c.requires)

pub returns : goal.returns
returns c = let a = c.args in
    positive-number a.marks.now a.word.now (sym c.eq.ensures ∙ c.if-eq.false) _ _ _ c.starts_with.ensures c.if-starts_with.false c.number_within-n-2.ensures.number c.hear_literal-2.ensures
