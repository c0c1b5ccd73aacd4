-- `hear_claim`: the three cases of an s line.
use Rattle.replies.proofs.LinesHeard.{says-model, says_none, says_nothing}
use mathlib.Core.Path.{sym, ◌∙◌}
use Rattle.replies.proofs.lines.hear_claim.Goals as goal

pub returns-then-eq : goal.returns-then-eq
returns-then-eq c = λ m. let l = c.args.line.now in says-model l _ (sym c.eq.ensures ∙ c.if-eq.true)

pub returns-then-eq-2 : goal.returns-then-eq-2
returns-then-eq-2 c = λ m. let l = c.args.line.now in says_none l _ (sym c.eq.ensures ∙ c.if-eq.false) (sym c.eq-2.ensures ∙ c.if-eq-2.true)

pub returns : goal.returns
returns c = λ m. let l = c.args.line.now in says_nothing l _ (sym c.eq.ensures ∙ c.if-eq.false) (sym c.eq-2.ensures ∙ c.if-eq-2.false)
