-- Explain, of the calls, from what is proved of its definition.
use mathlib.Core.Path.{sym, ap, ◌∙◌}
use Rattle.theory.proofs.Explaining.{explaining}
use Rattle.answers.specs.Answers.{judge_in}
use Rattle.theorems.specs.Explains.{ExplainsHolds}
use Rattle.theorems.proofs.Demand2.{said-yes, said-no}

pub explains : ExplainsHolds
explains sheet case r j c d =
    let t = explaining sheet case in
    record {
      refuses = λ q. (λ e. d.answer ∙ (t.refuses q).0 (sym c.answer ∙ e), λ e. c.answer ∙ (t.refuses q).1 (sym d.answer ∙ e));
      yes = (λ e. said-yes j (d.answer ∙ t.yes.0 (sym c.answer ∙ e)), λ e. c.answer ∙ t.yes.1 (sym d.answer ∙ ap judge_in e));
      no = (
        λ h. said-no j (d.answer ∙ t.no.0 (h.0, sym c.answer ∙ h.1)),
        λ e. let h = t.no.1 (sym d.answer ∙ ap judge_in e) in (h.0, c.answer ∙ h.1),
      );
      reason = λ q e. t.reason q (sym c.answer ∙ e);
    }
