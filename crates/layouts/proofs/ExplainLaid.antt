-- Explain's struct is Judge's, and the reason behind it.
use mathlib.Core.Path.{◌≡◌, refl, sym, ap, ◌∙◌}
use mathlib.Core.Bool.{Bool, true, false}
use mathlib.Core.Option.{Option}
use Rattle.std.specs.Prelude.{Some, None, Ok, Err}
use Rattle.std.specs.Prelude as rust
use Rattle.theory.specs.Refusals.{Answer}
use Rattle.theory.specs.Operations as theory
use Rattle.answers.specs.declared.Reason.{Reason}
use Rattle.answers.specs.Answers.{ExplainAnswer, JudgeAnswer, judge_in, explain_in, reason_told}
use Rattle.answers.specs.Calls.{ReasoningCall}
use Rattle.layouts.specs.declared.JudgeOut.{JudgeOut}
use Rattle.layouts.specs.declared.ExplainOut.{ExplainOut}
use Rattle.layouts.specs.Layouts.{judge_out, verdict_of, laid, explain_out}

-- Judge's answer to what Explain answers
abbrev pub verdict : ExplainAnswer → JudgeAnswer
verdict (Ok (Some q)) = Ok false
verdict (Ok None) = Ok true
verdict (Err r) = Err r

verdict-of : (x : ExplainAnswer) → verdict_of (explain_in x) ≡ judge_in (verdict x)
verdict-of (Ok (Some q)) = refl
verdict-of (Ok None) = refl
verdict-of (Err r) = refl

pub laid_out : (x : ExplainAnswer) (j : JudgeOut) → j ≡ judge_out (judge_in (verdict x)) → (o : ExplainOut) → o ≡ laid j (reason_told x) → (a : Answer (Option theory.Reason)) → ReasoningCall a x → o ≡ explain_out a
laid_out x j e o h a c =
    h ∙ ap (λ (j : JudgeOut). laid j (reason_told x)) (e ∙ ap judge_out (sym (verdict-of x) ∙ ap verdict_of c.answer)) ∙ ap (laid (judge_out (verdict_of a))) c.beside
