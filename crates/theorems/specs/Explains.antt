-- Explain, of the calls (document 02, slip 2): a reason is given exactly when Judge says no, and it shows the first clause and the first choice of values under which it fails.
use Rattle.std.specs.Prelude.{ℕ, ◌≡◌, ◌↔◌, List, Ok, true, false}
use Rattle.std.proofs.Math.Option.{none, some}
use Rattle.theory.specs.Refusals.{Refusal, answer, refused}
use Rattle.theory.specs.Operations.{Reason}
use Rattle.theory.specs.Claims.Explaining.{Explained}
use Rattle.answers.specs.Answers.{ExplainAnswer, JudgeAnswer, judge_in, explain_in}
use Rattle.answers.specs.Calls.{JudgeCall, ExplainCall}

-- of a call of Explain and a call of Judge on the same sheet and case
pub record Explains (sheet case : List ℕ) (r : ExplainAnswer) (j : JudgeAnswer) : Type 0 where
  -- the one is refused exactly as the other is
  pub refuses : (q : Refusal) → (explain_in r ≡ refused q) ↔ (judge_in j ≡ refused q)
  -- unless refused, no reason is given exactly when Judge says yes
  pub yes : (explain_in r ≡ answer none) ↔ (j ≡ Ok true)
  pub no : ((q : Reason) × (explain_in r ≡ answer (some q))) ↔ (j ≡ Ok false)
  -- the clause shown fails under the choice shown; every clause before it holds, and so does every choice before it
  pub reason : (q : Reason) → explain_in r ≡ answer (some q) → Explained sheet case q

-- it holds of every two calls
abbrev pub ExplainsHolds : Type 0
ExplainsHolds = (sheet case : List ℕ) (r : ExplainAnswer) (j : JudgeAnswer) → ExplainCall sheet case r → JudgeCall sheet case j → Explains sheet case r j
