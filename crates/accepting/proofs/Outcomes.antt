-- What From solver answers and leaves: a case at the front of the output, or claimed none or a refusal and the output as it was.
use Prim.Native.Nat.{ℕ}
use mathlib.Core.Path.{◌≡◌, refl, sym, ap, ◌∙◌}
use mathlib.Core.List.{List}
use lib.ListN.{length}
use Rattle.theory.specs.Refusals.{Answer, answer, refused}
use Rattle.theory.specs.Refusals as theory
use Rattle.theory.specs.Operations.{over}
use Rattle.answers.specs.declared.Refusal.{Refusal}
use Rattle.answers.specs.Answers.{refusal_in}
use Rattle.solver.specs.SolverText.{Outcome, model_case, claimed_none, solver_answer, solver_output}
use Rattle.std.specs.Prelude.{Ok, Err}
use Rattle.accepting.specs.declared.SolverResult.TheVariants.{Case, ClaimedNone}
use Rattle.accepting.specs.Calls.{SolverAnswer, OutcomeCall}

module _ (a : Answer (Outcome (List ℕ))) where
  -- the answer and the output of another outcome that is the same
  pub same_outcome : (b : Answer (Outcome (List ℕ))) (r : SolverAnswer) (out out' : List ℕ) → a ≡ b → OutcomeCall b r out out' → OutcomeCall a r out out'
  same_outcome b r out out' e h =
      record { answer = h.answer ∙ sym (ap solver_answer e); left = h.left ∙ sym (ap (λ (b : Answer (Outcome (List ℕ))). solver_output b out) e) }

  pub refuses : (q : theory.Refusal) (r : Refusal) (out : List ℕ) → a ≡ refused q → refusal_in r ≡ q → OutcomeCall a (Err r) out out
  refuses q r out e h = same_outcome (refused q) (Err r) out out e (record { answer = ap refused h; left = refl })

  pub claims : (out : List ℕ) → a ≡ answer claimed_none → OutcomeCall a (Ok ClaimedNone) out out
  claims out e = same_outcome (answer claimed_none) (Ok ClaimedNone) out out e (record { answer = refl; left = refl })

  pub accepts : (t : List ℕ) (n : ℕ) (out out' : List ℕ) → a ≡ answer (model_case t) → n ≡ length t → out' ≡ over t out → OutcomeCall a (Ok (Case n)) out out'
  accepts t n out out' e h o = same_outcome (answer (model_case t)) (Ok (Case n)) out out' e (record { answer = ap (λ (n : ℕ). answer (model_case n)) h; left = o })
