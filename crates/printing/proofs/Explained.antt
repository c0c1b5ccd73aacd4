-- The result that an answer of Explain stands for.
use Prim.Native.Nat.{ℕ}
use mathlib.Core.Path.{◌≡◌, sym, ap, ◌∙◌, subst}
use mathlib.Core.Option.{Option, some}
use mathlib.Core.List.{List}
use Rattle.std.specs.Prelude.{Some, Ok, Err}
use Rattle.theory.specs.Refusals.{Answer, answer, at_place}
use Rattle.theory.specs.Operations as operations
use Rattle.theory.specs.Program.{refusal_text}
use Rattle.theory.specs.Explainer.{reason_text, explained_text}
use Rattle.syntax.specs.Faults.{number_of}
use Rattle.answers.specs.declared.Refusal as answers
use Rattle.answers.specs.declared.Reason.{Reason}
use Rattle.answers.specs.Answers.{ExplainAnswer, reason_in, explain_in, reason_beside, reason_told}
use Rattle.printing.specs.Reports.{Responds}
use Rattle.printing.specs.Reasons.{Printable, Explicable}

module _ (a : ExplainAnswer) (output : List ℕ) (s : Explicable a output) where
  -- the result that an answer stands for
  stands : (b : ExplainAnswer) → a ≡ b → s.result ≡ explain_in b
  stands b e = sym s.call.answer ∙ ap explain_in e

  -- the bytes of the reason are printable, and it is the result's
  pub no-printable : (r : Reason) → a ≡ Ok (Some r) → (p : Printable r) × (s.result ≡ answer (some p.reason))
  no-printable r e =
      let is : s.result ≡ answer (some (reason_in r)) = stands (Ok (Some r)) e in
      (record { reason = reason_in r; is = ap reason_told (sym e) ∙ s.call.beside ∙ ap reason_beside is; short = s.short (reason_in r) is }, is)

  pub no-responds : (q : operations.Reason) (n : ℕ) (output' : List ℕ) → s.result ≡ answer (some q) → Responds (reason_text q) n output output' → Responds (explained_text s.result) n output output'
  unfolding explained_text
  no-responds q n output' e h = subst (λ (x : Answer (Option operations.Reason)). Responds (explained_text x) n output output') (sym e) h

  pub refused-responds : (q : answers.Refusal) (n : ℕ) (output' : List ℕ) → a ≡ Err q
      → Responds (refusal_text (at_place (number_of q.fault) (record { line = q.line; column = q.column }))) n output output' → Responds (explained_text s.result) n output output'
  unfolding explained_text refusal_text
  refused-responds q n output' e h = subst (λ (x : Answer (Option operations.Reason)). Responds (explained_text x) n output output') (sym (stands (Err q) e)) h
