-- The ends of Find: what is found and what is left, known; or it refuses.
use Prim.Native.Nat.{ℕ}
use mathlib.Core.Path.{◌≡◌, refl, sym, ap, ◌∙◌}
use mathlib.Core.List.{List}
use lib.ListN.{length, replicate}
use Rattle.theory.specs.Refusals.{Answer, answer, refused}
use Rattle.theory.specs.Refusals as theory
use Rattle.theory.specs.Operations.{Search}
use Rattle.allowance.specs.AllowedFind.{Stoppable, allowed_answer, allowed_output, allowed_work}
use Rattle.answers.specs.declared.Refusal.{Refusal}
use Rattle.answers.specs.Answers.{refusal_in}
use Rattle.std.specs.Prelude.{Err}
use Rattle.finding.specs.Calls.{AllowedAnswer, allowed_in}
use Rattle.finding.specs.Ending.{Ends}

module _ (finds : ℕ → ℕ → Answer (Stoppable Search)) (r : AllowedAnswer) (work work' output output' : List ℕ) where
  -- what is found, known
  pub ends_by : (a : Answer (Stoppable Search)) → finds (length work) (length output) ≡ a → allowed_in r ≡ allowed_answer a → work' ≡ allowed_work a work → output' ≡ allowed_output a output → Ends finds r work work' output output'
  ends_by a e f w o =
      record {
        answer = f ∙ sym (ap allowed_answer e);
        worked = w ∙ sym (ap (λ (b : Answer (Stoppable Search)). allowed_work b work) e);
        left = o ∙ sym (ap (λ (b : Answer (Stoppable Search)). allowed_output b output) e);
      }

  -- found otherwise, but the same
  pub ends_as : (finds' : ℕ → ℕ → Answer (Stoppable Search)) → finds (length work) (length output) ≡ finds' (length work) (length output) → Ends finds' r work work' output output'
      → Ends finds r work work' output output'
  ends_as finds' e h = ends_by (finds' (length work) (length output)) e h.answer h.worked h.left

-- a refusal changes nothing
pub ends-refused : (finds : ℕ → ℕ → Answer (Stoppable Search)) (r : Refusal) (q : theory.Refusal) (work output : List ℕ) → finds (length work) (length output) ≡ refused q → refusal_in r ≡ q
    → Ends finds (Err r) work work output output
ends-refused finds r q work output e f = ends_by finds (Err r) work work output output (refused q) e (ap (λ (q : theory.Refusal). refused q) f) refl refl

-- a result that was found in a work area of the same length and written over the same output
pub ends-whole : (finds : ℕ → ℕ → Answer (Stoppable Search)) (w : Stoppable Search) (r : AllowedAnswer) (work₀ work work' output₀ output output' : List ℕ)
    → finds (length work₀) (length output₀) ≡ answer w → length work ≡ length work₀ → output ≡ output₀ → Ends (λ _ _. answer w) r work work' output output' → Ends finds r work₀ work' output₀ output'
ends-whole finds w r work₀ work work' output₀ output output' e l k h =
    ends_by finds r work₀ work' output₀ output' (answer w) e h.answer (h.worked ∙ ap (λ (n : ℕ). replicate n 0) l) (h.left ∙ ap (allowed_output (answer w)) k)
