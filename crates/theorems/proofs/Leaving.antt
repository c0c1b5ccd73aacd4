-- The text that a call leaves is the text of its promise.
use Prim.Native.Nat.{ℕ}
use mathlib.Core.Path.{◌≡◌, refl, sym, ap, ◌∙◌}
use mathlib.Core.List.{List}
use lib.ListN.{length, take, drop}
use lib.Seq.{take-append_seam}
use Rattle.std.specs.Prelude.{Ok, Err}
use Rattle.theory.specs.Refusals.{Refusal, Answer, answer, refused}
use Rattle.theory.specs.Operations.{length_answer, over, output_after}
use Rattle.theory.proofs.Answers.{answer-inj, refused-inj, answer≢refused}
use Rattle.answers.specs.Answers.{WriteAnswer, refusal_in, length_in}
use Rattle.answers.specs.Calls.{WritingCall}
use Rattle.theorems.specs.Leaving.{Leaves}

-- the answer that says a length
length-answered : (r : WriteAnswer) (n : ℕ) → length_in r ≡ answer n → r ≡ Ok n
length-answered (Ok m) n e = ap Ok (answer-inj m n e)
length-answered (Err q) n e = absurd (answer≢refused n (refusal_in q) (sym e))

module _ (a : Answer (List ℕ)) (r : WriteAnswer) (output output' : List ℕ) (w : WritingCall a r output output') where
  -- the text that the promise answers is left
  pub leaves : (text : List ℕ) → a ≡ answer text → Leaves r output' text
  leaves text e =
      record {
        answered = length-answered r (length text) (w.answer ∙ ap length_answer e);
        stands = ap (take (length text)) (w.left ∙ ap (λ (a : Answer (List ℕ)). output_after a output) e) ∙ take-append_seam text (drop (length text) output);
      }

  -- the text that is left is the one that the promise answers
  pub left-text : (text : List ℕ) → Leaves r output' text → a ≡ answer text
  left-text text h = go a refl
    where
      go : (b : Answer (List ℕ)) → a ≡ b → a ≡ answer text
      go (answer t) e =
          let n : length text ≡ length t = answer-inj (length text) (length t) (sym (ap length_in h.answered) ∙ w.answer ∙ ap length_answer e) in
          e
          ∙ ap answer
          (sym (take-append_seam t (drop (length t) output))
          ∙ ap (λ (n : ℕ). take n (over t output)) (sym n)
          ∙ ap (take (length text)) (sym (w.left ∙ ap (λ (a : Answer (List ℕ)). output_after a output) e))
          ∙ h.stands)
      go (refused q) e = absurd (answer≢refused (length text) q (sym (ap length_in h.answered) ∙ w.answer ∙ ap length_answer e))

-- a text whose answer is refused is refused
pub refused-text : (a : Answer (List ℕ)) (q : Refusal) → length_answer a ≡ refused q → a ≡ refused q
refused-text (answer t) q e = absurd (answer≢refused (length t) q e)
refused-text (refused p) q e = ap refused (refused-inj {A = ℕ} p q e)
