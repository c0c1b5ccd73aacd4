-- What a call that writes a text answers and leaves: the text at the front of the output, or a refusal and the output as it was.
use Prim.Native.Nat.{ℕ}
use mathlib.Core.Path.{◌≡◌, refl, sym, ap, ◌∙◌}
use mathlib.Core.List.{List}
use native.Mathlib.Nat.{zero-add}
use lib.ListN.{length}
use Rattle.theory.specs.Refusals.{Answer, answer, refused}
use Rattle.theory.specs.Refusals as theory
use Rattle.theory.specs.Operations.{length_answer, over, output_after}
use Rattle.text.specs.Put.{put}
use Rattle.answers.specs.declared.Refusal.{Refusal}
use Rattle.std.specs.Prelude.{Ok, Err}
use Rattle.answers.specs.Answers.{WriteAnswer, refusal_in}
use Rattle.answers.specs.Calls.{WritingCall}

-- a text that was put at the start stands at the front
pub put-over : (l text : List ℕ) → put l 0 text ≡ over text l
unfolding put
put-over l text = rw zero-add refl

pub refuses : (a : Answer (List ℕ)) (q : theory.Refusal) (r : Refusal) (out : List ℕ) → a ≡ refused q → refusal_in r ≡ q → WritingCall a (Err r) out out
refuses a q r out e h = record { answer = ap refused h ∙ sym (ap length_answer e); left = sym (ap (λ (b : Answer (List ℕ)). output_after b out) e) }

pub writes : (a : Answer (List ℕ)) (t : List ℕ) (n : ℕ) (out out' : List ℕ) → a ≡ answer t → n ≡ length t → out' ≡ over t out → WritingCall a (Ok n) out out'
writes a t n out out' e h o = record { answer = ap answer h ∙ sym (ap length_answer e); left = o ∙ sym (ap (λ (b : Answer (List ℕ)). output_after b out) e) }

pub answers-as : (a b : Answer (List ℕ)) (r : WriteAnswer) (out out' : List ℕ) → a ≡ b → WritingCall b r out out' → WritingCall a r out out'
answers-as a b r out out' e h = record { answer = h.answer ∙ sym (ap length_answer e); left = h.left ∙ sym (ap (λ (b : Answer (List ℕ)). output_after b out) e) }
