-- What is printed for an answer of Explain to the two parts of an input is short.
use Prim.Native.Nat.{ℕ, ◌+◌, ◌-◌, ◌≤◌, ◌<◌, ◌^◌}
use mathlib.Core.Path.{◌≡◌, ap, ◌∙◌, subst}
use mathlib.Core.Option.{Option, some}
use mathlib.Core.Bool.{true}
use mathlib.Core.List.{List, map}
use native.Mathlib.Omega.{arith}
use lib.ListN.{length, take, drop, replicate, length-append, length-drop, length-map}
use lib.Seq.{take_all}
use Rattle.theory.specs.Refusals.{Refusal, Answer, answer, refused}
use Rattle.theory.specs.Problem.{Problem}
use Rattle.theory.specs.CaseText.{Case}
use Rattle.theory.specs.Columns.{placed_problem, placed_case}
use Rattle.theory.specs.Operations.{explain_answer}
use Rattle.theory.specs.Operations as operations
use Rattle.theory.specs.Explainer.{case_start, explained_text, explained_from, explainer}
use Rattle.theory.proofs.Answers.{answer≢refused, unrefused}
use Rattle.theory.proofs.Vectors.{all_below-within}
use Rattle.theory.proofs.Parsing.{read_problem-well_formed}
use Rattle.theory.proofs.CaseText.{read-exactly}
use Rattle.theory.proofs.PlacedReading.{problem-read, case-read}
use Rattle.theory.proofs.PlacedRefusals.{placed-near}
use Rattle.theory.proofs.PlacedCases.{case-near}
use Rattle.theory.proofs.Explaining.{explaining}
use Rattle.answers.specs.declared.Reason.{Reason}
use Rattle.answers.specs.Answers.{ExplainAnswer, reason_bytes, reason_beside, reason_told}
use Rattle.answers.specs.Calls.{ReasoningCall, ExplainCall}
use Rattle.printing.specs.Reports.{Responds}
use Rattle.printing.specs.Reasons.{Short, Explicable}

-- a refusal names a line and a column of few digits
refused-near : (sheet case : List ℕ) (r : Refusal) → explain_answer sheet case ≡ refused r → (r.place.line < 2 ^ 32) × (r.place.column < 2 ^ 32)
unfolding explain_answer
refused-near sheet case r e =
    unrefused (placed_problem sheet) _ r e (λ h. let n = placed-near sheet r h in (omega (arith, n.0), omega (arith, n.1))) λ (p : Problem) h₁ e₁.
    unrefused (placed_case p.symbols case) _ r e₁ (λ h. let n = case-near sheet p (problem-read sheet p h₁) case r h in (omega (arith, n.0), omega (arith, n.1))) λ (k : Case) h₂ e₂.
    absurd (answer≢refused _ r e₂)

-- a reason is one of few lines: its letters stand in eight bytes
reason-short : (sheet case : List ℕ) (q : operations.Reason) → length q.letters ≤ 8 → explain_answer sheet case ≡ answer (some q) → Short q
reason-short sheet case q few e =
    let x = (explaining sheet case).reason q e in
    let w = read_problem-well_formed sheet x.problem (problem-read sheet x.problem x.read) in
    let o = read-exactly x.problem.symbols case x.values (case-read x.problem.symbols case x.values x.case-read) in
    let f = x.first in
    record {
      clause = omega (arith, f.among, w.clause-count);
      letters = few;
      counted = f.choice.counted;
      values = all_below-within x.values.size 8 q.values o.within f.choice.elements;
    }

-- the letters that stand in eight bytes are no more than eight
few-letters : (a : ExplainAnswer) (q : operations.Reason) → length (reason_told a).letters ≡ 8 → (reason_told a) ≡ reason_bytes q → length q.letters ≤ 8
few-letters a q h e =
    let bs : List ℕ = map (λ x. 65 + x) q.letters in
    omega (arith, h, ap (λ (r : Reason). length r.letters) e, length-append bs (drop (length bs) (replicate 8 0)), length-map q.letters (λ x. 65 + x))

-- an answer to the two parts of an input
module _ (input output : List ℕ) (at : ℕ) (start : at ≡ case_start true input) (a : ExplainAnswer) (eight : length (reason_told a).letters ≡ 8) (room : 128 ≤ length output) where
  parts : explain_answer (take at input) (take (length input - at) (drop at input)) ≡ explained_from at input
  parts = ap (explain_answer (take at input)) (take_all (length input - at) (drop at input) (omega (arith, length-drop at input)))

  -- it can be printed, and that is the output
  pub explicable : ExplainCall (take at input) (take (length input - at) (drop at input)) a → (s : Explicable a output) × (explained_text s.result ≡ explainer input)
  unfolding explainer
  explicable c = (
    record {
      result = explained_from at input;
      call = subst (λ (x : Answer (Option operations.Reason)). ReasoningCall x a) parts c;
      room = room;
      short = λ q e. reason-short (take at input) (drop at input) q (few-letters a q eight (c.beside ∙ ap reason_beside (parts ∙ e))) e;
      placed = λ q e. refused-near (take at input) (drop at input) q e;
    },
    ap (λ (k : ℕ). explained_text (explained_from k input)) start,
  )

  pub input-responds : ExplainCall (take at input) (take (length input - at) (drop at input)) a → (n : ℕ) (output' : List ℕ) → ((s : Explicable a output) → Responds (explained_text s.result) n output output')
      → Responds (explainer input) n output output'
  input-responds c n output' h = let s = explicable c in subst (λ (text : List ℕ). Responds text n output output') s.1 (h s.0)
