-- Find in the mode of named terms and plain, of the calls, from what is proved of the definitions.
use Prim.Native.Nat.{ℕ}
use mathlib.Core.Path.{◌≡◌, refl, sym, ap, ◌∙◌}
use mathlib.Core.Bool.{true, false}
use mathlib.Core.List.{List}
use native.Mathlib.Omega.{arith}
use lib.ListN.{length}
use Rattle.std.specs.Prelude.{Ok, Err}
use Rattle.theory.specs.Refusals.{Answer, answer}
use Rattle.theory.specs.Operations.{Search, found, find_answer}
use Rattle.theory.proofs.Answers.{answer-inj, answer≢refused}
use Rattle.symmetry.specs.SymmetricOperations.{find_result_with}
use Rattle.symmetry.proofs.Switches.{switches}
use Rattle.answers.specs.declared.PlainResult.TheVariants as call
use Rattle.answers.specs.Answers.{FindAnswer, refusal_in, find_in}
use Rattle.theorems.specs.SameAnswers.{NotRefused}
use Rattle.theorems.specs.Named.{AnswersAlike, NamedAnswersHold}
use Rattle.theorems.proofs.Unstopped.{SearchingCall, unstopped}
use Rattle.theorems.proofs.Demand2.{case-stands}
use Rattle.theorems.proofs.SameAnswers.{taken}

-- answers that say the same are the same
same-find : (r s : FindAnswer) → find_in r ≡ find_in s → NotRefused r → r ≡ s
same-find (Ok (call.Found m n)) (Ok (call.Found i j)) e h = let a : m ≡ i = cc in let b : n ≡ j = cc in cc
same-find (Ok (call.Found m n)) (Ok (call.Nothing b)) e h = let z : ◌≡◌ {A = ℕ} 0 1 = cc in absurd (omega arith)
same-find (Ok (call.Found m n)) (Err q) e h = absurd (answer≢refused _ (refusal_in q) e)
same-find (Ok (call.Nothing b)) (Ok (call.Found i j)) e h = let z : ◌≡◌ {A = ℕ} 0 1 = cc in absurd (omega arith)
same-find (Ok (call.Nothing b)) (Ok (call.Nothing d)) e h = let a : b ≡ d = cc in cc
same-find (Ok (call.Nothing b)) (Err q) e h = absurd (answer≢refused _ (refusal_in q) e)
same-find (Err q) s e h = absurd (h q refl)

-- calls with one result answer alike
pub alike : (a b : Answer Search) → a ≡ b → (r : FindAnswer) (work work' output output' : List ℕ) → SearchingCall a r work work' output output' → NotRefused r
    → (s : FindAnswer) (area area' other other' : List ℕ) → SearchingCall b s area area' other other' → AnswersAlike r output' s other'
alike a b results r work work' output output' f h s area area' other other' g =
    let same : r ≡ s = same-find r s (f.answer ∙ ap find_answer results ∙ sym g.answer) h in
    record {
      same = same;
      case = λ size n e.
          let c = case-stands a r work work' output output' f size n e in
          let d = case-stands b s area area' other other' g size n (sym same ∙ e) in
          let t : found size c.0 ≡ found size d.0 = answer-inj (found size c.0) (found size d.0) (sym c.1 ∙ results ∙ d.1) in
          let same_case : c.0 ≡ d.0 = cc in
          c.2 ∙ same_case ∙ sym d.2;
    }

pub named-answers-of-calls : NamedAnswersHold
named-answers-of-calls sheet low high symmetry r work work' output output' f h s area area' other other' g k =
    let a : Answer Search = find_result_with false symmetry sheet low high (length work) (length output) in
    let b : Answer Search = find_result_with true symmetry sheet low high (length area) (length other) in
    let c = unstopped sheet low high false symmetry r work work' output output' f h in
    let d = unstopped sheet low high true symmetry s area area' other other' g k in
    let x = taken a r c.answer h in
    let y = taken b s d.answer k in
    let same : x.0 ≡ y.0 = switches.same_in_both_modes symmetry sheet low high (length work) (length output) (length area) (length other) x.0 y.0 x.1 y.1 in
    alike a b (x.1 ∙ ap answer same ∙ sym y.1) r work work' output output' c h s area area' other other' d
