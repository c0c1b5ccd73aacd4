-- The answers of Find with an allowance, and the calls that are not stopped: each of them answers as the search without an allowance does.
use Prim.Native.Nat.{ℕ, ◌≤◌}
use mathlib.Core.Path.{◌≡◌, refl, sym, ap, ◌∙◌}
use mathlib.Core.Bool.{Bool, false}
use mathlib.Core.List.{List}
use native.Mathlib.Omega.{arith}
use lib.Dec.{leb}
use lib.ListN.{length}
use Rattle.std.specs.Prelude.{Ok, Err}
use Rattle.theory.specs.Refusals as theory
use Rattle.theory.specs.Refusals.{Answer, answer, refused, unplaced}
use Rattle.theory.specs.Problem.{Problem}
use Rattle.theory.specs.Operations.{Search, found, nothing, Found, found_case, no_case, find_answer, find_work, find_output}
use Rattle.theory.proofs.Tests.{leb-true}
use Rattle.theory.proofs.Answers.{unbind, answer≢refused, refused-inj, check-true}
use Rattle.symmetry.specs.SymmetricOperations.{find_result_with}
use Rattle.allowance.specs.AllowedFind.{max_allowance, Stoppable, finished, stopped, find_within, allowed_answer, allowed_output, allowed_work}
use Rattle.allowance.proofs.AllowedFind.{same-refusals}
use Rattle.allowance.proofs.NotStopped.{not_stopped}
use Rattle.answers.specs.declared.Refusal.{Refusal}
use Rattle.answers.specs.declared.PlainResult.TheVariants as plain
use Rattle.answers.specs.Answers.{FindAnswer, find_in}
use Rattle.finding.specs.declared.allowed.FindResult.TheVariants as allowed
use Rattle.finding.specs.Calls.{AllowedAnswer, allowed_in}
use Rattle.theorems.specs.Unstopped.{counting, UnstoppedCall}
use Rattle.theorems.specs.Allowance.{Unrefused, IsStopped}
use Rattle.theorems.specs.SameAnswers.{NotRefused}

-- a result with its number is not stopped
finished≢stopped : {A : Type 0} (r : A) (m s n : ℕ) → ◌≡◌ {A = Answer (Stoppable A)} (answer (finished r m)) (answer (stopped s n)) → ⊥
finished≢stopped r m s n e = let z : ◌≡◌ {A = ℕ} 0 1 = cc in omega arith

-- an answer that is neither refused nor stopped has a result
pub result-of : (a : Answer (Stoppable Search)) (r : AllowedAnswer) → allowed_in r ≡ allowed_answer a → Unrefused r → (IsStopped r → ⊥) → (x : Search) × (n : ℕ) × (a ≡ answer (finished x n))
result-of (answer (finished x n)) r e h k = (x, n, refl)
result-of (answer (stopped s n)) (Ok (allowed.Found t m c)) e h k = absurd (finished≢stopped (found_case t m) c s n e)
result-of (answer (stopped s n)) (Ok (allowed.Nothing b c)) e h k = absurd (finished≢stopped (no_case b) c s n e)
result-of (answer (stopped s n)) (Ok (allowed.Stopped t m)) e h k = absurd (k (t, m, refl))
result-of (answer (stopped s n)) (Err q) e h k = absurd (h q refl)
result-of (refused p) (Ok (allowed.Found t m c)) e h k = absurd (answer≢refused _ p e)
result-of (refused p) (Ok (allowed.Nothing b c)) e h k = absurd (answer≢refused _ p e)
result-of (refused p) (Ok (allowed.Stopped t m)) e h k = absurd (answer≢refused _ p e)
result-of (refused p) (Err q) e h k = absurd (h q refl)

-- one that is not refused is answered
pub answered : (a : Answer (Stoppable Search)) (r : AllowedAnswer) → allowed_in r ≡ allowed_answer a → Unrefused r → (w : Stoppable Search) × (a ≡ answer w)
answered (answer w) r e h = (w, refl)
answered (refused p) (Ok (allowed.Found t m c)) e h = absurd (answer≢refused _ p e)
answered (refused p) (Ok (allowed.Nothing b c)) e h = absurd (answer≢refused _ p e)
answered (refused p) (Ok (allowed.Stopped t m)) e h = absurd (answer≢refused _ p e)
answered (refused p) (Err q) e h = absurd (h q refl)

-- one that is refused is refused
pub allowed-refused : (a : Answer (Stoppable Search)) (q : theory.Refusal) → allowed_answer a ≡ refused q → a ≡ refused q
allowed-refused (answer (finished (found s t) n)) q e = absurd (answer≢refused _ q e)
allowed-refused (answer (finished (nothing b) n)) q e = absurd (answer≢refused _ q e)
allowed-refused (answer (stopped s n)) q e = absurd (answer≢refused _ q e)
allowed-refused (refused p) q e = ap refused (refused-inj p q e)

-- found and none are no refusals
pub found-taken : (r : FindAnswer) (s n : ℕ) → r ≡ Ok (plain.Found s n) → NotRefused r
found-taken r s n e q h = let z : ◌≡◌ {A = ℕ} 0 1 = cc in omega arith

pub none-taken : (r : FindAnswer) (b : Bool) → r ≡ Ok (plain.Nothing b) → NotRefused r
none-taken r b e q h = let z : ◌≡◌ {A = ℕ} 0 1 = cc in omega arith

-- an answer with a number beside it
counting-taken : (r : FindAnswer) (k : ℕ) → NotRefused r → Unrefused (counting r k)
counting-taken (Ok (plain.Found s n)) k h q e = let z : ◌≡◌ {A = ℕ} 0 1 = cc in omega arith
counting-taken (Ok (plain.Nothing b)) k h q e = let z : ◌≡◌ {A = ℕ} 0 1 = cc in omega arith
counting-taken (Err p) k h q e = h p refl

counting-unstopped : (r : FindAnswer) (k : ℕ) → IsStopped (counting r k) → ⊥
counting-unstopped (Ok (plain.Found s n)) k h = let e = h.2 in let z : ◌≡◌ {A = ℕ} 0 1 = cc in omega arith
counting-unstopped (Ok (plain.Nothing b)) k h = let e = h.2 in let z : ◌≡◌ {A = ℕ} 0 1 = cc in omega arith
counting-unstopped (Err p) k h = let e = h.2 in let z : ◌≡◌ {A = ℕ} 0 1 = cc in omega arith

-- the answer with its number left out; what stopped becomes is not looked at
abbrev numberless : Answer (Stoppable Found) → Answer Found
numberless (answer (finished f k)) = answer f
numberless (answer (stopped s k)) = answer (no_case false)
numberless (refused q) = refused q

numberless-in : (r : FindAnswer) (k : ℕ) → find_in r ≡ numberless (allowed_in (counting r k))
numberless-in (Ok (plain.Found s n)) k = refl
numberless-in (Ok (plain.Nothing b)) k = refl
numberless-in (Err q) k = refl

numberless-answer : (x : Search) (n : ℕ) → numberless (allowed_answer (answer (finished x n))) ≡ find_answer (answer x)
numberless-answer (found s c) n = refl
numberless-answer (nothing b) n = refl

output-finished : (x : Search) (n : ℕ) (output : List ℕ) → allowed_output (answer (finished x n)) output ≡ find_output (answer x) output
output-finished (found s c) n output = refl
output-finished (nothing b) n output = refl

-- a call of the search without an allowance, with this result
pub record SearchingCall (result : Answer Search) (r : FindAnswer) (work work' output output' : List ℕ) : Type 0 where
  pub answer : find_in r ≡ find_answer result
  pub worked : work' ≡ find_work result work
  pub left : output' ≡ find_output result output

-- a call that is not stopped is one
pub unstopped : (sheet : List ℕ) (low high : ℕ) (named symmetry : Bool) (r : FindAnswer) (work work' output output' : List ℕ) → UnstoppedCall sheet low high named symmetry r work work' output output' → NotRefused r
    → SearchingCall (find_result_with named symmetry sheet low high (length work) (length output)) r work work' output output'
unstopped sheet low high named symmetry r work work' output output' c h =
    let k : ℕ = c.choices in
    let x = result-of _ (counting r k) c.call.answer (counting-taken r k h) (counting-unstopped r k) in
    let e : find_result_with named symmetry sheet low high (length work) (length output) ≡ answer x.0 =
    not_stopped named symmetry sheet low high c.allowance (length work) (length output) x.1 x.0 x.2 in
    record {
      answer = numberless-in r k ∙ ap numberless (c.call.answer ∙ ap allowed_answer x.2) ∙ numberless-answer x.0 x.1 ∙ ap find_answer (sym e);
      worked = c.call.worked ∙ ap (λ (a : Answer (Stoppable Search)). allowed_work a work) x.2 ∙ ap (λ (a : Answer Search). find_work a work) (sym e);
      left = c.call.left ∙ ap (λ (a : Answer (Stoppable Search)). allowed_output a output) x.2 ∙ output-finished x.0 x.1 output
          ∙ ap (λ (a : Answer Search). find_output a output) (sym e);
    }

-- an answered search with an allowance, stopped or not: the allowance is within its limit, and the search without one is answered
module _ (named symmetry : Bool) (sheet : List ℕ) (low high a work room : ℕ) (w : Stoppable Search) (e : find_within named symmetry sheet low high a work room ≡ answer w) where
  pub limit-kept : a ≤ max_allowance
  unfolding find_within
  limit-kept =
      unbind _ _ w e λ (p : Problem) _ e₁.
      unbind _ _ w e₁ λ (u₁ : Unit {0}) _ e₂.
      unbind _ _ w e₂ λ (u₂ : Unit {0}) h _. leb-true a max_allowance (check-true (leb a max_allowance) (unplaced 24) u₂ h)

  pub answered-without : (x : Search) × (find_result_with named symmetry sheet low high work room ≡ answer x)
  answered-without = go (find_result_with named symmetry sheet low high work room) refl
    where
      go : (r : Answer Search) → find_result_with named symmetry sheet low high work room ≡ r → (x : Search) × (find_result_with named symmetry sheet low high work room ≡ answer x)
      go (answer x) h = (x, h)
      go (refused q) h = absurd (answer≢refused w q (sym e ∙ (same-refusals named symmetry sheet low high a work room q limit-kept).1 h))
