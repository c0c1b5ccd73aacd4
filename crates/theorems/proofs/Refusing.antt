-- A check of a chain that refuses: which one it is.
use Prim.Native.Nat.{ℕ}
use mathlib.Core.Path.{◌≡◌, refl, ap}
use mathlib.Core.Bool.{Bool, true, false}
use Rattle.theory.specs.Refusals.{Refusal, refused, unplaced, check}
use Rattle.theory.proofs.Answers.{answer≢refused, refused-inj}

-- not one with another number
pub other-number : (n : ℕ) (b : Bool) (q : Refusal) → (q.number ≡ n → ⊥) → check b q ≡ refused (unplaced n) → ⊥
other-number n true q h e = answer≢refused tt (unplaced n) e
other-number n false q h e = h (ap (λ (q : Refusal). q.number) (refused-inj {A = Unit {0}} q (unplaced n) e))

-- its test fails
pub refusing : (b : Bool) (q r : Refusal) → check b q ≡ refused r → b ≡ false
refusing true q r e = absurd (answer≢refused tt r e)
refusing false q r e = refl
