-- Laws of answers: going on with a result, and refusing.
use Prim.Native.Nat.{ℕ}
use mathlib.Core.Path.{◌≡◌, refl, ap, ◌∙◌, subst}
use mathlib.Core.Bool.{Bool, true, false}
use mathlib.Core.Option.{Option, none, some}
use native.Mathlib.Omega.{arith}
use Rattle.theory.specs.Refusals.{Refusal, Answer, answer, refused, ◌>>=◌, check, or_refuse}

pub answer-inj : {A : Type 0} (a b : A) → answer a ≡ answer b → a ≡ b
answer-inj a b e = cc

pub refused-inj : {A : Type 0} (r s : Refusal) → ◌≡◌ {A = Answer A} (refused r) (refused s) → r ≡ s
refused-inj r s e = cc

pub answer≢refused : {A : Type 0} (a : A) (r : Refusal) → answer a ≡ refused r → ⊥
answer≢refused a r e = let z : ◌≡◌ {A = ℕ} 0 1 = cc in omega arith

module _ {A B : Type 0} where
  -- an answered step was answered before and after
  pub bind-answer : (m : Answer A) (k : A → Answer B) (b : B) → (m >>= k) ≡ answer b → (a : A) × (m ≡ answer a) × (k a ≡ answer b)
  unfolding ◌>>=◌
  bind-answer (answer a) k b e = (a, refl, e)
  bind-answer (refused r) k b e = let z : ◌≡◌ {A = ℕ} 0 1 = cc in absurd (omega arith)

  -- the same, handed on: chains of steps stay small
  pub unbind : {C : Type 0} (m : Answer A) (k : A → Answer B) (b : B) → (m >>= k) ≡ answer b → ((a : A) → m ≡ answer a → k a ≡ answer b → C) → C
  unfolding ◌>>=◌
  unbind (answer a) k b e go = go a refl e
  unbind (refused r) k b e go = let z : ◌≡◌ {A = ℕ} 0 1 = cc in absurd (omega arith)

  -- what refuses, one or the other
  pub unrefused : {C : Type 0} (m : Answer A) (k : A → Answer B) (r : Refusal) → (m >>= k) ≡ refused r → (m ≡ refused r → C) → ((a : A) → m ≡ answer a → k a ≡ refused r → C) → C
  unfolding ◌>>=◌
  unrefused (answer a) k r e f h = h a refl e
  unrefused (refused q) k r e f h = f (ap refused (refused-inj {A = B} q r e))

  -- an answered step goes on with its result
  pub bind-step : (m : Answer A) (k : A → Answer B) (a : A) (r : Answer B) → m ≡ answer a → k a ≡ r → (m >>= k) ≡ r
  unfolding ◌>>=◌
  bind-step m k a r e h = ap (λ m. m >>= k) e ∙ h

  -- a refused step is the refusal
  pub bind-refused : (m : Answer A) (k : A → Answer B) (r : Refusal) → m ≡ refused r → (m >>= k) ≡ refused r
  unfolding ◌>>=◌
  bind-refused m k r e = ap (λ m. m >>= k) e

pub check-true : (b : Bool) (r : Refusal) (u : Unit {0}) → check b r ≡ answer u → b ≡ true
check-true true r u e = refl
check-true false r u e = let z : ◌≡◌ {A = ℕ} 0 1 = cc in absurd (omega arith)

pub check-of-true : (b : Bool) (r : Refusal) → b ≡ true → check b r ≡ answer tt
check-of-true b r e = ap (λ (b : Bool). check b r) e

pub check-of-false : (b : Bool) (r : Refusal) → b ≡ false → check b r ≡ refused r
check-of-false b r e = ap (λ (b : Bool). check b r) e

module _ {A : Type 0} where
  pub or_refuse-some : (o : Option A) (r : Refusal) (a : A) → or_refuse o r ≡ answer a → o ≡ some a
  or_refuse-some none r a e = let z : ◌≡◌ {A = ℕ} 0 1 = cc in absurd (omega arith)
  or_refuse-some (some b) r a e = ap some (answer-inj b a e)

  pub or_refuse-of-some : (o : Option A) (r : Refusal) (a : A) → o ≡ some a → or_refuse o r ≡ answer a
  or_refuse-of-some o r a e = ap (λ (o : Option A). or_refuse o r) e

  pub or_refuse-of-none : (o : Option A) (r : Refusal) → o ≡ none → or_refuse o r ≡ refused r
  or_refuse-of-none o r e = ap (λ (o : Option A). or_refuse o r) e

-- every refusal of the answer has the property
abbrev pub RefusedSo : {A : Type 0} → (Refusal → Type 0) → Answer A → Type 0
RefusedSo P (answer a) = Unit {0}
RefusedSo P (refused r) = P r

module _ (P : Refusal → Type 0) where
  pub bind-so : {A B : Type 0} (m : Answer A) (k : A → Answer B) → RefusedSo P m → ((a : A) → m ≡ answer a → RefusedSo P (k a)) → RefusedSo P (m >>= k)
  unfolding ◌>>=◌
  bind-so (answer a) k h f = f a refl
  bind-so (refused r) k h f = h

  pub check-so : (b : Bool) (r : Refusal) → (b ≡ false → P r) → RefusedSo P (check b r)
  check-so true r h = tt
  check-so false r h = h refl

  pub or_refuse-so : {A : Type 0} (o : Option A) (r : Refusal) → (o ≡ none → P r) → RefusedSo P (or_refuse o r)
  or_refuse-so none r h = h refl
  or_refuse-so (some a) r h = tt

  pub refused-so : {A : Type 0} (m : Answer A) (r : Refusal) → RefusedSo P m → m ≡ refused r → P r
  refused-so (answer a) r h e = absurd (answer≢refused a r e)
  refused-so {A} (refused q) r h e = subst P (refused-inj {A = A} q r e) h
