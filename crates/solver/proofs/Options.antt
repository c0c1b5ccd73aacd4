-- Laws of going on with what was read, if anything was.
use Prim.Native.Nat.{ℕ}
use mathlib.Core.Path.{◌≡◌, refl, ap}
use mathlib.Core.Bool.{Bool, true, false, cond}
use mathlib.Core.Option.{Option, none, some, some-injective}
use mathlib.Core.List.{List, ◌∷◌}
use native.Mathlib.Omega.{arith}
use Rattle.theory.specs.Lists.{prefix}
use Rattle.theory.specs.Program.{◌>>?◌}

pub none≢some : {A : Type 0} (a : A) → none ≡ some a → ⊥
none≢some a e = let z : ◌≡◌ {A = ℕ} 0 1 = cc in omega arith

module _ {A B : Type 0} where
  pub read-on : (o : Option A) (k : A → Option B) (a : A) → o ≡ some a → (o >>? k) ≡ k a
  unfolding ◌>>?◌
  read-on o k a e = ap (λ (o : Option A). o >>? k) e

  pub not-read : (o : Option A) (k : A → Option B) → o ≡ none → (o >>? k) ≡ none
  unfolding ◌>>?◌
  not-read o k e = ap (λ (o : Option A). o >>? k) e

  pub was_read : (o : Option A) (k : A → Option B) (b : B) → (o >>? k) ≡ some b → (a : A) × (o ≡ some a) × (k a ≡ some b)
  unfolding ◌>>?◌
  was_read none k b e = absurd (none≢some b e)
  was_read (some a) k b e = (a, refl, e)

  pub bind-nothing : (o : Option A) → ◌≡◌ {A = Option B} (o >>? λ _. none) none
  unfolding ◌>>?◌
  bind-nothing none = refl
  bind-nothing (some a) = refl

  pub bind-same : (o : Option A) (f k : A → Option B) → ((a : A) → o ≡ some a → f a ≡ k a) → (o >>? f) ≡ (o >>? k)
  unfolding ◌>>?◌
  bind-same none f k h = refl
  bind-same (some a) f k h = h a refl

pub bind-bind : {A B C : Type 0} (o : Option A) (f : A → Option B) (k : B → Option C) → ((o >>? f) >>? k) ≡ (o >>? λ a. f a >>? k)
unfolding ◌>>?◌
bind-bind none f k = refl
bind-bind (some a) f k = refl

-- the test that something depends on passed
pub cond-some : {A : Type 0} (b : Bool) (o : Option A) (a : A) → cond b o none ≡ some a → (b ≡ true) × (o ≡ some a)
cond-some true o a e = (refl, e)
cond-some false o a e = absurd (none≢some a e)

pub prefix-some : {A : Type 0} (x : A) (o : Option (List A)) (ys : List A) → prefix x o ≡ some ys → (xs : List A) × (o ≡ some xs) × (x ∷ xs ≡ ys)
prefix-some x none ys e = absurd (none≢some ys e)
prefix-some x (some xs) ys e = (xs, refl, some-injective (x ∷ xs) ys e)
