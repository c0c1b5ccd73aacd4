-- The first choice of values that passes a test: it is a choice, and those before it fail the test.
use Prim.Native.Nat.{ℕ, zero, suc}
use mathlib.Core.Path.{◌≡◌, refl, sym, ap, ◌∙◌}
use mathlib.Core.Logic.{inl, inr}
use mathlib.Core.Bool.{Bool, true, false, cond}
use mathlib.Core.Option.{Option, none, some}
use mathlib.Core.List.{List, [], ◌∷◌, ◌++◌, map}
use native.Mathlib.Omega.{arith}
use lib.ListN.{length, replicate}
use Rattle.theory.specs.Lists.{concat_map, first_that, up_to, prefix}
use Rattle.theory.specs.Vectors.{vectors, AllBelow}
use Rattle.theory.specs.Least.{or_else, first_of, first_list}
use Rattle.theory.specs.Claims.Least.{NotAfter}
use Rattle.theory.specs.Claims.Explaining.{Before}
use Rattle.theory.proofs.Tests.{not-true}
use Rattle.theory.proofs.Lists.{elem-up_from, up_from-elem}
use Rattle.theory.proofs.First.{In, Ordered, first_some, first-least}

module _ {A : Type 0} where
  first_that-append : (p : A → Bool) (xs ys : List A) → first_that p (xs ++ ys) ≡ or_else (first_that p xs) (first_that p ys)
  first_that-append p [] ys = refl
  first_that-append p (x ∷ xs) ys = go (p x) (first_that-append p xs ys)
    where
      go : (b : Bool) → first_that p (xs ++ ys) ≡ or_else (first_that p xs) (first_that p ys)
          → ◌≡◌ {A = Option A} (elim b [ true ↦ some x | false ↦ first_that p (xs ++ ys) ]) (or_else (elim b [ true ↦ some x | false ↦ first_that p xs ]) (first_that p ys))
      go true ih = refl
      go false ih = ih

first_that-prefix : (p : List ℕ → Bool) (d : ℕ) (vs : List (List ℕ)) → first_that p (map (λ v. d ∷ v) vs) ≡ prefix d (first_that (λ v. p (d ∷ v)) vs)
first_that-prefix p d [] = refl
first_that-prefix p d (v ∷ vs) = go (p (d ∷ v)) (first_that-prefix p d vs)
  where
    go : (b : Bool) → first_that p (map (λ v. d ∷ v) vs) ≡ prefix d (first_that (λ v. p (d ∷ v)) vs)
        → ◌≡◌ {A = Option (List ℕ)} (elim b [ true ↦ some (d ∷ v) | false ↦ first_that p (map (λ v. d ∷ v) vs) ]) (prefix d (elim b [ true ↦ some v | false ↦ first_that (λ v. p (d ∷ v)) vs ]))
    go true ih = refl
    go false ih = ih

-- the first of all vectors is the first list, place by place
first_that-vectors : (s k : ℕ) (p : List ℕ → Bool) → first_that p (vectors s k) ≡ first_list (replicate k (up_to s)) p
first_that-vectors s zero p = go (p [])
  where
    go : (b : Bool) → ◌≡◌ {A = Option (List ℕ)} (elim b [ true ↦ some [] | false ↦ none ]) (cond b (some []) none)
    go true = refl
    go false = refl
first_that-vectors s (suc k) p = each (λ q. first_that-vectors s k q) (up_to s)
  where
    each : ((q : List ℕ → Bool) → first_that q (vectors s k) ≡ first_list (replicate k (up_to s)) q) → (ds : List ℕ)
        → first_that p (concat_map (λ d. map (λ v. d ∷ v) (vectors s k)) ds) ≡ first_of (λ d. prefix d (first_list (replicate k (up_to s)) (λ v. p (d ∷ v)))) ds
    each ih [] = refl
    each ih (d ∷ ds) =
        first_that-append p (map (λ v. d ∷ v) (vectors s k)) (concat_map (λ d. map (λ v. d ∷ v) (vectors s k)) ds)
        ∙ ap (λ (o : Option (List ℕ)). or_else o (first_that p (concat_map (λ d. map (λ v. d ∷ v) (vectors s k)) ds))) (first_that-prefix p d (vectors s k) ∙ ap (prefix d) (ih (λ v. p (d ∷ v))))
        ∙ ap (λ (o : Option (List ℕ)). or_else (prefix d (first_list (replicate k (up_to s)) (λ v. p (d ∷ v)))) o) (each ih ds)

-- the lists in range are those of k numbers below s
in-below : (s k : ℕ) (v : List ℕ) → In v (replicate k (up_to s)) → (length v ≡ k) × AllBelow s v
in-below s zero [] m = (refl, tt)
in-below s zero (d ∷ v) m = absurd m
in-below s (suc k) [] m = absurd m
in-below s (suc k) (d ∷ v) m =
    let r = in-below s k v m.1 in
    let e = elem-up_from d 0 s m.0 in
    (omega (arith, r.0), (omega (arith, e.1), r.1))

below_in : (s k : ℕ) (v : List ℕ) → length v ≡ k → AllBelow s v → In v (replicate k (up_to s))
below_in s zero [] e b = tt
below_in s zero (d ∷ v) e b = absurd (omega arith)
below_in s (suc k) [] e b = absurd (omega arith)
below_in s (suc k) (d ∷ v) e b = (up_from-elem d 0 s (omega arith) (omega (arith, b.0)), below_in s k v (omega arith) b.1)

ordered : (s k : ℕ) → Ordered (replicate k (up_to s))
ordered s zero = tt
ordered s (suc k) = ((s, refl), ordered s k)

before-after : (v u : List ℕ) → Before v u → NotAfter u v → ⊥
before-after [] u b n = b
before-after (d ∷ v) [] b n = b
before-after (d ∷ v) (e ∷ u) (inl l) (inl m) = omega arith
before-after (d ∷ v) (e ∷ u) (inl l) (inr m) = omega (arith, m.0)
before-after (d ∷ v) (e ∷ u) (inr l) (inl m) = omega (arith, l.0)
before-after (d ∷ v) (e ∷ u) (inr l) (inr m) = before-after v u l.1 m.1

module _ (s k : ℕ) (p : List ℕ → Bool) (u : List ℕ) (e : first_that p (vectors s k) ≡ some u) where
  first : first_list (replicate k (up_to s)) p ≡ some u
  first = sym (first_that-vectors s k p) ∙ e

  pub first-choice : (length u ≡ k) × AllBelow s u
  first-choice = in-below s k u (first_some (replicate k (up_to s)) p u first).0

  pub choices-before : (v : List ℕ) → length v ≡ k → AllBelow s v → Before v u → p v ≡ false
  choices-before v n b l = not-true (p v) (λ t. before-after v u l (first-least (replicate k (up_to s)) p u (ordered s k) first v (below_in s k v n b) t))
