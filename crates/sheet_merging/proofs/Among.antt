-- Elements of lists, and signatures in which no name stands twice.
use Prim.Native.Nat.{ℕ, zero, suc, ◌<◌}
use mathlib.Core.Path.{◌≡◌, refl, sym, ap, ◌∙◌}
use mathlib.Core.Logic.{◌⊎◌, inl, inr}
use mathlib.Core.Bool.{Bool, true, false, cond, false≢true}
use mathlib.Core.List.{List, [], ◌∷◌, ◌++◌}
use native.Mathlib.Omega.{arith}
use lib.ListN.{length, get_or}
use Rattle.theory.specs.Lists.{any, all, select}
use Rattle.theory.specs.Syntax.{Symbol, Signature, no_symbol, symbol_at}
use Rattle.theory.specs.WellFormed.{NamesDiffer}
use Rattle.theory.proofs.Tests.{and_left, and_right, and-join, or_cases, or_left, or_right}

-- x is an element of the list
abbrev pub In : {A : Type 0} → A → List A → Type 0
In x [] = ⊥
In x (y ∷ ys) = (x ≡ y) ⊎ In x ys

module _ {A : Type 0} where
  pub in-append : (x : A) (xs ys : List A) → In x (xs ++ ys) → In x xs ⊎ In x ys
  in-append x [] ys h = inr h
  in-append x (y ∷ xs) ys (inl e) = inl (inl e)
  in-append x (y ∷ xs) ys (inr h) = go (in-append x xs ys h)
    where
      go : In x xs ⊎ In x ys → ((x ≡ y) ⊎ In x xs) ⊎ In x ys
      go (inl k) = inl (inr k)
      go (inr k) = inr k

  pub in_left : (x : A) (xs ys : List A) → In x xs → In x (xs ++ ys)
  in_left x [] ys h = absurd h
  in_left x (y ∷ xs) ys (inl e) = inl e
  in_left x (y ∷ xs) ys (inr h) = inr (in_left x xs ys h)

  pub in_right : (x : A) (xs ys : List A) → In x ys → In x (xs ++ ys)
  in_right x [] ys h = h
  in_right x (y ∷ xs) ys h = inr (in_right x xs ys h)

  -- an element of a choice is one of the list, and passes the test
  pub in-select : (p : A → Bool) (x : A) (xs : List A) → In x (select p xs) → In x xs × (p x ≡ true)
  in-select p x [] h = absurd h
  in-select p x (y ∷ xs) h = go (p y) refl h (in-select p x xs)
    where
      go : (b : Bool) → p y ≡ b → In x (cond b (y ∷ select p xs) (select p xs)) → (In x (select p xs) → In x xs × (p x ≡ true)) → In x (y ∷ xs) × (p x ≡ true)
      go true e (inl q) ih = (inl q, ap p q ∙ e)
      go true e (inr k) ih = let r = ih k in (inr r.0, r.1)
      go false e k ih = let r = ih k in (inr r.0, r.1)

  pub select_in : (p : A → Bool) (x : A) (xs : List A) → In x xs → p x ≡ true → In x (select p xs)
  select_in p x [] h e = h
  select_in p x (y ∷ xs) h e = go (p y) refl h (λ k. select_in p x xs k e)
    where
      go : (b : Bool) → p y ≡ b → In x (y ∷ xs) → (In x xs → In x (select p xs)) → In x (cond b (y ∷ select p xs) (select p xs))
      go true k (inl q) ih = inl q
      go true k (inr q) ih = inr (ih q)
      go false k (inl q) ih = absurd (false≢true (sym k ∙ ap p (sym q) ∙ e))
      go false k (inr q) ih = ih q

  pub in-at : (d x : A) (xs : List A) → In x xs → (i : ℕ) × (i < length xs) × (get_or xs i d ≡ x)
  in-at d x [] h = absurd h
  in-at d x (y ∷ xs) (inl e) = (0, omega arith, sym e)
  in-at d x (y ∷ xs) (inr h) = let r = in-at d x xs h in (suc r.0, omega (arith, r.1), r.2)

  pub at_in : (d : A) (xs : List A) (i : ℕ) → i < length xs → In (get_or xs i d) xs
  at_in d [] i h = absurd (omega arith)
  at_in d (x ∷ xs) zero h = inl refl
  at_in d (x ∷ xs) (suc i) h = inr (at_in d xs i (omega arith))

  pub all_in : (p : A → Bool) (xs : List A) (x : A) → all p xs ≡ true → In x xs → p x ≡ true
  all_in p [] x h k = absurd k
  all_in p (y ∷ xs) x h (inl e) = ap p e ∙ and_left (p y) (all p xs) h
  all_in p (y ∷ xs) x h (inr k) = all_in p xs x (and_right (p y) (all p xs) h) k

  pub in_all : (p : A → Bool) (xs : List A) → ((x : A) → In x xs → p x ≡ true) → all p xs ≡ true
  in_all p [] h = refl
  in_all p (y ∷ xs) h = and-join (p y) (all p xs) (h y (inl refl)) (in_all p xs (λ x k. h x (inr k)))

  pub any-in : (p : A → Bool) (xs : List A) → any p xs ≡ true → (x : A) × In x xs × (p x ≡ true)
  any-in p [] h = absurd (false≢true h)
  any-in p (y ∷ xs) h = go (or_cases (p y) (any p xs) h) (any-in p xs)
    where
      go : (p y ≡ true) ⊎ (any p xs ≡ true) → (any p xs ≡ true → (x : A) × In x xs × (p x ≡ true)) → (x : A) × In x (y ∷ xs) × (p x ≡ true)
      go (inl e) ih = (y, inl refl, e)
      go (inr e) ih = let r = ih e in (r.0, inr r.1, r.2)

  pub in-any : (p : A → Bool) (xs : List A) (x : A) → In x xs → p x ≡ true → any p xs ≡ true
  in-any p [] x h e = absurd h
  in-any p (y ∷ xs) x (inl q) e = or_left (p y) (any p xs) (ap p (sym q) ∙ e)
  in-any p (y ∷ xs) x (inr h) e = or_right (p y) (any p xs) (in-any p xs x h e)

-- no name of g is one of h
abbrev pub Clear : List Symbol → List Symbol → Type 0
Clear g h = (f u : Symbol) → In f g → In u h → f.name ≡ u.name → ⊥

-- no name stands twice
abbrev pub Distinct : List Symbol → Type 0
Distinct [] = Unit {0}
Distinct (f ∷ g) = ((u : Symbol) → In u g → f.name ≡ u.name → ⊥) × Distinct g

pub distinct_append : (g h : List Symbol) → Distinct g → Distinct h → Clear g h → Distinct (g ++ h)
distinct_append [] h d e c = e
distinct_append (f ∷ g) h d e c = (here, distinct_append g h d.1 e (λ u v k. c u v (inr k)))
  where
    here : (u : Symbol) → In u (g ++ h) → f.name ≡ u.name → ⊥
    here u k q = go (in-append u g h k)
      where
        go : In u g ⊎ In u h → ⊥
        go (inl k) = d.0 u k q
        go (inr k) = c f u (inl refl) k q

pub distinct-left : (g h : List Symbol) → Distinct (g ++ h) → Distinct g
distinct-left [] h d = tt
distinct-left (f ∷ g) h d = (λ u k. d.0 u (in_left u g h k), distinct-left g h d.1)

pub distinct-right : (g h : List Symbol) → Distinct (g ++ h) → Distinct h
distinct-right [] h d = d
distinct-right (f ∷ g) h d = distinct-right g h d.1

pub distinct-clear : (g h : List Symbol) → Distinct (g ++ h) → Clear g h
distinct-clear [] h d f u k l e = absurd k
distinct-clear (v ∷ g) h d f u (inl q) l e = d.0 u (in_right u g h l) (ap (λ (f : Symbol). f.name) (sym q) ∙ e)
distinct-clear (v ∷ g) h d f u (inr k) l e = distinct-clear g h d.1 f u k l e

pub distinct-select : (p : Symbol → Bool) (g : List Symbol) → Distinct g → Distinct (select p g)
distinct-select p [] d = tt
distinct-select p (f ∷ g) d = go (p f) (distinct-select p g d.1)
  where
    go : (b : Bool) → Distinct (select p g) → Distinct (cond b (f ∷ select p g) (select p g))
    go true ih = (λ u k. d.0 u (in-select p u g k).0, ih)
    go false ih = ih

pub differ-distinct : (g : Signature) → NamesDiffer g → Distinct g
differ-distinct [] d = tt
differ-distinct (f ∷ g) d = (here, differ-distinct g (λ i j hi hj e. let q : suc i ≡ suc j = d (suc i) (suc j) (omega arith) (omega arith) e in omega arith))
  where
    here : (u : Symbol) → In u g → f.name ≡ u.name → ⊥
    here u k e =
        let r = in-at no_symbol u g k in
        let q : 0 ≡ suc r.0 = d 0 (suc r.0) (omega arith) (omega (arith, r.1)) (e ∙ ap (λ (f : Symbol). f.name) (sym r.2)) in
        omega (arith, q)

pub distinct-differ : (g : Signature) → Distinct g → NamesDiffer g
distinct-differ [] d i j hi hj e = absurd (omega arith)
distinct-differ (f ∷ g) d zero zero hi hj e = refl
distinct-differ (f ∷ g) d zero (suc j) hi hj e = absurd (d.0 (symbol_at g j) (at_in no_symbol g j (omega arith)) e)
distinct-differ (f ∷ g) d (suc i) zero hi hj e = absurd (d.0 (symbol_at g i) (at_in no_symbol g i (omega arith)) (sym e))
distinct-differ (f ∷ g) d (suc i) (suc j) hi hj e = ap suc (distinct-differ g d.1 i j (omega arith) (omega arith) e)
