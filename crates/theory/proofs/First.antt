-- Laws of the first answer and of the first list that passes a test: it is in range, passes, and none that passes comes before it.
use Prim.Native.Nat.{ℕ, zero, suc, ◌+◌, ◌≤◌, ◌<◌}
use mathlib.Core.Path.{◌≡◌, refl, sym, ap, ◌∙◌, subst}
use mathlib.Core.Logic.{◌⊎◌, inl, inr, ◌≢◌}
use mathlib.Core.Bool.{Bool, true, false, cond, ◌||◌, false≢true}
use mathlib.Core.Option.{Option, none, some, some-injective}
use mathlib.Core.List.{List, [], ◌∷◌}
use native.Mathlib.Omega.{arith}
use lib.Dec.{eqb}
use lib.ListN.{get_or, set}
use Rattle.theory.specs.Lists.{elem, up_from, up_to, prefix}
use Rattle.theory.specs.Least.{or_else, first_of, first_list}
use Rattle.theory.specs.Claims.Least.{NotAfter}
use Rattle.theory.proofs.Tests.{not-true, both_false, eqb-true, eqb-ne, or_cases, true-or-false, lt-or-eq-or-gt}
use Rattle.theory.proofs.Lists.{elem-here, elem-there}

-- of two numbers that have an answer, the first decides
first-decides : first_of (λ d. some d) (1 ∷ 2 ∷ []) ≡ some 1
first-decides = refl

-- v has at each place one of that place's values
abbrev pub In : List ℕ → List (List ℕ) → Type 0
In [] [] = Unit {0}
In [] (ds ∷ dss) = ⊥
In (d ∷ v) [] = ⊥
In (d ∷ v) (ds ∷ dss) = (elem d ds ≡ true) × In v dss

pub or_else-none : {A : Type 0} (o : Option A) → or_else o none ≡ o
or_else-none none = refl
or_else-none (some a) = refl

-- the first answer that one of the numbers has
module _ {A : Type 0} where
  pub first_of-cong : (f g : ℕ → Option A) (ds : List ℕ) → ((d : ℕ) → elem d ds ≡ true → f d ≡ g d) → first_of f ds ≡ first_of g ds
  first_of-cong f g [] h = refl
  first_of-cong f g (d ∷ ds) h =
      let p : f d ≡ g d = h d (elem-here d ds) in
      let q : first_of f ds ≡ first_of g ds = first_of-cong f g ds (λ e k. h e (elem-there e d ds k)) in
      ap (λ (o : Option A). or_else o (first_of f ds)) p ∙ ap (λ (o : Option A). or_else (g d) o) q

  pub first_of-none : (f : ℕ → Option A) (ds : List ℕ) → ((d : ℕ) → elem d ds ≡ true → f d ≡ none) → first_of f ds ≡ none
  first_of-none f [] h = refl
  first_of-none f (d ∷ ds) h = ap (λ (o : Option A). or_else o (first_of f ds)) (h d (elem-here d ds)) ∙ first_of-none f ds (λ e k. h e (elem-there e d ds k))

  first_of-some : (f : ℕ → Option A) (b : ℕ) (a : A) (ds : List ℕ) → f b ≡ some a → elem b ds ≡ true
      → ((d : ℕ) → elem d ds ≡ true → d ≢ b → f d ≡ none) → first_of f ds ≡ some a
  first_of-some f b a [] e m h = absurd (false≢true m)
  first_of-some f b a (d ∷ ds) e m h = go (true-or-false (eqb b d)) (λ k. first_of-some f b a ds e k (λ x y z. h x (elem-there x d ds y) z))
    where
      go : (eqb b d ≡ true) ⊎ (eqb b d ≡ false) → (elem b ds ≡ true → first_of f ds ≡ some a) → or_else (f d) (first_of f ds) ≡ some a
      go (inl k) ih = ap (λ (o : Option A). or_else o (first_of f ds)) (ap f (sym (eqb-true b d k)) ∙ e)
      go (inr k) ih =
          let ne : d ≢ b = λ z. eqb-ne b d k (sym z) in
          let m₂ : elem b ds ≡ true = ap (λ (q : Bool). q || elem b ds) (sym k) ∙ m in
          ap (λ (o : Option A). or_else o (first_of f ds)) (h d (elem-here d ds) ne) ∙ ih m₂

  -- only one value can have an answer
  pub first_of-only : (f : ℕ → Option A) (b : ℕ) (ds : List ℕ) → elem b ds ≡ true → ((d : ℕ) → elem d ds ≡ true → d ≢ b → f d ≡ none) → first_of f ds ≡ f b
  first_of-only f b ds m h = go (f b) refl
    where
      each : f b ≡ none → (d : ℕ) → elem d ds ≡ true → (eqb d b ≡ true) ⊎ (eqb d b ≡ false) → f d ≡ none
      each e d k (inl z) = ap f (eqb-true d b z) ∙ e
      each e d k (inr z) = h d k (eqb-ne d b z)

      go : (o : Option A) → f b ≡ o → first_of f ds ≡ f b
      go none e = first_of-none f ds (λ d k. each e d k (true-or-false (eqb d b))) ∙ sym e
      go (some a) e = first_of-some f b a ds e m h ∙ sym e

  -- an answer found is that of one of the numbers
  pub first_of-found : (f : ℕ → Option A) (ds : List ℕ) (a : A) → first_of f ds ≡ some a → (d : ℕ) × (elem d ds ≡ true) × (f d ≡ some a)
  first_of-found f [] a e = let q : ◌≡◌ {A = ℕ} 0 1 = cc in absurd (omega arith)
  first_of-found f (d ∷ ds) a e = go (f d) refl e (λ k. first_of-found f ds a k)
    where
      go : (o : Option A) → f d ≡ o → or_else o (first_of f ds) ≡ some a → (first_of f ds ≡ some a → (c : ℕ) × (elem c ds ≡ true) × (f c ≡ some a))
          → (c : ℕ) × (elem c (d ∷ ds) ≡ true) × (f c ≡ some a)
      go none h k ih = let r = ih k in (r.0, elem-there r.0 d ds r.1, r.2)
      go (some b) h k ih = (d, elem-here d ds, h ∙ k)

  -- if there is no answer, no number has one
  pub none-first_of : (f : ℕ → Option A) (ds : List ℕ) → first_of f ds ≡ none → (d : ℕ) → elem d ds ≡ true → f d ≡ none
  none-first_of f [] e d m = absurd (false≢true m)
  none-first_of f (c ∷ ds) e d m = go (f c) refl e (or_cases (eqb d c) (elem d ds) m) (λ k n. none-first_of f ds k d n)
    where
      go : (o : Option A) → f c ≡ o → or_else o (first_of f ds) ≡ none → (eqb d c ≡ true) ⊎ (elem d ds ≡ true)
          → (first_of f ds ≡ none → elem d ds ≡ true → f d ≡ none) → f d ≡ none
      go none h k (inl z) ih = ap f (eqb-true d c z) ∙ h
      go none h k (inr z) ih = ih k z
      go (some a) h k z ih = cc

  -- of the numbers a, a + 1, .. the least that has an answer is taken
  pub first_of-least : (f : ℕ → Option A) (a n : ℕ) (x : A) → first_of f (up_from a n) ≡ some x
      → (d : ℕ) × (a ≤ d) × (d < a + n) × (f d ≡ some x) × ((e : ℕ) → a ≤ e → e < d → f e ≡ none)
  first_of-least f a zero x e = let q : ◌≡◌ {A = ℕ} 0 1 = cc in absurd (omega arith)
  first_of-least f a (suc n) x e = go (f a) refl e (λ k. first_of-least f (suc a) n x k)
    where
      go : (o : Option A) → f a ≡ o → or_else o (first_of f (up_from (suc a) n)) ≡ some x
          → (first_of f (up_from (suc a) n) ≡ some x → (d : ℕ) × (suc a ≤ d) × (d < suc a + n) × (f d ≡ some x) × ((e : ℕ) → suc a ≤ e → e < d → f e ≡ none))
          → (d : ℕ) × (a ≤ d) × (d < a + suc n) × (f d ≡ some x) × ((e : ℕ) → a ≤ e → e < d → f e ≡ none)
      go (some y) h k ih = (a, omega arith, omega arith, h ∙ k, λ e lo hi. absurd (omega arith))
      go none h k ih =
          let r = ih k in
          (r.0, omega (arith, r.1), omega (arith, r.2), r.3, λ e lo hi. below e (lt-or-eq-or-gt a e) lo r.4 hi)
        where
          below : (e : ℕ) → (a < e) ⊎ ((a ≡ e) ⊎ (e < a)) → a ≤ e → {d : ℕ} → ((e : ℕ) → suc a ≤ e → e < d → f e ≡ none) → e < d → f e ≡ none
          below e (inl z) lo k hi = k e z hi
          below e (inr (inl z)) lo k hi = ap f (sym z) ∙ h
          below e (inr (inr z)) lo k hi = absurd (omega arith)

-- a value in front of a list
pub prefix-or_else : (d : ℕ) (a b : Option (List ℕ)) → prefix d (or_else a b) ≡ or_else (prefix d a) (prefix d b)
prefix-or_else d none b = refl
prefix-or_else d (some v) b = refl

pub prefix-some : (d : ℕ) (o : Option (List ℕ)) (v : List ℕ) → prefix d o ≡ some v → (w : List ℕ) × (o ≡ some w) × (d ∷ w ≡ v)
prefix-some d none v e = let q : ◌≡◌ {A = ℕ} 0 1 = cc in absurd (omega arith)
prefix-some d (some w) v e = (w, refl, some-injective (d ∷ w) v e)

pub prefix-none : (d : ℕ) (o : Option (List ℕ)) → prefix d o ≡ none → o ≡ none
prefix-none d none e = refl
prefix-none d (some v) e = cc

-- tests that agree on the lists in range have the same first list
pub first_cong : (dss : List (List ℕ)) (p q : List ℕ → Bool) → ((v : List ℕ) → In v dss → p v ≡ q v) → first_list dss p ≡ first_list dss q
first_cong [] p q h = ap (λ (b : Bool). cond b (some []) none) (h [] tt)
first_cong (ds ∷ dss) p q h =
    first_of-cong (λ d. prefix d (first_list dss (λ v. p (d ∷ v)))) (λ d. prefix d (first_list dss (λ v. q (d ∷ v)))) ds
    (λ d e. ap (prefix d) (first_cong dss (λ v. p (d ∷ v)) (λ v. q (d ∷ v)) (λ v i. h (d ∷ v) (e, i))))

-- there is no first list if none passes
pub first-none : (dss : List (List ℕ)) (p : List ℕ → Bool) → ((v : List ℕ) → In v dss → p v ≡ false) → first_list dss p ≡ none
first-none [] p h = ap (λ (b : Bool). cond b (some []) none) (h [] tt)
first-none (ds ∷ dss) p h =
    first_of-none (λ d. prefix d (first_list dss (λ v. p (d ∷ v)))) ds
    (λ d e. ap (prefix d) (first-none dss (λ v. p (d ∷ v)) (λ v i. h (d ∷ v) (e, i))))

-- and only if none passes
pub none_first : (dss : List (List ℕ)) (p : List ℕ → Bool) → first_list dss p ≡ none → (v : List ℕ) → In v dss → p v ≡ false
none_first [] p e [] m = go (p []) e
  where
    go : (b : Bool) → ◌≡◌ {A = Option (List ℕ)} (cond b (some []) none) none → b ≡ false
    go true k = cc
    go false k = refl
none_first [] p e (d ∷ v) m = absurd m
none_first (ds ∷ dss) p e [] m = absurd m
none_first (ds ∷ dss) p e (d ∷ v) m =
    let f : ℕ → Option (List ℕ) = λ d. prefix d (first_list dss (λ v. p (d ∷ v))) in
    none_first dss (λ v. p (d ∷ v)) (prefix-none d (first_list dss (λ v. p (d ∷ v))) (none-first_of f ds e d m.0)) v m.1

-- the first list is in range and passes
pub first_some : (dss : List (List ℕ)) (p : List ℕ → Bool) (v : List ℕ) → first_list dss p ≡ some v → In v dss × (p v ≡ true)
first_some [] p v e = go (p []) refl e
  where
    go : (b : Bool) → p [] ≡ b → cond b (some []) none ≡ some v → In v [] × (p v ≡ true)
    go true h k = let z : [] ≡ v = some-injective [] v k in (subst (λ (v : List ℕ). In v []) z tt, ap p (sym z) ∙ h)
    go false h k = let q : ◌≡◌ {A = ℕ} 0 1 = cc in absurd (omega arith)
first_some (ds ∷ dss) p v e =
    let r = first_of-found (λ d. prefix d (first_list dss (λ v. p (d ∷ v)))) ds v e in
    let d : ℕ = r.0 in
    let t = prefix-some d (first_list dss (λ v. p (d ∷ v))) v r.2 in
    let k = first_some dss (λ v. p (d ∷ v)) t.0 t.1 in
    (subst (λ (v : List ℕ). In v (ds ∷ dss)) t.2 (r.1, k.0), ap p (sym t.2) ∙ k.1)

-- a place where only one value can pass may be fixed to it
pub narrow : (dss : List (List ℕ)) (i b : ℕ) (p : List ℕ → Bool) → elem b (get_or dss i []) ≡ true
    → ((v : List ℕ) → In v dss → p v ≡ true → get_or v i 0 ≡ b) → first_list (set dss i (b ∷ [])) p ≡ first_list dss p
narrow [] i b p m h = absurd (false≢true m)
narrow (ds ∷ dss) zero b p m h =
    let f : ℕ → Option (List ℕ) = λ d. prefix d (first_list dss (λ v. p (d ∷ v))) in
    or_else-none (f b)
    ∙ sym (first_of-only f b ds m (λ d e ne. ap (prefix d) (first-none dss (λ v. p (d ∷ v)) (λ v i. not-true (p (d ∷ v)) (λ t. ne (h (d ∷ v) (e, i) t))))))
narrow (ds ∷ dss) (suc i) b p m h =
    first_of-cong (λ d. prefix d (first_list (set dss i (b ∷ [])) (λ v. p (d ∷ v)))) (λ d. prefix d (first_list dss (λ v. p (d ∷ v)))) ds
    (λ d e. ap (prefix d) (narrow dss i b (λ v. p (d ∷ v)) m (λ v j t. h (d ∷ v) (e, j) t)))

-- each place has the values 0 to w - 1, in order
abbrev pub Ordered : List (List ℕ) → Type 0
Ordered [] = Unit {0}
Ordered (ds ∷ dss) = ((w : ℕ) × (ds ≡ up_to w)) × Ordered dss

-- no list in range that passes comes before the first list
pub first-least : (dss : List (List ℕ)) (p : List ℕ → Bool) (v : List ℕ) → Ordered dss → first_list dss p ≡ some v
    → (u : List ℕ) → In u dss → p u ≡ true → NotAfter v u
first-least [] p [] o e u m t = tt
first-least [] p (d ∷ v) o e u m t = absurd (first_some [] p (d ∷ v) e).0
first-least (ds ∷ dss) p v o e [] m t = absurd m
first-least (ds ∷ dss) p v o e (c ∷ u) m t =
    let f : ℕ → Option (List ℕ) = λ d. prefix d (first_list dss (λ v. p (d ∷ v))) in
    let r = first_of-least f 0 o.0.0 v (ap (first_of f) (sym o.0.1) ∙ e) in
    let s = prefix-some r.0 (first_list dss (λ v. p (r.0 ∷ v))) v r.3 in
    subst (λ (v : List ℕ). NotAfter v (c ∷ u)) s.2
    (go r.0 s.0 (lt-or-eq-or-gt r.0 c) r.4
    (λ z. first-least dss (λ v. p (r.0 ∷ v)) s.0 o.1 s.1 u m.1 (ap (λ (d : ℕ). p (d ∷ u)) z ∙ t)))
  where
    go : (d : ℕ) (w : List ℕ) → (d < c) ⊎ ((d ≡ c) ⊎ (c < d)) → ((e : ℕ) → 0 ≤ e → e < d → prefix e (first_list dss (λ v. p (e ∷ v))) ≡ none)
        → (d ≡ c → NotAfter w u) → NotAfter (d ∷ w) (c ∷ u)
    go d w (inl z) h ih = inl z
    go d w (inr (inl z)) h ih = inr (z, ih z)
    go d w (inr (inr z)) h ih =
        absurd (both_false t (none_first dss (λ v. p (c ∷ v)) (prefix-none c (first_list dss (λ v. p (c ∷ v))) (h c (omega arith) z)) u m.1))
