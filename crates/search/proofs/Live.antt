-- The literals of a clause that are not false: which they are, and that there is none, or one.
use mathlib.Core.Path.{◌≡◌, refl, sym, ap, ◌∙◌, subst}
use mathlib.Core.Logic.{◌⊎◌, inl, inr, ⊎_elim}
use mathlib.Core.Bool.{Bool, true, false, cond, not, ◌&&◌, ◌||◌, and-false}
use mathlib.Core.List.{List, [], ◌∷◌}
use Prim.Native.Nat.{ℕ}
use lib.Dec.{eqb}
use Rattle.theory.specs.Lists.{elem}
use Rattle.theory.proofs.Tests.{eqb-true, both_false, and_left, and_right, or_right, false_of_not}
use Rattle.theory.proofs.Lists.{elem-here, elem-single}
use Rattle.propagation.specs.Clauses.{Distinct}
use Rattle.propagation.specs.WorkArea.{live}

-- a literal is left exactly if the clause has it and it is not false
elem-live : (D : List ℕ) (x : ℕ) (d : List ℕ) → elem x (live D d) ≡ (elem x d && not (elem x D))
elem-live D x [] = refl
elem-live D x (y ∷ ys) = by (elem y D) refl (eqb x y) refl (elem-live D x ys)
  where
    by : (b : Bool) → elem y D ≡ b → (e : Bool) → eqb x y ≡ e → elem x (live D ys) ≡ (elem x ys && not (elem x D))
        → elem x (cond b (live D ys) (y ∷ live D ys)) ≡ ((e || elem x ys) && not (elem x D))
    by true h true e again =
        let s : elem x D ≡ true = ap (λ (z : ℕ). elem z D) (eqb-true x y e) ∙ h in
        again ∙ ap (λ (b : Bool). elem x ys && not b) s ∙ and-false (elem x ys) ∙ sym (ap not s)
    by true h false e again = again
    by false h true e again =
        let s : elem x D ≡ false = ap (λ (z : ℕ). elem z D) (eqb-true x y e) ∙ h in
        ap (λ (b : Bool). b || elem x (live D ys)) e ∙ sym (ap not s)
    by false h false e again = ap (λ (b : Bool). b || elem x (live D ys)) e ∙ again

-- where none is left, all are false
pub live-none : (D d : List ℕ) → live D d ≡ [] → (x : ℕ) → elem x d ≡ true → elem x D ≡ true
live-none D d l x h = by (elem x D) refl
  where
    by : (b : Bool) → elem x D ≡ b → elem x D ≡ true
    by true e = e
    by false e =
        let s : elem x (live D d) ≡ true = elem-live D x d ∙ ap (λ (b : Bool). b && not (elem x D)) h ∙ ap not e in
        absurd (both_false s (ap (elem x) l))

-- where one is left, the others are false, and the clause has it
pub live-one : (D d : List ℕ) (u : ℕ) → live D d ≡ u ∷ [] → (x : ℕ) → elem x d ≡ true → (elem x D ≡ true) ⊎ (x ≡ u)
live-one D d u l x h = by (elem x D) refl
  where
    by : (b : Bool) → elem x D ≡ b → (elem x D ≡ true) ⊎ (x ≡ u)
    by true e = inl e
    by false e =
        let s : elem x (live D d) ≡ true = elem-live D x d ∙ ap (λ (b : Bool). b && not (elem x D)) h ∙ ap not e in
        inr (elem-single x u (sym (ap (elem x) l) ∙ s))

pub live-has : (D d : List ℕ) (u : ℕ) (us : List ℕ) → live D d ≡ u ∷ us → (elem u d ≡ true) × (elem u D ≡ false)
live-has D d u us l =
    let s : (elem u d && not (elem u D)) ≡ true = sym (elem-live D u d) ∙ ap (elem u) l ∙ elem-here u us in
    (and_left (elem u d) (not (elem u D)) s, false_of_not (elem u D) (and_right (elem u d) (not (elem u D)) s))

-- where all are false, none is left
pub none-live : (D d : List ℕ) → ((x : ℕ) → elem x d ≡ true → elem x D ≡ true) → live D d ≡ []
none-live D d h = by (live D d) refl
  where
    by : (l : List ℕ) → live D d ≡ l → live D d ≡ []
    by [] e = e
    by (y ∷ ys) e = let p = live-has D d y ys e in absurd (both_false (h y p.0) p.1)

distinct-live : (D d : List ℕ) → Distinct d → Distinct (live D d)
distinct-live D [] h = tt
distinct-live D (y ∷ ys) h = by (elem y D) (distinct-live D ys h.1)
  where
    by : (b : Bool) → Distinct (live D ys) → Distinct (cond b (live D ys) (y ∷ live D ys))
    by true again = again
    by false again = (elem-live D y ys ∙ ap (λ (b : Bool). b && not (elem y D)) h.0, again)

-- where all but u are false, at most u is left
pub one-live : (D d : List ℕ) (u : ℕ) → Distinct d → ((x : ℕ) → elem x d ≡ true → (elem x D ≡ true) ⊎ (x ≡ u)) → (live D d ≡ []) ⊎ (live D d ≡ u ∷ [])
one-live D d u distinct h = by (live D d) refl (distinct-live D d distinct)
  where
    is : (y : ℕ) → elem y (live D d) ≡ true → y ≡ u
    is y e =
        let s : (elem y d && not (elem y D)) ≡ true = sym (elem-live D y d) ∙ e in
        ⊎_elim (λ k. absurd (both_false k (false_of_not (elem y D) (and_right (elem y d) (not (elem y D)) s)))) (λ k. k) (h y (and_left (elem y d) (not (elem y D)) s))

    by : (l : List ℕ) → live D d ≡ l → Distinct (live D d) → (live D d ≡ []) ⊎ (live D d ≡ u ∷ [])
    by [] e k = inl e
    by (y ∷ []) e k = inr (e ∙ ap (λ (z : ℕ). z ∷ []) (is y (ap (elem y) e ∙ elem-here y [])))
    by (y ∷ z ∷ zs) e k =
        let a : y ≡ u = is y (ap (elem y) e ∙ elem-here y (z ∷ zs)) in
        let b : z ≡ u = is z (ap (elem z) e ∙ or_right (eqb z y) (elem z (z ∷ zs)) (elem-here z zs)) in
        let t : elem y (z ∷ zs) ≡ true = ap (λ (n : ℕ). elem n (z ∷ zs)) (a ∙ sym b) ∙ elem-here z zs in
        absurd (both_false t (subst Distinct e k).0)
