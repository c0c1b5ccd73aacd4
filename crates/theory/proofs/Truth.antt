-- Truth: a clause's truth depends on its own variables only, so the computed test is truth under every assignment.
use Prim.Native.Nat.{ℕ, zero, suc, ◌+◌, ◌<◌}
use mathlib.Core.Path.{◌≡◌, refl, sym, ap, ◌∙◌, subst}
use mathlib.Core.Bool.{Bool, true, false, cond, not, ◌&&◌, ◌||◌, beq, false≢true}
use mathlib.Core.Option.{Option, none, some, some-injective}
use mathlib.Core.List.{List, [], ◌∷◌, ◌++◌, map, append-nil}
use native.Mathlib.Nat.{add-zero, zero-add}
use native.Mathlib.Omega.{arith}
use lib.Dec.{eqb}
use lib.ListN.{length, get_or, length-map}
use Rattle.theory.specs.Lists.{all, concat_map, elem, place_at, place_that}
use Rattle.theory.specs.Vectors.{vectors, AllBelow}
use Rattle.theory.specs.Syntax.{Term, variable, apply, Terms, empty, cons, Atom, equal, holds, Literal, Clause, Signature, term_variables, terms_variables, atom_variables, variables}
use Rattle.theory.specs.Truth.{Interpretation, Assignment, value, values, atom_true, literal_true, clause_true, assign, failing_choice, Failure, first_failure, no_failure}
use Rattle.theory.specs.Cells.{interpretation, judged, is_model}
use Rattle.theory.specs.Claims.Truth.{Valid, AllValid, Truth}
use Rattle.theory.proofs.Tests.{eqb-true, eqb_same, and_left, and_right, and-join, or_left, or_right, not-true, false_of_not}
use Rattle.theory.proofs.Lists.{elem-append, elem-distinct}
use Rattle.theory.proofs.Vectors.{all-vectors, vectors-all, all_below-map}
use Rattle.theory.proofs.Finding.{first_that-some, first_that-none, none-first_that}

-- of the choices under which B = A fails the first is found, the last variable running fastest
finds-first : failing_choice (record { function = λ f v. 0; relation = λ p v. false }) 3 (record { sign = true; atom = equal (variable 1) (variable 0) } ∷ []) ≡ some (0 ∷ 1 ∷ [])
finds-first = refl

-- two assignments agree on the variables xs
abbrev pub Agree : Assignment → Assignment → List ℕ → Type 0
Agree ρ τ xs = (x : ℕ) → elem x xs ≡ true → ρ x ≡ τ x

module _ (ρ τ : Assignment) where
  agree_left : (xs ys : List ℕ) → Agree ρ τ (xs ++ ys) → Agree ρ τ xs
  agree_left xs ys h x e = h x (elem-append x xs ys ∙ or_left (elem x xs) (elem x ys) e)

  agree_right : (xs ys : List ℕ) → Agree ρ τ (xs ++ ys) → Agree ρ τ ys
  agree_right xs ys h x e = h x (elem-append x xs ys ∙ or_right (elem x xs) (elem x ys) e)

  -- the value of a term depends on its variables only
  module _ (I : Interpretation) where
    mutual
      pub agree-value : (t : Term) → Agree ρ τ (term_variables t) → value I ρ t ≡ value I τ t
      agree-value (variable x) h = h x (or_left (eqb x x) false (eqb_same x))
      agree-value (apply f ts) h = ap (I.function f) (agree-values ts h)

      pub agree-values : (ts : Terms) → Agree ρ τ (terms_variables ts) → values I ρ ts ≡ values I τ ts
      agree-values empty h = refl
      agree-values (cons t ts) h =
          let p : value I ρ t ≡ value I τ t = agree-value t (agree_left (term_variables t) (terms_variables ts) h) in
          let q : values I ρ ts ≡ values I τ ts = agree-values ts (agree_right (term_variables t) (terms_variables ts) h) in
          cc

    agree-atom : (a : Atom) → Agree ρ τ (atom_variables a) → atom_true I ρ a ≡ atom_true I τ a
    agree-atom (equal t u) h =
        ap (λ (n : ℕ). eqb n (value I ρ u)) (agree-value t (agree_left (term_variables t) (term_variables u) h))
        ∙ ap (λ (n : ℕ). eqb (value I τ t) n) (agree-value u (agree_right (term_variables t) (term_variables u) h))
    agree-atom (holds p ts) h = ap (I.relation p) (agree-values ts h)

    agree-literals : (c : Clause) → Agree ρ τ (concat_map (λ (l : Literal). atom_variables l.atom) c) → clause_true I ρ c ≡ clause_true I τ c
    agree-literals [] h = refl
    agree-literals (l ∷ c) h =
        let rest : List ℕ = concat_map (λ (l : Literal). atom_variables l.atom) c in
        ap (λ (b : Bool). beq l.sign b || clause_true I ρ c) (agree-atom l.atom (agree_left (atom_variables l.atom) rest h))
        ∙ ap (λ (b : Bool). literal_true I τ l || b) (agree-literals c (agree_right (atom_variables l.atom) rest h))

    -- the truth of a clause depends on its own variables only
    pub agree-clause : (c : Clause) → Agree ρ τ (variables c) → clause_true I ρ c ≡ clause_true I τ c
    agree-clause c h = agree-literals c (λ x e. h x (elem-distinct x (concat_map (λ (l : Literal). atom_variables l.atom) c) e))

-- the value assigned is that at the variable's place
pub assign-place : (ys v : List ℕ) (x i : ℕ) → place_that (eqb x) ys ≡ some i → assign ys v x ≡ get_or v i 0
assign-place [] v x i e = let z : ◌≡◌ {A = ℕ} 0 1 = cc in absurd (omega arith)
assign-place (y ∷ ys) [] x i e = refl
assign-place (y ∷ ys) (d ∷ v) x i e = go i (eqb x y) (place_that (eqb x) ys) refl e (λ j k. assign-place ys v x j k)
  where
    go : (i : ℕ) (b : Bool) (o : Option ℕ) → place_that (eqb x) ys ≡ o → place_at b o ≡ some i → ((j : ℕ) → place_that (eqb x) ys ≡ some j → assign ys v x ≡ get_or v j 0)
        → cond b d (assign ys v x) ≡ get_or (d ∷ v) i 0
    go i true o k z ih = ap (λ (j : ℕ). get_or (d ∷ v) j 0) (some-injective 0 i z)
    go i false none k z ih = let z : ◌≡◌ {A = ℕ} 0 1 = cc in absurd (omega arith)
    go i false (some j) k z ih = ih j k ∙ ap (λ (j : ℕ). get_or (d ∷ v) j 0) (some-injective (suc j) i z)

-- assigning the values that ρ gives is ρ
pub assign-map : (ρ : Assignment) (ys v : List ℕ) (x : ℕ) → elem x ys ≡ true → assign ys (map ρ ys ++ v) x ≡ ρ x
assign-map ρ [] v x h = absurd (false≢true h)
assign-map ρ (y ∷ ys) v x h = go (eqb x y) refl h (λ k. assign-map ρ ys v x k)
  where
    go : (b : Bool) → eqb x y ≡ b → (b || elem x ys) ≡ true → (elem x ys ≡ true → assign ys (map ρ ys ++ v) x ≡ ρ x)
        → cond b (ρ y) (assign ys (map ρ ys ++ v) x) ≡ ρ x
    go true e k ih = ap ρ (sym (eqb-true x y e))
    go false e k ih = ih k

-- assigned values below s are below s
pub assign-lt : (s : ℕ) (ys v : List ℕ) (x : ℕ) → zero < s → AllBelow s v → assign ys v x < s
assign-lt s [] v x h b = h
assign-lt s (y ∷ ys) [] x h b = h
assign-lt s (y ∷ ys) (d ∷ v) x h b = go (eqb x y) (assign-lt s ys v x h b.1)
  where
    go : (q : Bool) → assign ys v x < s → cond q d (assign ys v x) < s
    go true ih = b.0
    go false ih = ih

-- a clause under the values that ρ gives its variables is as it is under ρ
pub variables-agree : (I : Interpretation) (ρ : Assignment) (c : Clause) (v : List ℕ)
    → clause_true I (assign (variables c) (map ρ (variables c) ++ v)) c ≡ clause_true I ρ c
variables-agree I ρ c v = agree-clause (assign (variables c) (map ρ (variables c) ++ v)) ρ I c (λ x h. assign-map ρ (variables c) v x h)

-- the clause is true under all values of its own variables
abbrev pub is_valid : Interpretation → ℕ → Clause → Bool
is_valid I s c = all (λ v. clause_true I (assign (variables c) v) c) (vectors s (length (variables c)))

module _ (I : Interpretation) (s : ℕ) where
  -- the computed test is truth under every assignment
  pub is_valid→Valid : (c : Clause) → is_valid I s c ≡ true → Valid I s c
  is_valid→Valid c h ρ b =
      let xs : List ℕ = variables c in
      sym (variables-agree I ρ c [])
      ∙ ap (λ (v : List ℕ). clause_true I (assign xs v) c) (append-nil (map ρ xs))
      ∙ all-vectors s (length xs) (λ v. clause_true I (assign xs v) c) h (map ρ xs) (length-map xs ρ) (all_below-map s ρ b xs)

  pub Valid→is_valid : zero < s → (c : Clause) → Valid I s c → is_valid I s c ≡ true
  Valid→is_valid pos c h =
      vectors-all s (length (variables c)) (λ v. clause_true I (assign (variables c) v) c)
      (λ v e b. h (assign (variables c) v) (λ x. assign-lt s (variables c) v x pos b))

  pub all→AllValid : (cs : List Clause) → all (is_valid I s) cs ≡ true → AllValid I s cs
  all→AllValid [] h = tt
  all→AllValid (c ∷ cs) h =
      (is_valid→Valid c (and_left (is_valid I s c) (all (is_valid I s) cs) h), all→AllValid cs (and_right (is_valid I s c) (all (is_valid I s) cs) h))

  pub AllValid→all : zero < s → (cs : List Clause) → AllValid I s cs → all (is_valid I s) cs ≡ true
  AllValid→all pos [] h = refl
  AllValid→all pos (c ∷ cs) h = and-join (is_valid I s c) (all (is_valid I s) cs) (Valid→is_valid pos c h.0) (AllValid→all pos cs h.1)

  -- a clause has no failing choice exactly if it passes the test
  pub failing_choice-none : (c : Clause) → failing_choice I s c ≡ none → is_valid I s c ≡ true
  failing_choice-none c e = first_that-none (λ v. clause_true I (assign (variables c) v) c) (vectors s (length (variables c))) e

  pub none-failing_choice : (c : Clause) → is_valid I s c ≡ true → failing_choice I s c ≡ none
  none-failing_choice c h = none-first_that (λ v. clause_true I (assign (variables c) v) c) (vectors s (length (variables c))) h

  -- under a failing choice the clause is false
  pub failing_choice-false : (c : Clause) (v : List ℕ) → failing_choice I s c ≡ some v → clause_true I (assign (variables c) v) c ≡ false
  failing_choice-false c v e =
      false_of_not (clause_true I (assign (variables c) v) c) (first_that-some (λ v. not (clause_true I (assign (variables c) v) c)) (vectors s (length (variables c))) v e)

  pub is_valid-false : (c : Clause) (v : List ℕ) → failing_choice I s c ≡ some v → is_valid I s c ≡ false
  is_valid-false c v e = not-true (is_valid I s c) (λ h. go (sym (none-failing_choice c h) ∙ e))
    where
      go : ◌≡◌ {A = Option (List ℕ)} none (some v) → ⊥
      go z = let q : ◌≡◌ {A = ℕ} 0 1 = cc in omega arith

  -- no clause fails exactly if each passes the test
  pub no_failure-all : (i : ℕ) (cs : List Clause) → no_failure (first_failure I s i cs) ≡ all (is_valid I s) cs
  no_failure-all i [] = refl
  no_failure-all i (c ∷ cs) = go (failing_choice I s c) refl (no_failure-all (suc i) cs)
    where
      go : (o : Option (List ℕ)) → failing_choice I s c ≡ o → no_failure (first_failure I s (suc i) cs) ≡ all (is_valid I s) cs
          → no_failure (elim o [ some v ↦ some (record { clause = i; choice = v }) | none ↦ first_failure I s (suc i) cs ]) ≡ (is_valid I s c && all (is_valid I s) cs)
      go none e ih = ih ∙ ap (λ (b : Bool). b && all (is_valid I s) cs) (sym (failing_choice-none c e))
      go (some v) e ih = ap (λ (b : Bool). b && all (is_valid I s) cs) (sym (is_valid-false c v e))

  -- the first failure, the clauses counted from i: clause n of the list with its failing choice; the clauses before it pass the test
  pub first_failure-some : (i : ℕ) (cs : List Clause) (f : Failure) → first_failure I s i cs ≡ some f
      → (n : ℕ) × (f.clause ≡ i + n) × (n < length cs) × (failing_choice I s (get_or cs n []) ≡ some f.choice) × ((j : ℕ) → j < n → is_valid I s (get_or cs j []) ≡ true)
  first_failure-some i [] f e = let z : ◌≡◌ {A = ℕ} 0 1 = cc in absurd (omega arith)
  first_failure-some i (c ∷ cs) f e = go (failing_choice I s c) refl e (λ k. first_failure-some (suc i) cs f k)
    where
      go : (o : Option (List ℕ)) → failing_choice I s c ≡ o
          → ◌≡◌ {A = Option Failure} (elim o [ some v ↦ some (record { clause = i; choice = v }) | none ↦ first_failure I s (suc i) cs ]) (some f)
          → (first_failure I s (suc i) cs ≡ some f
          → (n : ℕ) × (f.clause ≡ suc i + n) × (n < length cs) × (failing_choice I s (get_or cs n []) ≡ some f.choice) × ((j : ℕ) → j < n → is_valid I s (get_or cs j []) ≡ true))
          → (n : ℕ) × (f.clause ≡ i + n) × (n < suc (length cs)) × (failing_choice I s (get_or (c ∷ cs) n []) ≡ some f.choice) × ((j : ℕ) → j < n → is_valid I s (get_or (c ∷ cs) j []) ≡ true)
      go (some v) h k ih =
          let z : record { clause = i; choice = v } ≡ f = some-injective (record { clause = i; choice = v }) f k in
          (0, sym (ap (λ (f : Failure). f.clause) z) ∙ sym (add-zero i), omega arith, h ∙ ap (λ (f : Failure). some f.choice) z, λ j l. absurd (omega arith))
      go none h k ih =
          let r = ih k in
          (suc r.0, r.1 ∙ omega arith, omega (arith, r.2), r.3, earlier r.0 r.4)
        where
          earlier : (n : ℕ) → ((j : ℕ) → j < n → is_valid I s (get_or cs j []) ≡ true) → (j : ℕ) → j < suc n → is_valid I s (get_or (c ∷ cs) j []) ≡ true
          earlier n p zero l = failing_choice-none c h
          earlier n p (suc j) l = p j (omega arith)

-- cell values are a model exactly if every clause passes the test
pub is_model-all : (s : ℕ) (g : Signature) (cs : List Clause) (vs : List ℕ) → is_model s g cs vs ≡ all (is_valid (interpretation s g vs) s) cs
unfolding is_model judged
is_model-all s g cs vs = no_failure-all (interpretation s g vs) s 0 cs

-- the clause of a failure, and its choice; the clauses before it pass the test
pub judged-some : (s : ℕ) (g : Signature) (cs : List Clause) (vs : List ℕ) (f : Failure) → judged s g cs vs ≡ some f
    → (f.clause < length cs) × (failing_choice (interpretation s g vs) s (get_or cs f.clause []) ≡ some f.choice)
    × ((j : ℕ) → j < f.clause → is_valid (interpretation s g vs) s (get_or cs j []) ≡ true)
unfolding judged
judged-some s g cs vs f e =
    let I : Interpretation = interpretation s g vs in
    let r = first_failure-some I s 0 cs f e in
    let n : r.0 ≡ f.clause = sym (r.1 ∙ zero-add r.0) in (
      subst (λ (n : ℕ). n < length cs) n r.2,
      subst (λ (n : ℕ). failing_choice I s (get_or cs n []) ≡ some f.choice) n r.3,
      subst (λ (n : ℕ). (j : ℕ) → j < n → is_valid I s (get_or cs j []) ≡ true) n r.4,
    )

pub truth : Truth
truth =
    record {
      model = λ s g cs vs pos. (λ h. all→AllValid (interpretation s g vs) s cs (sym (is_model-all s g cs vs) ∙ h), λ h. is_model-all s g cs vs ∙ AllValid→all (interpretation s g vs) s pos cs h);
      failure = λ s g cs vs f e. let r = judged-some s g cs vs f e in (r.0, failing_choice-false (interpretation s g vs) s (get_or cs f.clause []) f.choice r.1);
      earlier = λ s g cs vs f pos e i l. is_valid→Valid (interpretation s g vs) s (get_or cs i []) ((judged-some s g cs vs f e).2 i l);
    }
