-- A clause under the partial valuation of a trail has the status that its literals that are not false say.
use mathlib.Core.Path.{◌≡◌, refl, sym, ap, ◌∙◌, subst}
use mathlib.Core.Logic.{◌⊎◌, inl, inr, ⊎_elim}
use mathlib.Core.Bool.{Bool, true, false, cond, not, false≢true, beq}
use mathlib.Core.List.{List, [], ◌∷◌}
use Prim.Native.Nat.{ℕ, suc, pred, ◌+◌, ◌-◌, ◌*◌, ◌/◌, ◌%◌, ◌<◌}
use native.Mathlib.Omega.{arith}
use lib.Dec.{eqb, leb}
use lib.ListN.{get_or}
use Rattle.theory.specs.Lists.{elem, any, all, select}
use Rattle.theory.specs.Propositional.{PropLiteral, PropClause}
use Rattle.theory.specs.Claims.Counts.{is_numbered}
use Rattle.theory.specs.Walk.{Partial, literal_is_true, literal_is_unset, same_literal, Status, failed, forces, quiet, status_of, status}
use Rattle.theory.proofs.Tests.{eqb-true, eqb-ne, eqb-false, eqb-of-≡, and_left, and_right, and-join, or-false-left, or-false-right, or-false-join, or_cases, or_right, leb-of-≤}
use Rattle.theory.proofs.Lists.{elem-here}
use Rattle.theory.proofs.Status.{same_literal-self, same_literal-parts, OnlyUnset, Means, status-means}
use Rattle.theory.proofs.Unset.{literal-place}
use Rattle.propagation.specs.Clauses.{code, codes, once}
use Rattle.propagation.specs.WorkArea.{values, Fresh, falses, live}
use Rattle.propagation.specs.Forcing.{Quiet}
use Rattle.propagation.proofs.Once.{elem-once, distinct-once}
use Rattle.propagation.proofs.Truths.{value-small}
use Rattle.search.proofs.Live.{live-none, live-one, live-has, none-live, one-live}
use Rattle.search.proofs.Partials.{partial, literal_of, sign-≤, code-variable, literal-code, unset-value, true-value, elem-value}

-- the code of the literal of a code
pub code-literal : (u : ℕ) → code (literal_of u) ≡ u
code-literal u = by (eqb (u % 2) 0) refl
  where
    by : (b : Bool) → eqb (u % 2) 0 ≡ b → 2 * pred (suc (u / 2)) + cond b 0 1 ≡ u
    by true e = omega (arith, eqb-true (u % 2) 0 e)
    by false e = omega (arith, eqb-ne (u % 2) 0 e)

literal_of-numbered : (v u : ℕ) → u / 2 < v → is_numbered v (literal_of u) ≡ true
literal_of-numbered v u h = and-join (leb 1 (suc (u / 2))) (leb (suc (u / 2)) v) (leb-of-≤ 1 (suc (u / 2)) (omega arith)) (leb-of-≤ (suc (u / 2)) v h)

module _ (v : ℕ) (ts : List ℕ) (fresh : Fresh v ts) where
  abbrev π : Partial
  π = partial v ts

  abbrev D : List ℕ
  D = falses ts

  -- a literal is false exactly if it is neither true nor unset
  false-literal : (l : PropLiteral) → is_numbered v l ≡ true → elem (code l) D ≡ true → (literal_is_true π l ≡ false) × (literal_is_unset π l ≡ false)
  false-literal l n e =
      let z = get_or (values v ts) (code l / 2) 0 in
      let f : z ≡ 2 - code l % 2 = eqb-true z (2 - code l % 2) (sym (elem-value v l n ts fresh) ∙ e) in
      (true-value v l n ts fresh ∙ eqb-false z (1 + code l % 2) (λ k. omega (arith, f, k)), unset-value v l n ts fresh ∙ eqb-false z 0 (λ k. omega (arith, f, k)))

  literal-false : (l : PropLiteral) → is_numbered v l ≡ true → literal_is_true π l ≡ false → literal_is_unset π l ≡ false → elem (code l) D ≡ true
  literal-false l n t u =
      let z = get_or (values v ts) (code l / 2) 0 in
      let a = eqb-ne z (1 + code l % 2) (sym (true-value v l n ts fresh) ∙ t) in
      let b = eqb-ne z 0 (sym (unset-value v l n ts fresh) ∙ u) in
      elem-value v l n ts fresh ∙ eqb-of-≡ z (2 - code l % 2) (omega (arith, a, b, value-small v ts (code l / 2) fresh))

  unset-literal : (l : PropLiteral) → is_numbered v l ≡ true → literal_is_unset π l ≡ true → (literal_is_true π l ≡ false) × (get_or (values v ts) (code l / 2) 0 ≡ 0)
  unset-literal l n u =
      let z = get_or (values v ts) (code l / 2) 0 in
      let f : z ≡ 0 = eqb-true z 0 (sym (unset-value v l n ts fresh) ∙ u) in
      (true-value v l n ts fresh ∙ eqb-false z (1 + code l % 2) (λ k. omega (arith, f, k)), f)

  -- where every literal is false, none is true or unset
  all-false : (c : PropClause) → all (is_numbered v) c ≡ true → ((x : ℕ) → elem x (codes c) ≡ true → elem x D ≡ true)
      → (any (literal_is_true π) c ≡ false) × (select (literal_is_unset π) c ≡ [])
  all-false [] n h = (refl, refl)
  all-false (l ∷ c) n h =
      let f = false-literal l (and_left (is_numbered v l) (all (is_numbered v) c) n) (h (code l) (elem-here (code l) (codes c))) in
      let r = all-false c (and_right (is_numbered v l) (all (is_numbered v) c) n) (λ x e. h x (or_right (eqb x (code l)) (elem x (codes c)) e)) in
      (or-false-join (literal_is_true π l) (any (literal_is_true π) c) f.0 r.0, ap (λ (b : Bool). cond b (l ∷ select (literal_is_unset π) c) (select (literal_is_unset π) c)) f.1 ∙ r.1)

  module _ (u : ℕ) (named : u / 2 < v) (unset : get_or (values v ts) (u / 2) 0 ≡ 0) where
    abbrev l₀ : PropLiteral
    l₀ = literal_of u

    is-unset : literal_is_unset π l₀ ≡ true
    is-unset =
        unset-value v l₀ (literal_of-numbered v u named) ts fresh
        ∙ eqb-of-≡ (get_or (values v ts) (code l₀ / 2) 0) 0 (ap (λ (k : ℕ). get_or (values v ts) (k / 2) 0) (code-literal u) ∙ unset)

    -- where every literal but u is false, none is true and all unset ones are u
    only-unset : (c : PropClause) → all (is_numbered v) c ≡ true → ((x : ℕ) → elem x (codes c) ≡ true → (elem x D ≡ true) ⊎ (x ≡ u)) → OnlyUnset π l₀ c
    only-unset [] n h = (refl, refl)
    only-unset (l ∷ c) n h =
        let n₁ = and_left (is_numbered v l) (all (is_numbered v) c) n in
        let r = only-unset c (and_right (is_numbered v l) (all (is_numbered v) c) n) (λ x e. h x (or_right (eqb x (code l)) (elem x (codes c)) e)) in
        ⊎_elim (λ e. is_false n₁ e r) (λ e. is-u n₁ e r) (h (code l) (elem-here (code l) (codes c)))
      where
        S : PropClause
        S = select (literal_is_unset π) c

        is_false : is_numbered v l ≡ true → elem (code l) D ≡ true → OnlyUnset π l₀ c → OnlyUnset π l₀ (l ∷ c)
        is_false n₁ e r =
            let f = false-literal l n₁ e in
            (or-false-join (literal_is_true π l) (any (literal_is_true π) c) f.0 r.0, ap (λ (b : Bool). all (same_literal l₀) (cond b (l ∷ S) S)) f.1 ∙ r.1)

        is-u : is_numbered v l ≡ true → code l ≡ u → OnlyUnset π l₀ c → OnlyUnset π l₀ (l ∷ c)
        is-u n₁ e r =
            let s : l₀ ≡ l = ap literal_of (sym e) ∙ literal-code v l n₁ in
            let k : literal_is_unset π l ≡ true = ap (literal_is_unset π) (sym s) ∙ is-unset in (
              or-false-join (literal_is_true π l) (any (literal_is_true π) c) (unset-literal l n₁ k).0 r.0,
              ap (λ (b : Bool). all (same_literal l₀) (cond b (l ∷ S) S)) k
                  ∙ and-join (same_literal l₀ l) (all (same_literal l₀) S) (ap (same_literal l₀) (sym s) ∙ same_literal-self l₀) r.1,
            )

    -- what holds of all unset literals holds of u, if the clause has it
    unset-all : (p : PropLiteral → Bool) (c : PropClause) → all (is_numbered v) c ≡ true → elem u (codes c) ≡ true → all p (select (literal_is_unset π) c) ≡ true
        → p l₀ ≡ true
    unset-all p [] n h a = absurd (false≢true h)
    unset-all p (l ∷ c) n h a =
        let n₁ = and_left (is_numbered v l) (all (is_numbered v) c) n in
        ⊎_elim (λ e. here n₁ (sym (eqb-true u (code l) e))) (λ e. unset-all p c (and_right (is_numbered v l) (all (is_numbered v) c) n) e (there (literal_is_unset π l) a)) (or_cases (eqb u (code l)) (elem u (codes c)) h)
      where
        S : PropClause
        S = select (literal_is_unset π) c

        here : is_numbered v l ≡ true → code l ≡ u → p l₀ ≡ true
        here n₁ e =
            let s : l₀ ≡ l = ap literal_of (sym e) ∙ literal-code v l n₁ in
            let k : literal_is_unset π l ≡ true = ap (literal_is_unset π) (sym s) ∙ is-unset in
            ap p s ∙ and_left (p l) (all p S) (ap (λ (b : Bool). all p (cond b (l ∷ S) S)) (sym k) ∙ a)

        there : (b : Bool) → all p (cond b (l ∷ S) S) ≡ true → all p S ≡ true
        there true k = and_right (p l) (all p S) k
        there false k = k

  -- where all unset literals are l, every other literal is false
  only-false : (l : PropLiteral) (c : PropClause) → all (is_numbered v) c ≡ true → OnlyUnset π l c
      → (x : ℕ) → elem x (codes c) ≡ true → (elem x D ≡ true) ⊎ (x ≡ code l)
  only-false l [] n o x h = absurd (false≢true h)
  only-false l (m ∷ c) n o x h =
      let n₁ = and_left (is_numbered v m) (all (is_numbered v) c) n in
      let again : elem x (codes c) ≡ true → (elem x D ≡ true) ⊎ (x ≡ code l) =
      only-false l c (and_right (is_numbered v m) (all (is_numbered v) c) n) (or-false-right (literal_is_true π m) (any (literal_is_true π) c) o.0, rest (literal_is_unset π m) o.1) x in
      ⊎_elim (λ e. this n₁ (eqb-true x (code m) e) (literal_is_unset π m) refl o.1) again (or_cases (eqb x (code m)) (elem x (codes c)) h)
    where
      S : PropClause
      S = select (literal_is_unset π) c

      rest : (b : Bool) → all (same_literal l) (cond b (m ∷ S) S) ≡ true → all (same_literal l) S ≡ true
      rest true k = and_right (same_literal l m) (all (same_literal l) S) k
      rest false k = k

      same_code : same_literal l m ≡ true → code m ≡ code l
      same_code e =
          let p = same_literal-parts l m e in
          ap (λ (k : ℕ). 2 * pred k + cond m.positive 0 1) (sym p.1) ∙ ap (λ (b : Bool). 2 * pred l.number + cond b 0 1) (sym p.0)

      this : is_numbered v m ≡ true → x ≡ code m → (b : Bool) → literal_is_unset π m ≡ b → all (same_literal l) (cond b (m ∷ S) S) ≡ true
          → (elem x D ≡ true) ⊎ (x ≡ code l)
      this n₁ e true k a = inr (e ∙ same_code (and_left (same_literal l m) (all (same_literal l) S) a))
      this n₁ e false k a =
          inl (ap (λ (y : ℕ). elem y D) e ∙ literal-false m n₁ (or-false-left (literal_is_true π m) (any (literal_is_true π) c) o.0) k)

  module _ (c : PropClause) (numbered : all (is_numbered v) c ≡ true) where
    abbrev d : List ℕ
    d = once (codes c)

    in-clause : (x : ℕ) → elem x (codes c) ≡ true → elem x d ≡ true
    in-clause x e = elem-once x (codes c) ∙ e

    of-clause : (x : ℕ) → elem x d ≡ true → elem x (codes c) ≡ true
    of-clause x e = sym (elem-once x (codes c)) ∙ e

    -- no literal is left: the clause failed
    pub failed-status : live D d ≡ [] → status π c ≡ failed
    failed-status e =
        let f = all-false c numbered (λ x h. live-none D d e x (in-clause x h)) in
        ap (λ (b : Bool). cond b quiet (status_of (select (literal_is_unset π) c))) f.0 ∙ ap status_of f.1

    -- one literal is left, of an unset variable: the clause forces it
    pub forces-status : (u : ℕ) → live D d ≡ u ∷ [] → u / 2 < v → get_or (values v ts) (u / 2) 0 ≡ 0 → status π c ≡ forces (literal_of u)
    forces-status u e named unset = by (status π c) refl (status-means π c)
      where
        has-u : elem u (codes c) ≡ true
        has-u = of-clause u (live-has D d u [] e).0

        only : OnlyUnset π (literal_of u) c
        only = only-unset u named unset c numbered (λ x h. live-one D d u e x (in-clause x h))

        other : PropLiteral
        other = record { positive = not (eqb (u % 2) 0); number = suc (u / 2) }

        differ : (b : Bool) → beq (not b) b ≡ true → ⊥
        differ true k = false≢true k
        differ false k = false≢true k

        by : (t : Status) → status π c ≡ t → Means π t c → status π c ≡ forces (literal_of u)
        by failed s m = absurd (differ (eqb (u % 2) 0) (and_left (beq (not (eqb (u % 2) 0)) (eqb (u % 2) 0)) (eqb (suc (u / 2)) (suc (u / 2))) (unset-all u named unset (same_literal other) c numbered has-u (m other).1)))
        by (forces l) s m =
            let p = same_literal-parts l (literal_of u) (unset-all u named unset (same_literal l) c numbered has-u m.0.1) in
            s ∙ ap forces (ap (λ (b : Bool). record { positive = b; number = l.number }) p.0 ∙ ap (λ (n : ℕ). record { positive = eqb (u % 2) 0; number = n }) p.1)
        by quiet s m = absurd (m (literal_of u) only)

    -- else the clause is quiet
    pub quiet-status : Quiet D (values v ts) d → status π c ≡ quiet
    quiet-status q = by (status π c) refl (status-means π c)
      where
        -- a literal of no variable of these
        outside : PropLiteral
        outside = record { positive = true; number = suc v }

        in-range : (c : PropClause) → all (is_numbered v) c ≡ true → (x : ℕ) → elem x (codes c) ≡ true → x / 2 < v
        in-range [] n x h = absurd (false≢true h)
        in-range (l ∷ c) n x h =
            ⊎_elim
            (λ e. subst (λ (y : ℕ). y / 2 < v) (sym (eqb-true x (code l) e)) (code-variable v l (and_left (is_numbered v l) (all (is_numbered v) c) n)))
            (λ e. in-range c (and_right (is_numbered v l) (all (is_numbered v) c) n) x e)
            (or_cases (eqb x (code l)) (elem x (codes c)) h)

        -- an unset literal whose code is one of these variables' is numbered
        numbered-unset : (l : PropLiteral) → literal_is_unset π l ≡ true → code l / 2 < v → is_numbered v l ≡ true
        numbered-unset l e h =
            let p = literal-place π l e in
            and-join (leb 1 l.number) (leb l.number v) (leb-of-≤ 1 l.number (omega (arith, p.1))) (leb-of-≤ l.number v (omega (arith, p.1, h, sign-≤ l.positive)))

        by : (t : Status) → status π c ≡ t → Means π t c → status π c ≡ quiet
        by failed s m =
            absurd
            (q.0
            (none-live D d
            (λ x h. ⊎_elim (λ e. e) (λ e. absurd (omega (arith, in-range c numbered x (of-clause x h), e))) (only-false outside c numbered (m outside) x (of-clause x h)))))
        by (forces l) s m =
            let f = one-live D d (code l) (distinct-once (codes c)) (λ x h. only-false l c numbered m.0 x (of-clause x h)) in
            absurd (⊎_elim q.0 (λ e. q.1 (code l) e (unset-literal l (numbered-unset l m.1 (in-range c numbered (code l) (of-clause (code l) (live-has D d (code l) [] e).0))) m.1).1) f)
        by quiet s m = s
