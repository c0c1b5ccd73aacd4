-- The walk's answer is the first valuation, in the order of its choices, that satisfies the clauses.
use Prim.Native.Nat.{ℕ, zero, suc, pred, ◌<◌}
use mathlib.Core.Path.{◌≡◌, refl, sym, ap, ◌∙◌}
use mathlib.Core.Bool.{Bool, true, false, cond, not, beq}
use mathlib.Core.Option.{Option, none, some, some-injective}
use mathlib.Core.List.{List, [], ◌∷◌}
use native.Mathlib.Omega.{arith}
use lib.Dec.{eqb}
use lib.ListN.{get_or, set, replicate}
use Rattle.theory.specs.Lists.{elem, prefix, place_at}
use Rattle.theory.specs.Propositional.{PropLiteral, PropClause}
use Rattle.theory.specs.Valuation.{says, satisfies}
use Rattle.theory.specs.Least.{or_else, first_list}
use Rattle.theory.specs.Walk.{Partial, Status, failed, forces, quiet, status, event, lowest, bytes_of, Walked, choose, walk_step, walk, walked}
use Rattle.theory.specs.Claims.Walk.{Member}
use Rattle.theory.proofs.Tests.{not-true, both_false, beq-≡}
use Rattle.theory.proofs.Lists.{elem-here}
use Rattle.theory.proofs.First.{In, or_else-none, prefix-or_else, first-none, narrow}
use Rattle.theory.proofs.Status.{EventMeans, event-means, status-forces}
use Rattle.theory.proofs.Propagation.{with_literal}
use Rattle.theory.proofs.Unset.{unset_count, unset_count-replicate, unset_count-set, unset_count-with_literal, literal-place, lowest-unset, all_set}
use Rattle.theory.proofs.Completions.{options, completions, completion-byte, satisfies-member, member-satisfies, failed-not-satisfied, forced-satisfied, quiet-satisfied}

-- setting a variable leaves one byte for it
completions-set : (first : ℕ → Bool) (π : Partial) (i : ℕ) (b : Bool) → completions first (set π i (some b)) ≡ set (completions first π) i (cond b 1 0 ∷ [])
completions-set first [] i b = refl
completions-set first (o ∷ π) zero b = refl
completions-set first (o ∷ π) (suc i) b = ap (λ (dss : List (List ℕ)). options (first 0) o ∷ dss) (completions-set (λ i. first (suc i)) π i b)

-- an unset variable may have both bytes
unset-options : (first : ℕ → Bool) (π : Partial) (i : ℕ) (b : Bool) → get_or π i (some false) ≡ none → elem (cond b 1 0) (get_or (completions first π) i []) ≡ true
unset-options first [] i b e = let q : ◌≡◌ {A = ℕ} 0 1 = cc in absurd (omega arith)
unset-options first (o ∷ π) zero b e = ap (λ (o : Option Bool). elem (cond b 1 0) (options (first 0) o)) e ∙ both (first 0) b
  where
    both : (a b : Bool) → elem (cond b 1 0) (options a none) ≡ true
    both true true = refl
    both true false = refl
    both false true = refl
    both false false = refl
unset-options first (o ∷ π) (suc i) b e = unset-options (λ i. first (suc i)) π i b e

-- a choice splits the completions in two
branch : (first : ℕ → Bool) (π : Partial) (i : ℕ) (p : List ℕ → Bool) → lowest π ≡ some i
    → first_list (completions first π) p
    ≡ or_else (first_list (completions first (set π i (some (first i)))) p) (first_list (completions first (set π i (some (not (first i))))) p)
branch first [] i p e = let q : ◌≡◌ {A = ℕ} 0 1 = cc in absurd (omega arith)
branch first (none ∷ π) i p e = go i (some-injective 0 i e)
  where
    f : ℕ → Option (List ℕ)
    f d = prefix d (first_list (completions (λ i. first (suc i)) π) (λ v. p (d ∷ v)))

    go : (i : ℕ) → 0 ≡ i
        → first_list (completions first (none ∷ π)) p
        ≡ or_else (first_list (completions first (set (none ∷ π) i (some (first i)))) p) (first_list (completions first (set (none ∷ π) i (some (not (first i))))) p)
    go zero z = ap (λ (o : Option (List ℕ)). or_else o (or_else (f (cond (not (first 0)) 1 0)) none)) (sym (or_else-none (f (cond (first 0) 1 0))))
    go (suc i) z = absurd (omega arith)
branch first (some b ∷ π) i p e = go (lowest π) refl e (λ j k. branch (λ i. first (suc i)) π j (λ v. p (cond b 1 0 ∷ v)) k)
  where
    rest : Partial → Option (List ℕ)
    rest τ = first_list (completions (λ i. first (suc i)) τ) (λ v. p (cond b 1 0 ∷ v))

    go : (o : Option ℕ) → lowest π ≡ o → place_at false o ≡ some i
        → ((j : ℕ) → lowest π ≡ some j → rest π ≡ or_else (rest (set π j (some (first (suc j))))) (rest (set π j (some (not (first (suc j)))))))
        → first_list (completions first (some b ∷ π)) p
        ≡ or_else (first_list (completions first (set (some b ∷ π) i (some (first i)))) p) (first_list (completions first (set (some b ∷ π) i (some (not (first i))))) p)
    go none h z ih = let q : ◌≡◌ {A = ℕ} 0 1 = cc in absurd (omega arith)
    go (some j) h z ih = at i (some-injective (suc j) i z)
      where
        at : (i : ℕ) → suc j ≡ i
            → first_list (completions first (some b ∷ π)) p
            ≡ or_else (first_list (completions first (set (some b ∷ π) i (some (first i)))) p) (first_list (completions first (set (some b ∷ π) i (some (not (first i))))) p)
        at zero y = absurd (omega arith)
        at (suc i) y =
            let same : j ≡ i = omega arith in
            let d : ℕ = cond b 1 0 in
            let one : Option (List ℕ) = rest (set π i (some (first (suc i)))) in
            let other : Option (List ℕ) = rest (set π i (some (not (first (suc i))))) in
            let k : rest π ≡ or_else one other = ih i (h ∙ ap some same) in
            or_else-none (prefix d (rest π)) ∙ ap (prefix d) k ∙ prefix-or_else d one other
            ∙ ap (λ (o : Option (List ℕ)). or_else o (prefix d other)) (sym (or_else-none (prefix d one)))
            ∙ ap (λ (o : Option (List ℕ)). or_else (or_else (prefix d one) none) o) (sym (or_else-none (prefix d other)))

-- a partial valuation whose variables are all set has one completion, its bytes
only-completion : (first : ℕ → Bool) (π : Partial) (p : List ℕ → Bool) → lowest π ≡ none
    → (In (bytes_of π) (completions first π)) × (first_list (completions first π) p ≡ cond (p (bytes_of π)) (some (bytes_of π)) none)
only-completion first [] p e = (tt, refl)
only-completion first (none ∷ π) p e = let q : ◌≡◌ {A = ℕ} 0 1 = cc in absurd (omega arith)
only-completion first (some b ∷ π) p e = go (lowest π) refl e (λ k. only-completion (λ i. first (suc i)) π (λ v. p (d ∷ v)) k)
  where
    d : ℕ
    d = cond b 1 0

    rest : List (List ℕ)
    rest = completions (λ i. first (suc i)) π

    push : (q : Bool) (v : List ℕ) → prefix d (cond q (some v) none) ≡ cond q (some (d ∷ v)) none
    push true v = refl
    push false v = refl

    go : (o : Option ℕ) → lowest π ≡ o → place_at false o ≡ none
        → (lowest π ≡ none → (In (bytes_of π) rest) × (first_list rest (λ v. p (d ∷ v)) ≡ cond (p (d ∷ bytes_of π)) (some (bytes_of π)) none))
        → (In (d ∷ bytes_of π) ((d ∷ []) ∷ rest)) × (first_list ((d ∷ []) ∷ rest) p ≡ cond (p (d ∷ bytes_of π)) (some (d ∷ bytes_of π)) none)
    go none h z ih =
        let r = ih h in
        ((elem-here d [], r.0), or_else-none (prefix d (first_list rest (λ v. p (d ∷ v)))) ∙ ap (prefix d) r.1 ∙ push (p (d ∷ bytes_of π)) (bytes_of π))
    go (some j) h z ih = let q : ◌≡◌ {A = ℕ} 0 1 = cc in absurd (omega arith)

choose-answer : (o : Option (List ℕ)) (a b : Walked) → a.answer ≡ o → (choose o a b).answer ≡ or_else a.answer b.answer
choose-answer none a b e = ap (λ (o : Option (List ℕ)). or_else o b.answer) (sym e)
choose-answer (some v) a b e = ap (λ (o : Option (List ℕ)). or_else o b.answer) (sym e)

module _ (cs : List PropClause) (first : ℕ → Bool) where
  -- the first completion that satisfies the clauses
  abbrev first_satisfying : Partial → Option (List ℕ)
  first_satisfying π = first_list (completions first π) (λ v. satisfies v cs)

  -- a forced literal may be set
  forced-first : (π : Partial) (c : PropClause) (l : PropLiteral) → Member c cs → status π c ≡ forces l → first_satisfying (with_literal π l) ≡ first_satisfying π
  forced-first π c l m e =
      let r = literal-place π l (status-forces π c l e).1 in
      let i : ℕ = r.0 in
      let b : Bool = l.positive in
      let at : (v : List ℕ) → In v (completions first π) → satisfies v cs ≡ true → get_or v i 0 ≡ cond b 1 0 =
      λ v k t.
      let h : beq b (says v (suc i)) ≡ true =
      ap (λ (n : ℕ). beq b (says v n)) (sym r.1) ∙ forced-satisfied first π v k c l e (satisfies-member v cs c t m) in
      completion-byte first π v i k ∙ ap (λ (b : Bool). cond b 1 0) (sym (beq-≡ b (eqb (get_or v i 0) 1) h)) in
      ap (λ (n : ℕ). first_satisfying (set π (pred n) (some b))) r.1
      ∙ ap (λ (dss : List (List ℕ)). first_list dss (λ v. satisfies v cs)) (completions-set first π i b)
      ∙ narrow (completions first π) i (cond b 1 0) (λ v. satisfies v cs) (unset-options first π i b r.2) at

  -- from any partial valuation, the walk's answer is the first completion that satisfies the clauses
  pub walk_first : (n : ℕ) (π : Partial) → unset_count π < n → (walk n cs first π).answer ≡ first_satisfying π
  walk_first zero π h = absurd (omega arith)
  walk_first (suc n) π h = go (event π cs) (event-means π cs) (lowest π) refl (λ τ k. walk_first n τ k)
    where
      go : (t : Status) → EventMeans π t cs → (o : Option ℕ) → lowest π ≡ o → ((τ : Partial) → unset_count τ < n → (walk n cs first τ).answer ≡ first_satisfying τ)
          → (walk_step (walk n cs first) first π t o).answer ≡ first_satisfying π
      go failed e o k ih =
          sym
          (first-none (completions first π) (λ v. satisfies v cs)
          (λ v m. not-true (satisfies v cs) (λ t. both_false (satisfies-member v cs e.0 t e.1) (failed-not-satisfied first π v m e.0 e.2))))
      go (forces l) e o k ih =
          let f : suc (unset_count (with_literal π l)) ≡ unset_count π = unset_count-with_literal π l (status-forces π e.0 l e.2).1 in
          ih (with_literal π l) (omega arith) ∙ forced-first π e.0 l e.1 e.2
      go quiet e none k ih =
          let r = only-completion first π (λ v. satisfies v cs) k in
          let t : satisfies (bytes_of π) cs ≡ true =
          member-satisfies (bytes_of π) cs (λ c m. quiet-satisfied first π (bytes_of π) r.0 (all_set π k) c (e c m)) in
          sym (r.1 ∙ ap (λ (b : Bool). cond b (some (bytes_of π)) none) t)
      go quiet e (some i) k ih =
          let b : Bool = first i in
          let u : get_or π i (some false) ≡ none = lowest-unset π i k in
          let f₁ : suc (unset_count (set π i (some b))) ≡ unset_count π = unset_count-set π i b u in
          let f₂ : suc (unset_count (set π i (some (not b)))) ≡ unset_count π = unset_count-set π i (not b) u in
          let one : Walked = walk n cs first (set π i (some b)) in
          let other : Walked = walk n cs first (set π i (some (not b))) in
          choose-answer one.answer one other refl
          ∙ ap (λ (o : Option (List ℕ)). or_else o other.answer) (ih (set π i (some b)) (omega arith))
          ∙ ap (λ (o : Option (List ℕ)). or_else (first_satisfying (set π i (some b))) o) (ih (set π i (some (not b))) (omega arith))
          ∙ sym (branch first π i (λ v. satisfies v cs) k)

  -- the answer of the walk over v variables is the first valuation of them that satisfies the clauses
  pub walked-first : (v : ℕ) → (walked v cs first).answer ≡ first_satisfying (replicate v none)
  unfolding walked
  walked-first v = walk_first (suc v) (replicate v none) (omega (arith, unset_count-replicate v))
