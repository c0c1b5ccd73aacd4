-- Unit propagation ends the same in whatever order it goes: every run stays below each stable partial valuation above its start.
use Prim.Native.Nat.{ℕ, zero, suc, pred, ◌<◌}
use mathlib.Core.Path.{◌≡◌, refl, sym, ap, ◌∙◌}
use mathlib.Core.Logic.{◌⊎◌, inl, inr}
use mathlib.Core.Bool.{Bool, true, false, cond, ◌||◌, true≢false, false≢true}
use mathlib.Core.Option.{Option, none, some}
use mathlib.Core.List.{List, [], ◌∷◌}
use lib.Dec.{eqb, ltb}
use lib.ListN.{length, get_or, set, length-set, get_or-eq_default}
use lib.Seq.{ext_get_or, get_or-set_same, get_or-set_other}
use Rattle.theory.specs.Lists.{any, all, select}
use Rattle.theory.specs.Propositional.{PropLiteral, PropClause}
use Rattle.theory.specs.Walk.{Partial, lookup, is_unset, is_set_to, literal_is_true, literal_is_unset, same_literal, quiet, status}
use Rattle.theory.specs.Claims.Walk.{Member, End, conflict, stable, Propagates, fails, stops, steps}
use Rattle.theory.proofs.Tests.{true-or-false, both_false, beq-≡, eqb-true, eqb-ne, ltb-true, ltb-false, and_left, and_right, and-join, or-false-left, or-false-right, or-false-join}
use Rattle.theory.proofs.Status.{same_literal-parts, OnlyUnset, status-failed, status-forces, status-quiet}

-- π with the literal made true
abbrev pub with_literal : Partial → PropLiteral → Partial
with_literal π l = set π (pred l.number) (some l.positive)

-- τ sets at least what π sets
abbrev Below : Partial → Partial → Type 0
Below π τ = (n : ℕ) (b : Bool) → lookup π n ≡ some b → lookup τ n ≡ some b

module _ (π τ : Partial) (below : Below π τ) where
  -- a literal that π sets has the same value under τ
  kept : (m : PropLiteral) → literal_is_unset π m ≡ false → (literal_is_true τ m ≡ literal_is_true π m) × (literal_is_unset τ m ≡ false)
  kept m h = go (lookup π m.number) refl h
    where
      go : (o : Option Bool) → lookup π m.number ≡ o → is_unset o ≡ false
          → (is_set_to m.positive (lookup τ m.number) ≡ is_set_to m.positive o) × (is_unset (lookup τ m.number) ≡ false)
      go none e k = absurd (true≢false k)
      go (some b) e k = let z : lookup τ m.number ≡ some b = below m.number b e in (ap (is_set_to m.positive) z, ap is_unset z)

  same_truth : (l m : PropLiteral) → same_literal l m ≡ true → literal_is_true τ m ≡ literal_is_true τ l
  same_truth l m h =
      let p = same_literal-parts l m h in
      ap (λ (b : Bool). is_set_to b (lookup τ m.number)) (sym p.0) ∙ ap (λ (n : ℕ). is_set_to l.positive (lookup τ n)) (sym p.1)

  -- a clause that is false under π but for l is so under τ, if τ does not make l true
  carried : (l : PropLiteral) → literal_is_true τ l ≡ false → (c : PropClause) → OnlyUnset π l c → OnlyUnset τ l c
  carried l n [] o = (refl, refl)
  carried l n (m ∷ c) o =
      go (literal_is_unset π m) refl o.1 (literal_is_unset τ m) refl (λ k. carried l n c (or-false-right (literal_is_true π m) (any (literal_is_true π) c) o.0, k))
    where
      P : PropClause
      P = select (literal_is_unset π) c

      Q : PropClause
      Q = select (literal_is_unset τ) c

      go : (u : Bool) → literal_is_unset π m ≡ u → all (same_literal l) (cond u (m ∷ P) P) ≡ true → (v : Bool) → literal_is_unset τ m ≡ v
          → (all (same_literal l) P ≡ true → (any (literal_is_true τ) c ≡ false) × (all (same_literal l) Q ≡ true))
          → ((literal_is_true τ m || any (literal_is_true τ) c) ≡ false) × (all (same_literal l) (cond v (m ∷ Q) Q) ≡ true)
      go true e k v w ih =
          let s : same_literal l m ≡ true = and_left (same_literal l m) (all (same_literal l) P) k in
          let r = ih (and_right (same_literal l m) (all (same_literal l) P) k) in
          (or-false-join (literal_is_true τ m) (any (literal_is_true τ) c) (same_truth l m s ∙ n) r.0, pick v s r.1)
        where
          pick : (v : Bool) → same_literal l m ≡ true → all (same_literal l) Q ≡ true → all (same_literal l) (cond v (m ∷ Q) Q) ≡ true
          pick true s r = and-join (same_literal l m) (all (same_literal l) Q) s r
          pick false s r = r
      go false e k true w ih = absurd (both_false w (kept m e).1)
      go false e k false w ih =
          let r = ih k in
          (or-false-join (literal_is_true τ m) (any (literal_is_true τ) c) ((kept m e).0 ∙ or-false-left (literal_is_true π m) (any (literal_is_true π) c) o.0) r.0, r.1)

-- a partial valuation in which a literal of π becomes true stays below τ, if τ makes the literal true
set_below : (π τ : Partial) (l : PropLiteral) → Below π τ → literal_is_unset π l ≡ true → literal_is_true τ l ≡ true → Below (with_literal π l) τ
set_below π τ l below u t = go l.number u (value (lookup τ l.number) t)
  where
    value : (o : Option Bool) → is_set_to l.positive o ≡ true → o ≡ some l.positive
    value none e = absurd (false≢true e)
    value (some b) e = ap some (sym (beq-≡ l.positive b e))

    go : (n : ℕ) → is_unset (lookup π n) ≡ true → lookup τ n ≡ some l.positive
        → (m : ℕ) (b : Bool) → lookup (set π (pred n) (some l.positive)) m ≡ some b → lookup τ m ≡ some b
    go zero u t m b e = absurd (false≢true u)
    go (suc i) u t zero b e = below zero b e
    go (suc i) u t (suc j) b e = at (true-or-false (eqb j i))
      where
        inside : i < length π
        inside = pick (true-or-false (ltb i (length π)))
          where
            pick : (ltb i (length π) ≡ true) ⊎ (ltb i (length π) ≡ false) → i < length π
            pick (inl h) = ltb-true i (length π) h
            pick (inr h) = absurd (false≢true (ap is_unset (sym (get_or-eq_default π (some false) (ltb-false i (length π) h))) ∙ u))

        at : (eqb j i ≡ true) ⊎ (eqb j i ≡ false) → lookup τ (suc j) ≡ some b
        at (inl k) =
            let z : j ≡ i = eqb-true j i k in
            let w : some l.positive ≡ some b =
            sym (get_or-set_same π i (some l.positive) (some false) inside)
            ∙ ap (λ (j : ℕ). get_or (set π i (some l.positive)) j (some false)) (sym z) ∙ e in
            ap (λ (j : ℕ). lookup τ (suc j)) z ∙ t ∙ w
        at (inr k) = below (suc j) b (sym (get_or-set_other π i j (some l.positive) (some false) (eqb-ne j i k)) ∙ e)

below_set : (π : Partial) (l : PropLiteral) → literal_is_unset π l ≡ true → Below π (with_literal π l)
below_set π l u = go l.number u
  where
    go : (n : ℕ) → is_unset (lookup π n) ≡ true → (m : ℕ) (b : Bool) → lookup π m ≡ some b → lookup (set π (pred n) (some l.positive)) m ≡ some b
    go zero u m b e = absurd (false≢true u)
    go (suc i) u zero b e = e
    go (suc i) u (suc j) b e =
        get_or-set_other π i j (some l.positive) (some false)
        (λ z. true≢false (sym u ∙ ap (λ (j : ℕ). is_unset (get_or π j (some false))) (sym z) ∙ ap is_unset e)) ∙ e

module _ (cs : List PropClause) where
  -- every clause is quiet
  abbrev pub Stable : Partial → Type 0
  Stable τ = (c : PropClause) → Member c cs → status τ c ≡ quiet

  -- where a run from π may end that stays below τ
  abbrev EndsBelow : Partial → Partial → End → Type 0
  EndsBelow π τ conflict = ⊥
  EndsBelow π τ (stable ψ) = Below ψ τ × (length ψ ≡ length π)

  -- every run from π stays below a stable τ above π
  bounded : (π τ : Partial) (o : End) → Propagates cs π o → Below π τ → Stable τ → EndsBelow π τ o
  bounded π τ o (fails c m e) below q =
      let l : PropLiteral = record { positive = true; number = 0 } in
      status-quiet τ c (q c m) l (carried π τ below l refl c (status-failed π c e l))
  bounded π τ o (stops h) below q = (below, refl)
  bounded π τ o (steps c l m e r) below q =
      let p = status-forces π c l e in
      let t : literal_is_true τ l ≡ true = is_true (literal_is_true τ l) refl p.0 in
      longer o (bounded (with_literal π l) τ o r (set_below π τ l below p.1 t) q)
    where
      is_true : (b : Bool) → literal_is_true τ l ≡ b → OnlyUnset π l c → literal_is_true τ l ≡ true
      is_true true h p = h
      is_true false h p = absurd (status-quiet τ c (q c m) l (carried π τ below l h c p))

      longer : (o : End) → EndsBelow (with_literal π l) τ o → EndsBelow π τ o
      longer conflict b = b
      longer (stable ψ) b = (b.0, b.1 ∙ length-set π (pred l.number) (some l.positive))

  -- a run that does not fail ends above its start, where every clause is quiet
  abbrev EndsAbove : Partial → End → Type 0
  EndsAbove π conflict = Unit {0}
  EndsAbove π (stable ψ) = Below π ψ × Stable ψ

  rises : (π : Partial) (o : End) → Propagates cs π o → EndsAbove π o
  rises π o (fails c m e) = tt
  rises π o (stops h) = (λ n b e. e, h)
  rises π o (steps c l m e r) = go o (rises (with_literal π l) o r)
    where
      go : (o : End) → EndsAbove (with_literal π l) o → EndsAbove π o
      go conflict h = tt
      go (stable ψ) h = (λ n b k. h.0 n b (below_set π l (status-forces π c l e).1 n b k), h.1)

below-antisym : (π τ : Partial) → Below π τ → Below τ π → length π ≡ length τ → π ≡ τ
below-antisym π τ a b l = ext_get_or (some false) π τ l (λ i h. go i (get_or π i (some false)) refl (get_or τ i (some false)) refl)
  where
    go : (i : ℕ) (o : Option Bool) → get_or π i (some false) ≡ o → (p : Option Bool) → get_or τ i (some false) ≡ p → get_or π i (some false) ≡ get_or τ i (some false)
    go i none e none h = e ∙ sym h
    go i none e (some v) h = let z : lookup π (suc i) ≡ some v = b (suc i) v h in z ∙ sym h
    go i (some v) e p h = let z : lookup τ (suc i) ≡ some v = a (suc i) v e in e ∙ sym z

-- the end does not depend on the order
pub any_order : (cs : List PropClause) (π : Partial) (a b : End) → Propagates cs π a → Propagates cs π b → a ≡ b
any_order cs π conflict conflict r q = refl
any_order cs π conflict (stable φ) r q = let h = rises cs π (stable φ) q in absurd (bounded cs π φ conflict r h.0 h.1)
any_order cs π (stable ψ) conflict r q = let h = rises cs π (stable ψ) r in absurd (bounded cs π ψ conflict q h.0 h.1)
any_order cs π (stable ψ) (stable φ) r q =
    let h = rises cs π (stable ψ) r in
    let k = rises cs π (stable φ) q in
    let a = bounded cs π φ (stable ψ) r k.0 k.1 in
    let b = bounded cs π ψ (stable φ) q h.0 h.1 in
    ap stable (below-antisym ψ φ a.0 b.0 (a.1 ∙ sym b.1))
