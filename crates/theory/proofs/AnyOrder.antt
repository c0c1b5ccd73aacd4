-- The walk does not depend on the order of unit propagation: it may set any forced literal first, with the same answer and number of choices.
use Prim.Native.Nat.{ℕ, zero, suc, ◌<◌}
use mathlib.Core.Path.{◌≡◌, refl, sym, ap, ◌∙◌}
use mathlib.Core.Bool.{Bool, false, not}
use mathlib.Core.Option.{Option, none, some}
use mathlib.Core.List.{List}
use native.Mathlib.Omega.{arith}
use lib.ListN.{get_or, set, replicate}
use Rattle.theory.specs.Propositional.{PropLiteral, PropClause}
use Rattle.theory.specs.Walk.{Partial, Status, failed, forces, quiet, status, event, lowest, Walked, choose, walk_step, walk, walked}
use Rattle.theory.specs.Claims.Walk.{Member, End, conflict, stable, Propagates, fails, stops, steps}
use Rattle.theory.proofs.Status.{EventMeans, event-means, status-forces}
use Rattle.theory.proofs.Propagation.{with_literal, Stable, any_order}
use Rattle.theory.proofs.Unset.{unset_count, unset_count-replicate, unset_count-set, unset_count-with_literal, lowest-unset}

module _ (cs : List PropClause) (first : ℕ → Bool) where
  -- a step looks only at walks from partial valuations with fewer unset variables
  walk_step-cong : (go go' : Partial → Walked) (π : Partial) (t : Status) → EventMeans π t cs → (o : Option ℕ) → lowest π ≡ o
      → ((τ : Partial) → unset_count τ < unset_count π → go τ ≡ go' τ) → walk_step go first π t o ≡ walk_step go' first π t o
  walk_step-cong go go' π failed e o k h = refl
  walk_step-cong go go' π (forces l) e o k h =
      let f : suc (unset_count (with_literal π l)) ≡ unset_count π = unset_count-with_literal π l (status-forces π e.0 l e.2).1 in
      h (with_literal π l) (omega arith)
  walk_step-cong go go' π quiet e none k h = refl
  walk_step-cong go go' π quiet e (some i) k h =
      let u : get_or π i (some false) ≡ none = lowest-unset π i k in
      let each : (b : Bool) → go (set π i (some b)) ≡ go' (set π i (some b)) = λ b. h (set π i (some b)) (omega (arith, unset_count-set π i b u)) in
      let other : Walked = go (set π i (some (not (first i)))) in
      ap (λ (one : Walked). choose one.answer one other) (each (first i))
      ∙ ap (λ (other : Walked). choose (go' (set π i (some (first i)))).answer (go' (set π i (some (first i)))) other) (each (not (first i)))

  -- more steps than unset variables change nothing
  pub walk-enough : (m n : ℕ) (π : Partial) → unset_count π < m → unset_count π < n → walk m cs first π ≡ walk n cs first π
  walk-enough zero n π h k = absurd (omega arith)
  walk-enough (suc m) zero π h k = absurd (omega arith)
  walk-enough (suc m) (suc n) π h k =
      walk_step-cong (walk m cs first) (walk n cs first) π (event π cs) (event-means π cs) (lowest π) refl (λ τ l. walk-enough m n τ (omega arith) (omega arith))

  -- the walk from a partial valuation, with enough steps
  abbrev pub walk_from : Partial → Walked
  walk_from π = walk (suc (unset_count π)) cs first π

  pub walked_from : (v : ℕ) → walked v cs first ≡ walk_from (replicate v none)
  unfolding walked
  walked_from v = walk-enough (suc v) (suc (unset_count (replicate v none))) (replicate v none) (omega (arith, unset_count-replicate v)) (omega arith)

  -- the walk from where unit propagation ends
  abbrev pub walk_end : End → Walked
  walk_end conflict = record { answer = none; choices = 0 }
  walk_end (stable τ) = walk_step walk_from first τ quiet (lowest τ)

  -- the walk is a run of unit propagation, and the walk from its end
  walk-run : (n : ℕ) (π : Partial) → unset_count π < n → (o : End) × Propagates cs π o × (walk n cs first π ≡ walk_end o)
  walk-run zero π h = absurd (omega arith)
  walk-run (suc n) π h = go (event π cs) (event-means π cs) (λ τ k. walk-run n τ k)
    where
      go : (t : Status) → EventMeans π t cs → ((τ : Partial) → unset_count τ < n → (o : End) × Propagates cs τ o × (walk n cs first τ ≡ walk_end o))
          → (o : End) × Propagates cs π o × (walk_step (walk n cs first) first π t (lowest π) ≡ walk_end o)
      go failed e ih = (conflict, fails e.0 e.1 e.2, refl)
      go (forces l) e ih =
          let f : suc (unset_count (with_literal π l)) ≡ unset_count π = unset_count-with_literal π l (status-forces π e.0 l e.2).1 in
          let r = ih (with_literal π l) (omega arith) in
          (r.0, steps e.0 l e.1 e.2 r.1, r.2)
      go quiet e ih = (
        stable π,
        stops e,
        walk_step-cong (walk n cs first) walk_from π quiet e (lowest π) refl
            (λ τ k. walk-enough n (suc (unset_count τ)) τ (omega arith) (omega arith)),
      )

  -- whichever run of unit propagation is taken, the walk goes on from its end
  pub walk-propagates : (π : Partial) (o : End) → Propagates cs π o → walk_from π ≡ walk_end o
  walk-propagates π o p = let r = walk-run (suc (unset_count π)) π (omega arith) in r.2 ∙ ap walk_end (any_order cs π r.0 o r.1 p)

  -- a clause that failed ends the walk
  pub walk-failed : (π : Partial) (c : PropClause) → Member c cs → status π c ≡ failed → walk_from π ≡ record { answer = none; choices = 0 }
  walk-failed π c m e = walk-propagates π conflict (fails c m e)

  -- any literal that a clause forces may be set
  pub walk-forced : (π : Partial) (c : PropClause) (l : PropLiteral) → Member c cs → status π c ≡ forces l → walk_from π ≡ walk_from (with_literal π l)
  walk-forced π c l m e =
      let τ : Partial = with_literal π l in
      let r = walk-run (suc (unset_count τ)) τ (omega arith) in
      walk-propagates π r.0 (steps c l m e r.1) ∙ sym r.2

  -- where every clause is quiet, the walk ends, or chooses a value for the lowest unset variable
  pub walk-stable : (π : Partial) → Stable cs π → walk_from π ≡ walk_step walk_from first π quiet (lowest π)
  walk-stable π h = walk-propagates π (stable π) (stops h)
