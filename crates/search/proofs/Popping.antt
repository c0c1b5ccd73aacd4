-- A pop, in its two ways.
use mathlib.Core.Path.{◌≡◌, sym, ap, ◌∙◌, subst, subst⁻¹}
use mathlib.Core.List.{List, ◌∷◌}
use Prim.Native.Nat.{ℕ, ◌+◌, ◌-◌, ◌*◌, ◌/◌, ◌≤◌, ◌<◌}
use native.Mathlib.Numerals.{add-one}
use native.Mathlib.Omega.{arith}
use lib.ListN.{length, get_or, set}
use Rattle.propagation.specs.WorkArea.{trail, Fresh, WorkHeld, Frame}
use Rattle.propagation.proofs.Frames.{trail-agree, frame-trans}
use Rattle.search.specs.Search.{floated, Popped}
use Rattle.search.proofs.Unwinding.{floated-held, floated-frame, floated-front, same-trail, unset-held, unset-frame}

module _ (v : ℕ) (cs : List (List ℕ)) (head len : ℕ) (w : List ℕ) (held : WorkHeld v cs head len w) (some : 0 < len) where
  abbrev n : ℕ
  n = len - 1

  len_is : len ≡ n + 1
  len_is = omega arith

  pub pop-fresh : Fresh v (get_or w (v + n) 0 ∷ trail w v n)
  pop-fresh = subst (λ (l : List ℕ). Fresh v l) (ap (trail w v) (len_is ∙ add-one n)) held.fresh

  pub pop-variable : get_or w (v + n) 0 / 2 / 2 < v
  pop-variable = pop-fresh.0

  pub popped-kept : head ≤ n → Popped v cs head len w head (set w (get_or w (v + n) 0 / 2 / 2) 0)
  popped-kept h =
      let held' : WorkHeld v cs head (n + 1) w = subst (λ (m : ℕ). WorkHeld v cs head m w) len_is held in
      record { held = unset-held v cs head n w held' h; frame = unset-frame v cs head n w held' h; same = same-trail v cs head n w held' h n }

  pub pop-ready : n < head → WorkHeld v cs (n + 1) len w
  pop-ready h = let e : head ≡ n + 1 = omega (arith, held.head-len) in subst (λ (m : ℕ). WorkHeld v cs m len w) e held

  pub popped-down : n < head → (w₁ : List ℕ) → w₁ ≡ floated v n w → Popped v cs head len w n (set w₁ (get_or w (v + n) 0 / 2 / 2) 0)
  popped-down h w₁ e₁ =
      let h₁ = pop-ready h in
      let f : (i : ℕ) → i < 7 * v → get_or w₁ i 0 ≡ get_or w i 0 = λ i k. ap (λ (l : List ℕ). get_or l i 0) e₁ ∙ floated-front v cs n len w h₁ i k in
      let held' : WorkHeld v cs n (n + 1) w₁ = subst⁻¹ (λ (l : List ℕ). WorkHeld v cs n (n + 1) l) e₁ (subst (λ (m : ℕ). WorkHeld v cs n m (floated v n w)) len_is (floated-held v cs n len w h₁)) in
      let e' : get_or w (v + n) 0 / 2 / 2 ≡ get_or w₁ (v + n) 0 / 2 / 2 = ap (λ (m : ℕ). m / 2 / 2) (sym (f (v + n) (omega (arith, held.len-v)))) in
      rw e'
      (record {
        held = unset-held v cs n n w₁ held' (omega arith);
        frame = frame-trans (subst⁻¹ (λ (l : List ℕ). Frame v (length cs) w l) e₁ (floated-frame v cs n len w h₁)) (unset-frame v cs n n w₁ held' (omega arith));
        same = same-trail v cs n n w₁ held' (omega arith) n ∙ trail-agree v w w₁ n (λ i k. f (v + i) (omega (arith, held.len-v)));
      })
