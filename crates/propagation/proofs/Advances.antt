-- What advancing over one entry of the trail asks and means.
use mathlib.Core.Path.{◌≡◌, refl, sym, ap, ◌∙◌, subst, subst⁻¹}
use mathlib.Core.Bool.{Bool, true, false, cond, ◌||◌, or-true}
use mathlib.Core.List.{List, [], ◌∷◌, ◌++◌, map}
use Prim.Native.Nat.{ℕ, zero, suc, ◌+◌, ◌*◌, ◌/◌, ◌≤◌, ◌<◌}
use native.Mathlib.Nat.{not-suc-le-zero, le_of_suc-le-suc}
use native.Mathlib.Numerals.{add-one}
use native.Mathlib.Omega.{arith}
use borrow.Author.Tests.{eq-eqb, eqb-false, ne_eqb}
use lib.Dec.{eqb}
use lib.ListN.{length, get_or, take, drop, length-map}
use lib.Seq.{slice}
use Rattle.propagation.specs.Weights.{Addresses, AtLeast}
use Rattle.theory.specs.Lists.{elem}
use Rattle.propagation.specs.Clauses.{weight, holders}
use Rattle.propagation.specs.Units.{Visit, scanned, Scannable}
use Rattle.propagation.specs.WorkArea.{trail, values, Fresh, falses, live, WorkHeld, Frame}
use Rattle.propagation.specs.Forcing.{Quiet}
use Rattle.propagation.specs.Advance.{sinking, sunk, advanced, Calm}
use Rattle.propagation.proofs.Frames.{frame-trans, trail-agree, reweighed-front, reweighed-frame}
use Rattle.propagation.proofs.Trails.{negated-half, fresh-down, fresh-new}
use Rattle.propagation.proofs.Lives.{holder-at}
use Rattle.propagation.proofs.Holds.{lowerable, scannable, reheld, sunk as sunk-is}
use Rattle.propagation.proofs.Visits.{Looked, AllQuiet, scan-meaning, quiet-on}

pub holder-has : (x : ℕ) (cs : List (List ℕ)) (a i : ℕ) → i < length cs → elem x (get_or cs i []) ≡ true → elem (a + i) (holders a x cs) ≡ true
holder-has x [] a i h e = absurd (not-suc-le-zero h)
holder-has x (c ∷ cs) a zero h e = rw (e, eq-eqb (a + 0) a (omega arith)) refl
holder-has x (c ∷ cs) a (suc i) h e = by (holder-has x cs (suc a) i (le_of_suc-le-suc h) e) (elem x c)
  where
    by : elem (suc a + i) (holders (suc a) x cs) ≡ true → (b : Bool) → elem (a + suc i) (cond b (a ∷ holders (suc a) x cs) (holders (suc a) x cs)) ≡ true
    by again true =
        let s : suc a + i ≡ a + suc i = omega arith in
        rw (rw s at again) (or-true (eqb (a + suc i) a))
    by again false =
        let s : suc a + i ≡ a + suc i = omega arith in
        rw s at again

live-miss : (x : ℕ) (D c : List ℕ) → elem x c ≡ false → live (x ∷ D) c ≡ live D c
live-miss x D [] h = refl
live-miss x D (y ∷ ys) h = by (live-miss x D ys) (eqb x y) refl h
  where
    by : (elem x ys ≡ false → live (x ∷ D) ys ≡ live D ys) → (b : Bool) → eqb x y ≡ b → (b || elem x ys) ≡ false → live (x ∷ D) (y ∷ ys) ≡ live D (y ∷ ys)
    by again true e k = let z : ◌≡◌ {A = Bool} true false = k in cc
    by again false e k = rw (ne_eqb y x (λ s. eqb-false x y e (sym s)), again k) refl

module _ (v : ℕ) (cs : List (List ℕ)) (head len : ℕ) (w : List ℕ) (held : WorkHeld v cs head len w) (go : head < len) where
  abbrev x : ℕ
  x = sinking v head w

  fresh_at : Fresh v (get_or w (v + head) 0 ∷ trail w v head)
  fresh_at = fresh-down v w (suc head) len (omega arith) held.fresh

  pub is : x < 2 * v
  is = omega (arith, negated-half (get_or w (v + head) 0 / 2), fresh_at.0)

  not_yet : elem x (falses (trail w v head)) ≡ false
  not_yet = fresh-new v (get_or w (v + head) 0) (trail w v head) fresh_at

  pub sinks : Addresses (AtLeast (64 * x + 1)) (get_or w (2 * v + 2 * x) 0) (get_or w (2 * v + 2 * x) 0) (get_or w (2 * v + 2 * x + 1) 0) w
  sinks = lowerable v cs head len w held x is not_yet

  abbrev w₁ : List ℕ
  w₁ = sunk v x w

  trail-next : trail w v (head + 1) ≡ get_or w (v + head) 0 ∷ trail w v head
  trail-next = ap (trail w v) (add-one head)

  w₁-is : w₁ ≡ take (7 * v) w ++ (map (weight (falses (trail w v (head + 1)))) cs ++ drop (7 * v + length cs) w)
  w₁-is =
      sunk-is v cs head len w held x is not_yet
      ∙ ap (λ (l : List ℕ). take (7 * v) w ++ (map (weight (falses l)) cs ++ drop (7 * v + length cs) w)) (sym trail-next)

  pub held₁ : WorkHeld v cs (head + 1) len w₁
  held₁ = subst⁻¹ (λ (l : List ℕ). WorkHeld v cs (head + 1) len l) w₁-is (reheld v cs head len w held (head + 1) (omega arith))

  abbrev ms : List ℕ
  ms = map (weight (falses (trail w v (head + 1)))) cs

  front : (i : ℕ) → i < 7 * v → get_or w₁ i 0 ≡ get_or w i 0
  front i h =
      ap (λ (l : List ℕ). get_or l i 0) w₁-is
      ∙ reweighed-front v (length cs) w ms (length-map cs (weight (falses (trail w v (head + 1))))) held.room i h

  same-trail : (n : ℕ) → n ≤ len → trail w₁ v n ≡ trail w v n
  same-trail n h = trail-agree v w w₁ n (λ i k. front (v + i) (omega (arith, held.len-v)))

  abbrev from : ℕ
  from = get_or w (2 * v + 2 * x) 0

  abbrev to : ℕ
  to = get_or w (2 * v + 2 * x + 1) 0

  from-same : get_or w₁ (2 * v + 2 * x) 0 ≡ from
  from-same = front (2 * v + 2 * x) (omega (arith, is))

  to_same : get_or w₁ (2 * v + 2 * x + 1) 0 ≡ to
  to_same = front (2 * v + 2 * x + 1) (omega (arith, is))

  pub scans : Scannable v from from to len w₁
  scans =
      subst (λ (n : ℕ). Scannable v n n to len w₁) from-same
      (subst (λ (n : ℕ). Scannable v (get_or w₁ (2 * v + 2 * x) 0) (get_or w₁ (2 * v + 2 * x) 0) n len w₁) to_same
      (scannable v cs (head + 1) len w₁ held₁ x is))

  part : slice from to w₁ ≡ holders (7 * v) x cs
  part =
      ap (λ (n : ℕ). slice n to w₁) (sym from-same)
      ∙ ap (λ (n : ℕ). slice (get_or w₁ (2 * v + 2 * x) 0) n w₁) (sym to_same)
      ∙ (held₁.blocks x is).holds

  abbrev hs : List ℕ
  hs = trail w v (head + 1)

  abbrev H : List ℕ
  H = holders (7 * v) x cs

  looked : Looked v cs w₁ (head + 1) hs (trail w v len) (AllQuiet v cs hs H) (scanned v H len w₁)
  looked =
      subst (λ (l : List ℕ). Looked v cs w₁ (head + 1) hs l (AllQuiet v cs hs H) (scanned v H len w₁)) (same-trail len (omega arith))
      (scan-meaning v cs (head + 1) hs H len w₁
      (λ j l. let k = holder-at x cs (7 * v) j l in (k.0, k.1, k.2))
      held₁ (same-trail (head + 1) (omega arith)))

  sunk-frame : Frame v (length cs) w w₁
  sunk-frame =
      subst⁻¹ (λ (l : List ℕ). Frame v (length cs) w l) w₁-is
      (reweighed-frame v (length cs) w ms (length-map cs (weight (falses (trail w v (head + 1))))) held.room)

  pub advance-frame : Frame v (length cs) w (advanced v head len w).mem
  advance-frame =
      subst⁻¹ (λ (q : List ℕ). Frame v (length cs) w (scanned v q len w₁).mem) part (frame-trans sunk-frame looked.frame)

  pub advance-held : WorkHeld v cs (head + 1) (advanced v head len w).len (advanced v head len w).mem
  advance-held =
      subst⁻¹ (λ (q : List ℕ). WorkHeld v cs (head + 1) (scanned v q len w₁).len (scanned v q len w₁).mem) part looked.held

  abbrev Good : List ℕ → Type 0
  Good l = (i : ℕ) → i < length cs → Quiet (falses hs) l (get_or cs i [])

  -- what advancing means, from clauses that were quiet
  pub advance-meaning : Calm v cs head len w → Looked v cs w (head + 1) hs (trail w v len) Good (advanced v head len w)
  advance-meaning calm =
      subst⁻¹ (λ (q : List ℕ). Looked v cs w (head + 1) hs (trail w v len) Good (scanned v q len w₁)) part
      (record {
        held = looked.held;
        frame = frame-trans sunk-frame looked.frame;
        first = looked.first;
        forces = looked.forces;
        good = λ k i h. all i h k (elem x (get_or cs i [])) refl;
        void = looked.void;
      })
    where
      r : Visit
      r = scanned v H len w₁

      all : (i : ℕ) → i < length cs → r.clash ≡ false → (b : Bool) → elem x (get_or cs i []) ≡ b
          → Quiet (falses hs) (values v (trail r.mem v r.len)) (get_or cs i [])
      all i h k true e = looked.good k i h (holder-has x cs (7 * v) i h e)
      all i h k false e =
          quiet-on (falses hs) (get_or cs i []) looked.forces
          (subst⁻¹ (λ (l : List ℕ). Quiet (falses l) (values v (trail w v len)) (get_or cs i [])) trail-next
          (subst⁻¹ (λ (l : List ℕ). (l ≡ [] → ⊥) × ((u : ℕ) → l ≡ u ∷ [] → get_or (values v (trail w v len)) (u / 2) 0 ≡ 0 → ⊥)) (live-miss x (falses (trail w v head)) (get_or cs i []) e)
          (calm i h)))
