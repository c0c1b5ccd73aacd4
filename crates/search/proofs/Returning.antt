-- A turn of going back, and its two ends.
use mathlib.Core.Path.{◌≡◌, refl, sym, ap, ◌∙◌, subst, subst⁻¹}
use mathlib.Core.Bool.{Bool, true, false, true≢false}
use mathlib.Core.List.{List, ◌∷◌}
use Prim.Native.Nat.{ℕ, ◌+◌, ◌-◌, ◌*◌, ◌/◌, ◌%◌, ◌≤◌, ◌<◌}
use native.Mathlib.Numerals.{add-one}
use native.Mathlib.Omega.{arith}
use borrow.Author.Tests.{ltb-true, ltb-false}
use lib.Dec.{ltb}
use lib.ListN.{length, get_or}
use lib.Seq.{get_or-take}
use Rattle.propagation.specs.Units.{pushed, Pushable}
use Rattle.propagation.specs.WorkArea.{negated, trail, values, Fresh, WorkHeld, Frame}
use Rattle.propagation.proofs.Frames.{trail-length, frame-none, frame-trans}
use Rattle.propagation.proofs.Trails.{negated-half}
use Rattle.propagation.proofs.Pushing.{free, pushed-held, pushed-frame, pushed-trail}
use Rattle.search.specs.Moves.{BackTo, flips, pops, NoneOpen, OpenUnder}
use Rattle.search.specs.Search.{Popped, Pops, Lowered, Returned}
use Rattle.search.proofs.Popping.{pop-fresh}

-- h is the lower of head and n
abbrev pub Level : ℕ → ℕ → ℕ → Type 0
Level head h n = (n < head → h ≡ n) × (head ≤ n → h ≡ head)

pub level-turn : (head h n h' : ℕ) → 0 < n → Level head h n → Lowered h (n - 1 + 1) h' → Level head h' (n - 1)
level-turn head h n h' some (a, b) lowered = (λ k. small k (ltb n head) refl, λ k. large k)
  where
    l : Lowered h n h'
    l = let up : n - 1 + 1 ≡ n = omega arith in subst (λ (k : ℕ). Lowered h k h') up lowered

    small : n - 1 < head → (c : Bool) → ltb n head ≡ c → h' ≡ n - 1
    small k true e = l.down (omega (arith, a (ltb-true n head e)))
    small k false e = l.down (omega (arith, b (ltb-false n head e), k))

    large : head ≤ n - 1 → h' ≡ head
    large k = let q = b (omega (arith, k)) in l.kept (omega (arith, q, k)) ∙ q

pub record Backing (v : ℕ) (cs : List (List ℕ)) (head len : ℕ) (w₀ : List ℕ) (h n : ℕ) (w : List ℕ) : Type 0 where
  pub held : WorkHeld v cs h n w
  pub frame : Frame v (length cs) w₀ w
  pub back : (us : List ℕ) → BackTo (trail w v n) us → BackTo (trail w₀ v len) us
  pub closed : NoneOpen (trail w v n) → NoneOpen (trail w₀ v len)
  pub under : OpenUnder head (trail w₀ v len) → OpenUnder head (trail w v n)

pub backing-start : (v : ℕ) (cs : List (List ℕ)) (head len : ℕ) (w₀ : List ℕ) → WorkHeld v cs head len w₀ → Backing v cs head len w₀ head len w₀
backing-start v cs head len w₀ h = record { held = h; frame = frame-none v (length cs) w₀; back = λ us b. b; closed = λ c. c; under = λ u. u }

pub level-start : (head len : ℕ) → head ≤ len → Level head head len
level-start head len l = (λ k. absurd (omega (arith, k, l)), λ k. refl)

module _ (v : ℕ) (cs : List (List ℕ)) (head len : ℕ) (w₀ : List ℕ) (h n : ℕ) (w : List ℕ) (g : Backing v cs head len w₀ h n w) (some : 0 < n) where
  abbrev m : ℕ
  m = n - 1

  abbrev t : ℕ
  t = get_or w (v + m) 0

  top : trail w v n ≡ t ∷ trail w v m
  top = let e : n ≡ m + 1 = omega arith in ap (trail w v) (e ∙ add-one m)

  fresh : Fresh v (t ∷ trail w v m)
  fresh = pop-fresh v cs h n w g.held some

  module _ (h' : ℕ) (w' : List ℕ) (off : Pops v h (m + 1) w h' w') where
    p : Popped v cs h n w h' w'
    p = let up : m + 1 ≡ n = omega arith in subst (λ (k : ℕ). Pops v h k w h' w') up off cs g.held

    pub backing-turn : (t % 2 ≡ 1 → ⊥) → Backing v cs head len w₀ h' m w'
    backing-turn e =
        let even : t % 2 ≡ 0 = omega (arith, e) in
        record {
          held = p.held;
          frame = frame-trans g.frame p.frame;
          back = λ us b. g.back us (subst⁻¹ (λ (l : List ℕ). BackTo l us) top (pops t even (subst (λ (l : List ℕ). BackTo l us) p.same b)));
          closed = λ c. g.closed (subst⁻¹ NoneOpen top (even, subst NoneOpen p.same c));
          under = λ u. subst⁻¹ (OpenUnder head) p.same (subst (OpenUnder head) top (g.under u)).1;
        }

    module _ (u : ℕ) (ue : u ≡ negated (t / 2)) where
      named : u / 2 < v
      named = rw (ue, negated-half (t / 2)) fresh.0

      unset : get_or w' (u / 2) 0 ≡ 0
      unset =
          sym (get_or-take v w' (u / 2) 0 named)
          ∙ ap (λ (l : List ℕ). get_or l (u / 2) 0) (p.held.gives ∙ ap (values v) p.same)
          ∙ ap (λ (k : ℕ). get_or (values v (trail w v m)) k 0) (ap (λ (k : ℕ). k / 2) ue ∙ negated-half (t / 2))
          ∙ fresh.1

      pub back-pushable : Pushable v m u 0 w'
      back-pushable =
          record {
            variable = named;
            entry = free v cs h' m w' p.held u 0 (omega arith) named unset;
            small = omega (arith, named, p.held.small);
            marked = omega arith;
            within = omega (arith, p.held.room);
          }

      pub backing-stop : (w₂ : List ℕ) → w₂ ≡ pushed v m u 0 w' → t % 2 ≡ 1 → Level head h' m → Returned v cs head len w₀ h' (m + 1) true w₂
      backing-stop w₂ e odd level = returned
        where
          new : trail w₂ v (m + 1) ≡ (2 * negated (t / 2) + 0) ∷ trail w v m
          new =
              ap (λ (l : List ℕ). trail l v (m + 1)) e
              ∙ pushed-trail v cs h' m w' p.held u 0 (omega arith) named unset
              ∙ rw (ue, p.same) refl

          back_to : BackTo (trail w v n) (trail w₂ v (m + 1))
          back_to =
              subst⁻¹ (λ (l : List ℕ). BackTo l (trail w₂ v (m + 1))) top (subst⁻¹ (λ (l : List ℕ). BackTo (t ∷ trail w v m) l) new (flips t odd))

          returned : Returned v cs head len w₀ h' (m + 1) true w₂
          returned =
              record {
                held = subst⁻¹ (λ (l : List ℕ). WorkHeld v cs h' (m + 1) l) e (pushed-held v cs h' m w' p.held u 0 (omega arith) named unset);
                frame =
                    frame-trans (frame-trans g.frame p.frame)
                    (subst⁻¹ (λ (l : List ℕ). Frame v (length cs) w' l) e (pushed-frame v cs h' m w' p.held u 0 (omega arith) named unset));
                back = λ z. g.back _ back_to;
                level = λ z o. let q = (subst (OpenUnder head) top (g.under o)).0 odd in omega (arith, level.0 (omega (arith, q, trail-length v w m)));
                closed = λ z. absurd (true≢false z);
              }
