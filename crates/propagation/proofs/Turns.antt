-- A turn of propagation, and its end.
use mathlib.Core.Path.{◌≡◌, refl, subst, subst⁻¹}
use mathlib.Core.Bool.{Bool, true, false, true≢false, false≢true}
use mathlib.Core.List.{List, []}
use Prim.Native.Nat.{ℕ, ◌+◌, ◌≤◌, ◌<◌}
use native.Mathlib.Omega.{arith}
use lib.ListN.{length, get_or}
use Rattle.propagation.specs.Units.{Visit}
use Rattle.propagation.specs.WorkArea.{trail, falses, WorkHeld, Frame}
use Rattle.propagation.specs.Forcing.{Forces, no_more, Quiet}
use Rattle.propagation.specs.Advance.{advanced, Calm, Propagated}
use Rattle.propagation.proofs.Visits.{Looked, forces-trans}
use Rattle.propagation.proofs.Advances.{advance-held, advance-frame, advance-meaning}
use Rattle.propagation.proofs.Frames.{frame-none, frame-trans}

-- what holds at the head of the loop of `propagate`, of any clauses that the work area holds
pub record Going (v : ℕ) (cs : List (List ℕ)) (start len : ℕ) (w₀ : List ℕ) (head n : ℕ) (w : List ℕ) : Type 0 where
  pub held : WorkHeld v cs head n w
  pub frame : Frame v (length cs) w₀ w
  pub onward : start ≤ head
  pub forces : Calm v cs start len w₀ → Forces v cs (trail w₀ v len) (trail w v n)
  pub calm : Calm v cs start len w₀ → Calm v cs head n w

pub going_start : (v : ℕ) (cs : List (List ℕ)) (start len : ℕ) (w₀ : List ℕ) → WorkHeld v cs start len w₀ → Going v cs start len w₀ start len w₀
going_start v cs start len w₀ h = record { held = h; frame = frame-none v (length cs) w₀; onward = omega arith; forces = λ k. no_more; calm = λ k. k }

module _ (v : ℕ) (cs : List (List ℕ)) (start len : ℕ) (w₀ : List ℕ) (head n : ℕ) (w : List ℕ) (g : Going v cs start len w₀ head n w) where
  module _ (go : head < n) (clash : Bool) (n' : ℕ) (w' : List ℕ) (r : record { len = n'; clash = clash; mem = w' } ≡ advanced v head n w) where
    held' : WorkHeld v cs (head + 1) n' w'
    held' = subst⁻¹ (λ (z : Visit). WorkHeld v cs (head + 1) z.len z.mem) r (advance-held v cs head n w g.held go)

    frame' : Frame v (length cs) w₀ w'
    frame' = frame-trans g.frame (subst⁻¹ (λ (z : Visit). Frame v (length cs) w z.mem) r (advance-frame v cs head n w g.held go))

    -- every clause is quiet after one entry more, where its variables have the values l
    abbrev AllCalm : List ℕ → Type 0
    AllCalm l = (i : ℕ) → i < length cs → Quiet (falses (trail w v (head + 1))) l (get_or cs i [])

    meaning : Calm v cs start len w₀ → Looked v cs w (head + 1) (trail w v (head + 1)) (trail w v n) AllCalm (record { len = n'; clash = clash; mem = w' })
    meaning calm =
        subst⁻¹ (Looked v cs w (head + 1) (trail w v (head + 1)) (trail w v n) AllCalm) r (advance-meaning v cs head n w g.held go (g.calm calm))

    forces' : Calm v cs start len w₀ → Forces v cs (trail w₀ v len) (trail w' v n')
    forces' k = forces-trans (g.forces k) (meaning k).forces

  pub going-turn : (go : head < n) (n' : ℕ) (w' : List ℕ) → record { len = n'; clash = false; mem = w' } ≡ advanced v head n w → Going v cs start len w₀ (head + 1) n' w'
  going-turn go n' w' r =
      record {
        held = held' go false n' w' r;
        frame = frame' go false n' w' r;
        onward = omega (arith, g.onward);
        forces = forces' go false n' w' r;
        calm = λ k i h. rw (meaning go false n' w' r k).first ((meaning go false n' w' r k).good refl i h);
      }

  pub going-stop : (go : head < n) (n' : ℕ) (w' : List ℕ) → record { len = n'; clash = true; mem = w' } ≡ advanced v head n w → Calm v cs start len w₀
      → Propagated v cs start len w₀ (head + 1) n' true w'
  going-stop go n' w' r k =
      record {
        held = held' go true n' w' r;
        frame = frame' go true n' w' r;
        forces = forces' go true n' w' r k;
        calm = λ z. absurd (true≢false z);
        void = λ z. (meaning go true n' w' r k).void refl;
        ahead = λ z. omega (arith, g.onward);
      }

  pub going_done : n ≤ head → Calm v cs start len w₀ → Propagated v cs start len w₀ n n false w
  going_done past k =
      let same : head ≡ n = omega (arith, g.held.head-len) in
      let done : Propagated v cs start len w₀ head n false w =
      record {
        held = g.held;
        frame = g.frame;
        forces = g.forces k;
        calm = λ z. (same, g.calm k);
        void = λ z. absurd (false≢true z);
        ahead = λ z. absurd (false≢true z);
      } in
      subst (λ (m : ℕ). Propagated v cs start len w₀ m n false w) same done
