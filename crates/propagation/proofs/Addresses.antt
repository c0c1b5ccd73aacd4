-- One turn of a walk over addresses: the number at the first address is stored anew, and what stands at the rest is as it was.
use mathlib.Core.Path.{◌≡◌}
use mathlib.Core.List.{List, ◌∷◌}
use Prim.Native.Nat.{ℕ, ◌+◌, ◌≤◌, ◌<◌}
use native.Mathlib.Numerals.{add-one}
use native.Mathlib.Omega.{arith}
use lib.ListN.{length, get_or, set, take, length-set}
use lib.Seq.{slice, slice-cons, slice_empty, drop-set-lt, take-set-lt, get_or-set_other}
use Rattle.propagation.specs.Weights.{Addresses, changed}

module _ (Right : ℕ → Type 0) (base k to : ℕ) (w : List ℕ) (a : Addresses Right base k to w) (go : k < to) where
  first_below : get_or w k 0 < base
  first_below = a.below k (omega arith) go

  pub first-within : get_or w k 0 < length w
  first-within = omega (arith, first_below, a.based, a.within)

  -- a store at the first address changes nothing from k on
  kept : (v i : ℕ) → k ≤ i → get_or (set w (get_or w k 0) v) i 0 ≡ get_or w i 0
  kept v i h = get_or-set_other w (get_or w k 0) i v 0 (λ e. omega (arith, first_below, a.based))

  -- the number at a later address is as it was
  later : (v i : ℕ) → k + 1 ≤ i → i < to → get_or (set w (get_or w k 0) v) (get_or (set w (get_or w k 0) v) i 0) 0 ≡ get_or w (get_or w i 0) 0
  later v i h l =
      rw (kept v i (omega arith))
      (get_or-set_other w (get_or w k 0) (get_or w i 0) v 0
      (λ e. omega (arith, a.rising k i (omega arith) (omega arith) l)))

  pub addresses-step : (v : ℕ) → Addresses Right base (k + 1) to (set w (get_or w k 0) v)
  addresses-step v =
      record {
        based = omega (arith, a.based);
        ordered = omega arith;
        within = simp length-set a.within;
        below = λ i h l. rw (kept v i (omega arith)) (a.below i (omega arith) l);
        rising = λ i j h m l. rw (kept v i (omega arith), kept v j (omega arith)) (a.rising i j (omega arith) m l);
        right = λ i h l. rw (later v i h l) (a.right i (omega arith) l);
      }

  pub slice-step : (v : ℕ) → slice (k + 1) to (set w (get_or w k 0) v) ≡ slice (k + 1) to w
  slice-step v =
      rw (take-set-lt to w (get_or w k 0) v (omega (arith, first_below, a.based)))
      (drop-set-lt (k + 1) (take to w) (get_or w k 0) v (omega (arith, first_below, a.based)))

  pub slice_first : slice k to w ≡ get_or w k 0 ∷ slice (k + 1) to w
  slice_first = rw add-one (slice-cons k to w 0 go a.within)

-- what holds at the head of a loop that changes each number as a closure does: w is now, w₀ as it began
abbrev pub Changing : (ℕ → Type 0) → (ℕ → ℕ → Type 0) → ℕ → ℕ → List ℕ → List ℕ → ℕ → Type 0
Changing Pre Post from to w₀ w k =
    Addresses Pre from k to w × ((f : ℕ → ℕ) → ((z r : ℕ) → Post z r → r ≡ f z) → changed f (slice k to w) w ≡ changed f (slice from to w₀) w₀)

module _ (Pre : ℕ → Type 0) (Post : ℕ → ℕ → Type 0) (from to : ℕ) (w₀ w : List ℕ) (k : ℕ) (now : Changing Pre Post from to w₀ w k) where
  pub changing-turn : (r : ℕ) → k < to → Post (get_or w (get_or w k 0) 0) r → Changing Pre Post from to w₀ (set w (get_or w k 0) r) (k + 1)
  changing-turn r go post =
      let (a, e) = now in (
        addresses-step Pre from k to w a go r,
        λ f is. rw (slice-step Pre from k to w a go r, is _ _ post) (rw (slice_first Pre from k to w a go) at (e f is)),
      )

  pub changing-done : to ≤ k → (f : ℕ → ℕ) → ((z r : ℕ) → Post z r → r ≡ f z) → w ≡ changed f (slice from to w₀) w₀
  changing-done past f is =
      let (a, e) = now in
      let same : k ≡ to = omega (arith, a.ordered) in
      rw (same, slice_empty to w) at (e f is)
