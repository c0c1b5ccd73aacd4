-- From what a work area holds: its blocks can be lowered, raised and scanned, and the state is kept.
use mathlib.Core.Path.{◌≡◌, refl, sym, ap, ◌∙◌}
use mathlib.Core.Bool.{true, false}
use mathlib.Core.List.{List, [], ◌∷◌, ◌++◌, map}
use Prim.Native.Nat.{ℕ, ◌+◌, ◌-◌, ◌*◌, ◌≤◌, ◌<◌}
use native.Mathlib.Omega.{arith}
use lib.ListN.{length, get_or, take, drop, length-map, get_or-map}
use lib.Seq.{slice, length-slice}
use Rattle.propagation.specs.Weights.{changed, less, Addresses, AtLeast}
use Rattle.theory.specs.Lists.{elem}
use Rattle.propagation.specs.Clauses.{weight, holders, All, Distinct}
use Rattle.propagation.proofs.Weighing.{lower-weights, weight-hit}
use Rattle.propagation.specs.Units.{set_count, Scannable}
use Rattle.propagation.specs.WorkArea.{trail, values, falses, ShortClause, Block, WorkHeld}
use Rattle.propagation.proofs.Frames.{get_d-slice, take-agree, trail-agree, trail-length, block-frame, reweighed, front_length, reweighed-length, reweighed-front, reweighed-weight, reweighed-frame, reweighed-take, reweighed-drop}
use Rattle.propagation.proofs.Trails.{values-count}
use Rattle.propagation.proofs.Lives.{one-names, all-at, all_map, Holding, holder-at, holders-rise}

module _ (v : ℕ) (cs : List (List ℕ)) (head len : ℕ) (w : List ℕ) (held : WorkHeld v cs head len w) where
  abbrev D : List ℕ
  D = falses (trail w v head)

  pub distinct : All Distinct cs
  distinct = all_map (ShortClause v) Distinct (λ c k. k.distinct) cs held.clauses

  -- the weight at a clause's address
  pub weight-at : (c : ℕ) → c < length cs → get_or w (7 * v + c) 0 ≡ weight D (get_or cs c [])
  weight-at c h =
      ap (λ (l : List ℕ). get_or l (7 * v + c) 0) held.weights
      ∙ reweighed-weight v (length cs) w (map (weight D) cs) (length-map cs (weight D)) held.room c h
      ∙ get_or-map (weight D) cs c []

  module _ (x : ℕ) (is : x < 2 * v) where
    abbrev from : ℕ
    from = get_or w (2 * v + 2 * x) 0

    abbrev to : ℕ
    to = get_or w (2 * v + 2 * x + 1) 0

    block : Block v cs w x
    block = held.blocks x is

    in_block : (i : ℕ) → from ≤ i → i < to → (i - from < length (holders (7 * v) x cs)) × (get_or w i 0 ≡ get_or (holders (7 * v) x cs) (i - from) 0)
    in_block i h l =
        let n = length-slice from to w block.within in
        let e : from + (i - from) ≡ i = omega arith in (
          omega (arith, n, ap length block.holds),
          ap (λ (m : ℕ). get_or w m 0) (sym e)
              ∙ sym (get_d-slice from to w (i - from) (omega arith))
              ∙ ap (λ (q : List ℕ). get_or q (i - from) 0) block.holds,
        )

    -- what stands in the block is the address of a clause that has x
    pub entry : (i : ℕ) → from ≤ i → i < to → Holding x cs (7 * v) (get_or w i 0)
    entry i h l =
        let b = in_block i h l in
        let k = holder-at x cs (7 * v) (i - from) b.0 in
        (k.0, k.1, b.1 ∙ k.2, k.3)

    rise : (i j : ℕ) → from ≤ i → i < j → j < to → get_or w i 0 < get_or w j 0
    rise i j h m l =
        let a = in_block i h (omega arith) in
        let b = in_block j (omega arith) l in
        omega (arith, a.1, b.1, holders-rise x cs (7 * v) (i - from) (j - from) (omega arith) b.0)

    at_entry : (i : ℕ) (h : from ≤ i) (l : i < to) → get_or w (get_or w i 0) 0 ≡ weight D (get_or cs (entry i h l).0 [])
    at_entry i h l = ap (λ (q : ℕ). get_or w q 0) (entry i h l).2 ∙ weight-at (entry i h l).0 (entry i h l).1

    pub addresses : (Right : ℕ → Type 0) → ((c : List ℕ) → ShortClause v c → elem x c ≡ true → Right (weight D c)) → Addresses Right from from to w
    addresses Right good =
        record {
          based = omega arith;
          ordered = block.ordered;
          within = block.within;
          below = λ i h l. let k = entry i h l in omega (arith, k.1, k.2, block.after);
          rising = rise;
          right = λ i h l. let k = entry i h l in rw (at_entry i h l) (good (get_or cs k.0 []) (all-at (ShortClause v) cs k.0 held.clauses k.1) k.3);
        }

    -- x can become false
    pub lowerable : elem x D ≡ false → Addresses (AtLeast (64 * x + 1)) from from to w
    lowerable n = addresses (AtLeast (64 * x + 1)) (λ c k h. omega (arith, weight-hit x D c k.distinct n h))

    pub sunk : elem x D ≡ false → changed (less (64 * x + 1)) (slice from to w) w ≡ take (7 * v) w ++ (map (weight (x ∷ D)) cs ++ drop (7 * v + length cs) w)
    sunk n =
        let pre = take (7 * v) w in
        let post = drop (7 * v + length cs) w in
        ap (λ (q : List ℕ). changed (less (64 * x + 1)) q w) block.holds
        ∙ ap (λ (l : List ℕ). changed (less (64 * x + 1)) (holders (7 * v) x cs) l) held.weights
        ∙ ap (λ (a : ℕ). changed (less (64 * x + 1)) (holders a x cs) (pre ++ (map (weight D) cs ++ post))) (sym (front_length v (length cs) w (map (weight D) cs) (length-map cs (weight D)) held.room))
        ∙ lower-weights x D n cs distinct pre post

    -- a block can be looked at
    pub scannable : Scannable v from from to len w
    scannable =
        record {
          based = omega arith;
          ordered = block.ordered;
          within = block.within;
          variables = omega (arith, held.small);
          after = λ i h l. let k = entry i h l in omega (arith, k.2);
          below = λ i h l. let k = entry i h l in omega (arith, k.1, k.2, block.after);
          names = λ i h l. let k = entry i h l in rw (at_entry i h l) (one-names v D (get_or cs k.0 []) (all-at (ShortClause v) cs k.0 held.clauses k.1));
          lists = omega (arith, block.after);
          counts = ap set_count held.gives ∙ values-count v (trail w v len) held.fresh ∙ trail-length v w len;
        }

  -- the same trail, with the weights after another number of its entries
  pub reheld : (head' : ℕ) → head' ≤ len → WorkHeld v cs head' len (take (7 * v) w ++ (map (weight (falses (trail w v head'))) cs ++ drop (7 * v + length cs) w))
  reheld head' h =
      let m = length cs in
      let ms = map (weight (falses (trail w v head'))) cs in
      let lm = length-map cs (weight (falses (trail w v head'))) in
      let w' = reweighed v m w ms lm held.room in
      let long = reweighed-length v m w ms lm held.room in
      let front = reweighed-front v m w ms lm held.room in
      let same : (n : ℕ) → n ≤ len → trail w' v n ≡ trail w v n = λ n l. trail-agree v w w' n (λ i k. front (v + i) (omega (arith, held.len-v))) in
      record {
        small = held.small;
        clauses = held.clauses;
        room = omega (arith, held.room, long);
        head-len = h;
        len-v = held.len-v;
        gives = take-agree v w w' long (omega (arith, held.room)) (λ i k. front i (omega arith)) ∙ held.gives ∙ ap (values v) (sym (same len (omega arith)));
        fresh = rw (same len (omega arith)) held.fresh;
        weights = rw (reweighed-take v m w ms lm held.room, reweighed-drop v m w ms lm held.room, same head' h) refl;
        blocks = λ x k. block-frame v cs w w' (reweighed-frame v m w ms lm held.room) x k (held.blocks x k);
      }
