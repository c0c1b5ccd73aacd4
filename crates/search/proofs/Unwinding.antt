-- Taking an entry off the trail: its literal is no longer false in its clauses, and its variable is unset.
use mathlib.Core.Path.{◌≡◌, refl, sym, ap, ◌∙◌, subst⁻¹}
use mathlib.Core.Bool.{false}
use mathlib.Core.List.{List, ◌∷◌, ◌++◌, map}
use Prim.Native.Nat.{ℕ, suc, ◌+◌, ◌*◌, ◌/◌, ◌%◌, ◌≤◌, ◌<◌}
use native.Mathlib.Numerals.{add-one}
use native.Mathlib.Omega.{arith}
use lib.ListN.{length, get_or, set, take, drop, length-set, length-map, take-append-drop}
use lib.Seq.{get_or-set_other, take-set-lt, drop-set-lt, drop_at, set-set, set-get_or}
use Rattle.propagation.specs.Weights.{changed, more, Addresses, RoomFor}
use Rattle.theory.specs.Lists.{elem}
use Rattle.propagation.specs.Clauses.{weight, holders}
use Rattle.propagation.proofs.Weighing.{raise-weights, weight-hit}
use Rattle.propagation.specs.WorkArea.{trail, values, Fresh, falses, WorkHeld, Frame}
use Rattle.propagation.specs.Advance.{sinking}
use Rattle.propagation.proofs.Frames.{trail-agree, block-frame, front_length, reweighed-front, reweighed-frame}
use Rattle.propagation.proofs.Lives.{weight-small}
use Rattle.propagation.proofs.Trails.{negated-half, fresh-down, fresh-new}
use Rattle.propagation.proofs.Holds.{distinct, addresses, reheld}
use Rattle.search.specs.Search.{floated}

module _ (v : ℕ) (cs : List (List ℕ)) (n len : ℕ) (w : List ℕ) (held : WorkHeld v cs (n + 1) len w) where
  abbrev x : ℕ
  x = sinking v n w

  trail-next : trail w v (n + 1) ≡ get_or w (v + n) 0 ∷ trail w v n
  trail-next = ap (trail w v) (add-one n)

  fresh_at : Fresh v (get_or w (v + n) 0 ∷ trail w v n)
  fresh_at = fresh-down v w (suc n) len (omega (arith, held.head-len)) held.fresh

  pub literal : x < 2 * v
  literal = omega (arith, negated-half (get_or w (v + n) 0 / 2), fresh_at.0)

  not_yet : elem x (falses (trail w v n)) ≡ false
  not_yet = fresh-new v (get_or w (v + n) 0) (trail w v n) fresh_at

  falses-next : falses (trail w v (n + 1)) ≡ x ∷ falses (trail w v n)
  falses-next = ap falses trail-next

  pub raisable : Addresses (RoomFor (64 * x + 1)) (get_or w (2 * v + 2 * x) 0) (get_or w (2 * v + 2 * x) 0) (get_or w (2 * v + 2 * x + 1) 0) w
  raisable =
      addresses v cs (n + 1) len w held x literal (RoomFor (64 * x + 1))
      (λ c k h.
      let e = ap (λ (D : List ℕ). weight D c) falses-next in
      omega (arith, e, weight-hit x (falses (trail w v n)) c k.distinct not_yet h, weight-small v (falses (trail w v n)) c held.small k.within, k.short))

  floated-is : floated v n w ≡ take (7 * v) w ++ (map (weight (falses (trail w v n))) cs ++ drop (7 * v + length cs) w)
  floated-is =
      let pre = take (7 * v) w in
      let post = drop (7 * v + length cs) w in
      let f = more (64 * x + 1) in
      ap (λ (q : List ℕ). changed f q w) (held.blocks x literal).holds
      ∙ ap (λ (l : List ℕ). changed f (holders (7 * v) x cs) l) held.weights
      ∙ ap (λ (D : List ℕ). changed f (holders (7 * v) x cs) (pre ++ (map (weight D) cs ++ post))) falses-next
      ∙ ap (λ (a : ℕ). changed f (holders a x cs) (pre ++ (map (weight (x ∷ falses (trail w v n))) cs ++ post)))
      (sym (front_length v (length cs) w (map (weight (falses (trail w v n))) cs) (length-map cs (weight (falses (trail w v n)))) held.room))
      ∙ raise-weights x (falses (trail w v n)) not_yet cs (distinct v cs (n + 1) len w held) pre post

  pub floated-front : (i : ℕ) → i < 7 * v → get_or (floated v n w) i 0 ≡ get_or w i 0
  floated-front i h =
      ap (λ (l : List ℕ). get_or l i 0) floated-is
      ∙ reweighed-front v (length cs) w (map (weight (falses (trail w v n))) cs) (length-map cs (weight (falses (trail w v n)))) held.room i h

  pub floated-frame : Frame v (length cs) w (floated v n w)
  floated-frame =
      subst⁻¹ (λ (l : List ℕ). Frame v (length cs) w l) floated-is
      (reweighed-frame v (length cs) w (map (weight (falses (trail w v n))) cs) (length-map cs (weight (falses (trail w v n)))) held.room)

  pub floated-held : WorkHeld v cs n len (floated v n w)
  floated-held = subst⁻¹ (λ (l : List ℕ). WorkHeld v cs n len l) floated-is (reheld v cs (n + 1) len w held n (omega (arith, held.head-len)))

-- the newest entry's variable is unset
module _ (v : ℕ) (cs : List (List ℕ)) (head n : ℕ) (w : List ℕ) (held : WorkHeld v cs head (n + 1) w) (under : head ≤ n) where
  abbrev k : ℕ
  k = get_or w (v + n) 0 / 2 / 2

  abbrev w' : List ℕ
  w' = set w k 0

  top : trail w v (n + 1) ≡ get_or w (v + n) 0 ∷ trail w v n
  top = ap (trail w v) (add-one n)

  fresh-top : Fresh v (get_or w (v + n) 0 ∷ trail w v n)
  fresh-top = rw top at held.fresh

  pub variable-at : k < v
  variable-at = fresh-top.0

  other : (i : ℕ) → v ≤ i → get_or w' i 0 ≡ get_or w i 0
  other i h = get_or-set_other w k i 0 0 (λ e. omega (arith, variable-at, e))

  long : length w' ≡ length w
  long = length-set w k 0

  pub same-trail : (m : ℕ) → trail w' v m ≡ trail w v m
  same-trail m = trail-agree v w w' m (λ i h. other (v + i) (omega arith))

  drop-same : (m : ℕ) → v ≤ m → drop m w' ≡ drop m w
  drop-same m h = drop-set-lt m w k 0 (omega (arith, variable-at))

  back : drop (7 * v) w ≡ map (weight (falses (trail w v head))) cs ++ drop (7 * v + length cs) w
  back =
      ap (drop (7 * v)) held.weights
      ∙ drop_at (take (7 * v) w) (map (weight (falses (trail w v head))) cs ++ drop (7 * v + length cs) w) (7 * v)
      (front_length v (length cs) w (map (weight (falses (trail w v head))) cs) (length-map cs (weight (falses (trail w v head)))) held.room)

  gives' : take v w' ≡ values v (trail w v n)
  gives' =
      take-set-lt v w k 0 variable-at
      ∙ ap (λ (l : List ℕ). set l k 0) (held.gives ∙ ap (values v) top)
      ∙ set-set (values v (trail w v n)) k (1 + get_or w (v + n) 0 / 2 % 2) 0
      ∙ ap (λ (z : ℕ). set (values v (trail w v n)) k z) (sym fresh-top.1)
      ∙ set-get_or (values v (trail w v n)) k 0

  pub unset-frame : Frame v (length cs) w w'
  unset-frame = record { long = long; bounds = λ i a b. other i (omega arith); rest = λ i a. other i (omega arith) }

  pub unset-held : WorkHeld v cs head n w'
  unset-held =
      record {
        small = held.small;
        clauses = held.clauses;
        room = omega (arith, held.room, long);
        head-len = under;
        len-v = omega (arith, held.len-v);
        gives = gives' ∙ ap (values v) (sym (same-trail n));
        fresh = rw (same-trail n) fresh-top.2;
        weights = sym (take-append-drop (7 * v) w') ∙ ap (λ (l : List ℕ). take (7 * v) w' ++ l) (drop-same (7 * v) (omega arith) ∙ back ∙ rw (drop-same (7 * v + length cs) (omega arith), same-trail head) refl);
        blocks = λ y h. block-frame v cs w w' unset-frame y h (held.blocks y h);
      }
