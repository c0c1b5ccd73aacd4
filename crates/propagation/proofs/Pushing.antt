-- A push keeps what the work area holds, with one entry more.
use mathlib.Core.Path.{◌≡◌, refl, sym, ap, ◌∙◌}
use mathlib.Core.List.{List, ◌∷◌, ◌++◌, map}
use Prim.Native.Nat.{ℕ, ◌+◌, ◌*◌, ◌/◌, ◌%◌, ◌≤◌, ◌<◌}
use native.Mathlib.Numerals.{add-one}
use native.Mathlib.Omega.{arith}
use lib.ListN.{length, get_or, set, take, drop, length-set, length-map, take-append-drop}
use lib.Seq.{get_or-take, get_or-set_same, get_or-set_other, take-set-lt, take-set-le, drop-set-lt, drop_at}
use Rattle.propagation.specs.Clauses.{weight}
use Rattle.propagation.specs.Units.{set_count, pushed}
use Rattle.propagation.proofs.Visited.{room}
use Rattle.propagation.specs.WorkArea.{Frame, trail, values, falses, WorkHeld}
use Rattle.propagation.proofs.Frames.{trail-agree, trail-length, block-frame, front_length}
use Rattle.propagation.proofs.Trails.{values-count}

module _ (v : ℕ) (cs : List (List ℕ)) (head len : ℕ) (w : List ℕ) (held : WorkHeld v cs head len w) (u mark : ℕ) (marked : mark < 2) (named : u / 2 < v) (unset : get_or w (u / 2) 0 ≡ 0) where
  counts : set_count (take v w) ≡ len
  counts = ap set_count held.gives ∙ values-count v (trail w v len) held.fresh ∙ trail-length v w len

  pub free : len < v
  free = omega (arith, counts, room v (u / 2) w (omega (arith, held.room)) named unset)

  abbrev w' : List ℕ
  w' = pushed v len u mark w

  t-half : (2 * u + mark) / 2 ≡ u
  t-half = omega arith

  long : length w' ≡ length w
  long = simp length-set

  -- what lies neither at the variable nor at the entry
  other : (i : ℕ) → (i ≡ u / 2 → ⊥) → (i ≡ v + len → ⊥) → get_or w' i 0 ≡ get_or w i 0
  other i a b =
      get_or-set_other (set w (u / 2) (1 + u % 2)) (v + len) i (2 * u + mark) 0 b
      ∙ get_or-set_other w (u / 2) i (1 + u % 2) 0 a

  pub pushed-frame : Frame v (length cs) w w'
  pushed-frame =
      record {
        long = long;
        bounds = λ i a b. other i (λ e. omega (arith, named)) (λ e. omega (arith, free));
        rest = λ i a. other i (λ e. omega (arith, named)) (λ e. omega (arith, free));
      }

  pub older : (n : ℕ) → n ≤ len → trail w' v n ≡ trail w v n
  older n h = trail-agree v w w' n (λ i k. other (v + i) (λ e. omega (arith, named)) (λ e. omega arith))

  top : get_or w' (v + len) 0 ≡ 2 * u + mark
  top =
      get_or-set_same (set w (u / 2) (1 + u % 2)) (v + len) (2 * u + mark) 0
      (simp length-set (omega (arith, held.room, free)))

  -- the trail has the new entry on top
  pub pushed-trail : trail w' v (len + 1) ≡ (2 * u + mark) ∷ trail w v len
  pushed-trail = rw (add-one, top, older len (omega arith)) refl

  pub pushed-values : take v w' ≡ values v ((2 * u + mark) ∷ trail w v len)
  pushed-values =
      take-set-le v (set w (u / 2) (1 + u % 2)) (v + len) (2 * u + mark) (omega arith)
      ∙ take-set-lt v w (u / 2) (1 + u % 2) named
      ∙ rw (t-half, held.gives) refl

  unset-before : get_or (values v (trail w v len)) (u / 2) 0 ≡ 0
  unset-before = rw held.gives at (get_or-take v w (u / 2) 0 named) ∙ unset

  drop-front : drop (7 * v) w' ≡ drop (7 * v) w
  drop-front =
      drop-set-lt (7 * v) (set w (u / 2) (1 + u % 2)) (v + len) (2 * u + mark) (omega (arith, free))
      ∙ drop-set-lt (7 * v) w (u / 2) (1 + u % 2) (omega (arith, named))

  drop-rest : drop (7 * v + length cs) w' ≡ drop (7 * v + length cs) w
  drop-rest =
      drop-set-lt (7 * v + length cs) (set w (u / 2) (1 + u % 2)) (v + len) (2 * u + mark) (omega (arith, free))
      ∙ drop-set-lt (7 * v + length cs) w (u / 2) (1 + u % 2) (omega (arith, named))

  back : drop (7 * v) w ≡ map (weight (falses (trail w v head))) cs ++ drop (7 * v + length cs) w
  back =
      ap (drop (7 * v)) held.weights
      ∙ drop_at (take (7 * v) w) (map (weight (falses (trail w v head))) cs ++ drop (7 * v + length cs) w) (7 * v)
      (front_length v (length cs) w (map (weight (falses (trail w v head))) cs) (length-map cs (weight (falses (trail w v head)))) held.room)

  pub pushed-held : WorkHeld v cs head (len + 1) w'
  pushed-held =
      record {
        small = held.small;
        clauses = held.clauses;
        room = omega (arith, held.room, long);
        head-len = omega (arith, held.head-len);
        len-v = omega (arith, free);
        gives = pushed-values ∙ ap (values v) (sym pushed-trail);
        fresh = rw pushed-trail (rw t-half named, rw t-half unset-before, held.fresh);
        weights = sym (take-append-drop (7 * v) w') ∙ ap (λ (l : List ℕ). take (7 * v) w' ++ l) (drop-front ∙ back ∙ rw (drop-rest, older head held.head-len) refl);
        blocks = λ x k. block-frame v cs w w' pushed-frame x k (held.blocks x k);
      }
