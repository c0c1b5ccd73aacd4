-- A table is made part by part: the part with one argument more is that of each element of its first argument, one after the other.
use Prim.Native.Nat.{ℕ, zero, suc, ◌+◌, ◌*◌, ◌^◌, ◌-◌, ◌≤◌, ◌<◌}
use mathlib.Core.Path.{◌≡◌, refl, sym, ap, ◌∙◌, subst}
use mathlib.Core.Bool.{true}
use mathlib.Core.List.{List, [], ◌∷◌, ◌++◌, map, map-map, append-nil}
use native.Mathlib.Nat.{zero-add, add-zero, zero-mul, suc-mul, mul_comm, mul-le-mul, le_refl, pow-zero, pow-suc}
use native.Mathlib.Numerals.{add-one}
use native.Mathlib.Omega.{arith}
use lib.ListN.{length, get_or, set, length-append, length-map}
use Rattle.theory.specs.Lists.{concat_map, elem, up_to}
use Rattle.theory.specs.Vectors.{vectors, rank}
use Rattle.theory.specs.Syntax.{Kind}
use Rattle.theory.proofs.Lists.{concat_map-append, concat_map-cong, map-concat_map, up_from-append}
use Rattle.theory.proofs.Vectors.{all_below-get_d, length-vectors, map-vectors}
use Rattle.renumbering.specs.Rearrangements.{comes_from}
use Rattle.renumbering.specs.Renumbering.{new_value}
use Rattle.renumbering.proofs.Rearrangements.{is_rearrangement→}
use Rattle.renumbering.proofs.Places.{elem_at}
use Rattle.rearranging.specs.declared.rearrangement.Rearrangement.{Rearrangement}
use Rattle.rearranging.specs.declared.standing.Standing.{Standing}
use Rattle.rearranging.specs.Entries.{rearrangement_in}
use Rattle.rearranging.specs.Keeping.{standing_after, kept_value, CandidateTaken}
use Rattle.rearranging.specs.Candidates.{part_of, PartLent}
use Rattle.rearranging.proofs.Entering.{place_of}
use Rattle.rearranging.proofs.Keeping.{none-taken, one-taken, more-taken}

-- one more of what is put together
pub concat-more : {B : Type 0} (f : ℕ → List B) (d : ℕ) → concat_map f (up_to (suc d)) ≡ concat_map f (up_to d) ++ f d
concat-more {B = B} f d =
    let n : suc d ≡ d + 1 = omega arith in
    ap (λ (n : ℕ). concat_map f (up_to n)) n
    ∙ ap (concat_map f) (sym (up_from-append 0 d 1) ∙ ap (λ (k : ℕ). up_to d ++ (k ∷ [])) (zero-add d))
    ∙ concat_map-append f (up_to d) (d ∷ [])
    ∙ ap (λ (l : List B). concat_map f (up_to d) ++ l) (append-nil (f d))

-- the block of the element c, among those of s elements
block_within : (c s m : ℕ) → c < s → c * m + m ≤ m * s
block_within c s m h = let le : suc c * m ≤ s * m = mul-le-mul h (le_refl m) in omega (arith, le, suc-mul c m, mul_comm s m)

module _ (s : ℕ) (k : Kind) (p vs : List ℕ) where
  pub length_part : (n from : ℕ) → length (part_of s k p vs n from) ≡ s ^ n
  length_part n from = length-map (vectors s n) _ ∙ length-vectors s n

  -- no argument: one value
  pub last-part : (from : ℕ) → part_of s k p vs 0 from ≡ new_value k p (get_or vs from 0) ∷ []
  last-part from = ap (λ (c : ℕ). new_value k p (get_or vs c 0) ∷ []) (add-zero from)

  -- the part of the element d in the first argument
  abbrev pub part_at : ℕ → ℕ → ℕ → List ℕ
  part_at n from d = part_of s k p vs n (from + comes_from p d * s ^ n)

  pub parts : (n from : ℕ) → part_of s k p vs (suc n) from ≡ concat_map (part_at n from) (up_to s)
  parts n from =
      let value : List ℕ → ℕ = λ v. new_value k p (get_or vs (from + rank s (map (comes_from p) v)) 0) in
      map-concat_map value (λ d. map (λ v. d ∷ v) (vectors s n)) (up_to s)
      ∙ concat_map-cong (λ d. map value (map (λ v. d ∷ v) (vectors s n))) (part_at n from) (up_to s)
      (λ d. map-map value (λ v. d ∷ v) (vectors s n)
      ∙ map-vectors s n (λ v. value (d ∷ v)) (λ v. new_value k p (get_or vs (from + comes_from p d * s ^ n + rank s (map (comes_from p) v)) 0))
      (λ v l.
      let r : ℕ = rank s (map (comes_from p) v) in
      let m : length (map (comes_from p) v) ≡ n = length-map v (comes_from p) ∙ l in
      let e : from + (comes_from p d * s ^ n + r) ≡ from + comes_from p d * s ^ n + r = omega arith in
      ap (λ (j : ℕ). new_value k p (get_or vs (from + (comes_from p d * s ^ j + r)) 0)) m ∙ ap (λ (c : ℕ). new_value k p (get_or vs c 0)) e))

  length-parts : (n from d : ℕ) → length (concat_map (part_at n from) (up_to d)) ≡ d * s ^ n
  length-parts n from zero = sym (zero-mul (s ^ n))
  length-parts n from (suc d) =
      ap length (concat-more (part_at n from) d)
      ∙ length-append (concat_map (part_at n from) (up_to d)) (part_at n from d)
      ∙ omega (arith, length-parts n from d, length_part n (from + comes_from p d * s ^ n), suc-mul d (s ^ n))

  -- the parts of the first d elements are taken, and the next one goes to place `to`
  pub record PartsTaken (n from at : ℕ) (held held' : List ℕ) (q q' : Standing) (to d : ℕ) : Type 0 where
    pub within : d ≤ s
    pub same : length held' ≡ length held
    pub place : to ≡ at + d * s ^ n
    pub taken : CandidateTaken (concat_map (part_at n from) (up_to d)) at held held' q q'

  pub none-parts : (n from at : ℕ) (held : List ℕ) (q : Standing) → PartsTaken n from at held held q q at 0
  none-parts n from at held q = record { within = omega arith; same = refl; place = omega (arith, zero-mul (s ^ n)); taken = none-taken at held q }

  module _ (n from at : ℕ) (held held' : List ℕ) (q q' : Standing) (to d : ℕ) (a : PartsTaken n from at held held' q q' to d) (room : at + s ^ suc n ≤ length held) where
    pub part_room : d < s → to + s ^ n ≤ length held'
    part_room h = omega (arith, a.place, a.same, room, block_within d s (s ^ n) h, pow-suc s n)

    pub part-taken : d < s → (held'' : List ℕ) (q'' : Standing) → length held'' ≡ length held' → CandidateTaken (part_at n from d) to held' held'' q' q'' → PartsTaken n from at held held'' q q'' (to + s ^ n) (d + 1)
    part-taken h held'' q'' l b =
        let first : List ℕ = concat_map (part_at n from) (up_to d) in
        let m : length first ≡ d * s ^ n = length-parts n from d in
        let part : length (part_at n from d) ≡ s ^ n = length_part n (from + comes_from p d * s ^ n) in
        rw add-one
        (record {
          within = h;
          same = l ∙ a.same;
          place = omega (arith, a.place, suc-mul d (s ^ n));
          taken = subst (λ (us : List ℕ). CandidateTaken us at held held'' q q'') (sym (concat-more (part_at n from) d))
              (more-taken first at held held' q q' a.taken (part_at n from d) to held'' q'' (omega (arith, a.place, m)) b
              (omega (arith, room, m, part, block_within d s (s ^ n) h, pow-suc s n)));
        })

    pub all-parts : s ≤ d → CandidateTaken (part_of s k p vs (suc n) from) at held held' q q'
    all-parts h =
        let e : d ≡ s = omega (arith, h, a.within) in
        subst (λ (us : List ℕ). CandidateTaken us at held held' q q') (ap (λ (d : ℕ). concat_map (part_at n from) (up_to d)) e ∙ sym (parts n from)) a.taken

-- one cell, where no argument is left
pub one_cell : (s : ℕ) (k : Kind) (p vs : List ℕ) (left from at : ℕ) (held held' : List ℕ) (q q' : Standing) → left ≡ 0 → at < length held → (x : ℕ) → x ≡ new_value k p (get_or vs from 0)
    → held' ≡ set held at (kept_value q x (get_or held at 0)) → q' ≡ standing_after q x (get_or held at 0) → CandidateTaken (part_of s k p vs left from) at held held' q q'
one_cell s k p vs left from at held held' q q' none room x e a b =
    let o = one-taken x at held q room in
    let t : CandidateTaken (x ∷ []) at held held' q q' = record { left = a ∙ o.left; onto = b ∙ o.onto } in
    subst (λ (us : List ℕ). CandidateTaken us at held held' q q') (ap (λ (x : ℕ). x ∷ []) e ∙ sym (last-part s k p vs from) ∙ ap (λ (n : ℕ). part_of s k p vs n from) (sym none)) t

-- a part that is lent
module _ (s : ℕ) (r : Rearrangement) (left from at : ℕ) (cells held : List ℕ) (h : PartLent s r left from at cells held) where
  -- where the element d comes from
  pub source_of : (d : ℕ) → d < s → (comes_from (rearrangement_in r) d < s) × (get_or r.places d 0 ≡ comes_from (rearrangement_in r) d)
  source_of d l =
      let a = is_rearrangement→ s (rearrangement_in r) h.rearranges.whole in
      let e : elem d (rearrangement_in r) ≡ true = ap (λ (x : ℕ). elem x (rearrangement_in r)) (sym (a.there d l)) ∙ elem_at (rearrangement_in r) (comes_from (rearrangement_in r) d) (omega (arith, a.from_below d l, a.sized)) in
      (a.from_below d l, place_of r h.rearranges.entries d (omega (arith, l, h.small)) e)

  -- no argument is left
  module _ (none : left ≡ 0) where
    pub source-last : from < length cells
    source-last = omega (arith, h.source, ap (λ (n : ℕ). s ^ n) none ∙ pow-zero s)

    pub target-last : at < length held
    target-last = omega (arith, h.target, ap (λ (n : ℕ). s ^ n) none ∙ pow-zero s)

    pub value-below : get_or cells from 0 < 8
    value-below = all_below-get_d 8 cells from (omega arith) h.values

  -- one is taken from those that are left
  module _ (some : left ≡ 0 → ⊥) where
    one_less : left ≡ suc (left - 1)
    one_less = omega (arith, some)

    pub room-left : at + s ^ suc (left - 1) ≤ length held
    room-left = subst (λ (n : ℕ). at + s ^ n ≤ length held) one_less h.target

    -- the part of the element d
    pub source-within : (d : ℕ) → d < s → from + (comes_from (rearrangement_in r) d * s ^ (left - 1) + s ^ (left - 1)) ≤ length cells
    source-within d l =
        let e : from + s ^ suc (left - 1) ≤ length cells = subst (λ (n : ℕ). from + s ^ n ≤ length cells) one_less h.source in
        omega (arith, e, block_within (comes_from (rearrangement_in r) d) s (s ^ (left - 1)) (source_of d l).0, pow-suc s (left - 1))

    pub source_fits : (d : ℕ) → d < s → (m : ℕ) → m ≡ s ^ (left - 1) → from + (get_or r.places d 0 * m + m) ≤ length cells
    source_fits d l m e =
        subst (λ (m : ℕ). from + (get_or r.places d 0 * m + m) ≤ length cells) (sym e)
        (subst (λ (x : ℕ). from + (x * s ^ (left - 1) + s ^ (left - 1)) ≤ length cells) (sym (source_of d l).1) (source-within d l))

    -- the parts of the first d elements are taken
    module _ (k : Kind) (held' : List ℕ) (q q' : Standing) (to d : ℕ) (a : PartsTaken s k (rearrangement_in r) cells (left - 1) from at held held' q q' to d) where
      pub next-room : d < s → to + s ^ (left - 1) ≤ length held'
      next-room l = part_room s k (rearrangement_in r) cells (left - 1) from at held held' q q' to d a room-left l

      pub all-next : s ≤ d → CandidateTaken (part_of s k (rearrangement_in r) cells left from) at held held' q q'
      all-next l =
          subst (λ (n : ℕ). CandidateTaken (part_of s k (rearrangement_in r) cells n from) at held held' q q') (sym one_less)
          (all-parts s k (rearrangement_in r) cells (left - 1) from at held held' q q' to d a room-left l)

      module _ (l : d < s) (m : ℕ) (e : m ≡ s ^ (left - 1)) where
        -- where the next one comes from
        start : from + get_or r.places d 0 * m ≡ from + comes_from (rearrangement_in r) d * s ^ (left - 1)
        start = ap (λ (x : ℕ). from + x * m) (source_of d l).1 ∙ ap (λ (m : ℕ). from + comes_from (rearrangement_in r) d * m) e

        pub next-lent : PartLent s r (left - 1) (from + get_or r.places d 0 * m) to cells held'
        next-lent =
            record {
              small = h.small;
              arity = omega (arith, h.arity);
              rearranges = h.rearranges;
              values = h.values;
              source = omega (arith, source_fits d l m e, e);
              target = next-room l;
            }

        pub next-taken : (held'' : List ℕ) (q'' : Standing) → length held'' ≡ length held' → CandidateTaken (part_of s k (rearrangement_in r) cells (left - 1) (from + get_or r.places d 0 * m)) to held' held'' q' q''
            → PartsTaken s k (rearrangement_in r) cells (left - 1) from at held held'' q q'' (to + m) (d + 1)
        next-taken held'' q'' n t =
            subst (λ (m : ℕ). PartsTaken s k (rearrangement_in r) cells (left - 1) from at held held'' q q'' (to + m) (d + 1)) (sym e)
            (part-taken s k (rearrangement_in r) cells (left - 1) from at held held' q q' to d a room-left l held'' q'' n
            (subst (λ (c : ℕ). CandidateTaken (part_of s k (rearrangement_in r) cells (left - 1) c) to held' held'' q' q'') start t))
