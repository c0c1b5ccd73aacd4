-- Entries one more at a time: the entries so far, and the place of each element among them.
use Prim.Native.Nat.{ℕ, suc, ◌+◌, ◌<◌}
use mathlib.Core.Path.{◌≡◌, refl, sym, ap, ◌∙◌}
use mathlib.Core.Logic.{◌⊎◌, inl, inr}
use mathlib.Core.Bool.{Bool, true, false, cond, ◌||◌, false≢true}
use mathlib.Core.List.{List, [], ◌∷◌, ◌++◌}
use native.Mathlib.Nat.{zero-add, add-zero}
use native.Mathlib.Omega.{arith}
use lib.Dec.{eqb, ltb}
use lib.ListN.{length, get_or, take, set, replicate, length-append, length-set, length-replicate, get_or-replicate, get_or-append, get_or-eq_default}
use lib.Seq.{length-take-le, take-suc-set, get_or_at, get_or-set_same, get_or-set_other}
use Rattle.theory.specs.Lists.{elem}
use Rattle.theory.proofs.Tests.{eqb-true, eqb_same, eqb-false, eqb-ne, ltb-of-<, ltb-of-≤, or_right, lt-or-eq-or-gt}
use Rattle.theory.proofs.Lists.{elem-append, elem-here}
use Rattle.renumbering.specs.Rearrangements.{comes_from}
use Rattle.renumbering.proofs.Places.{place_found}
use Rattle.rearranging.specs.declared.rearrangement.Rearrangement.{Rearrangement}
use Rattle.rearranging.specs.Entries.{rearrangement_in, place_among, EntriesHeld}

-- none at first
pub none-held : EntriesHeld (record { entries = replicate 8 0; places = replicate 8 8; count = 0 })
none-held = record { few = omega arith; room = refl; entry = λ i. zeros i (lt-or-eq-or-gt i 8); placed = refl; place = λ d l. get_or-replicate 8 d 8 0 l }
  where
    zeros : (i : ℕ) → (i < 8) ⊎ ((i ≡ 8) ⊎ (8 < i)) → ◌≡◌ {A = ℕ} 0 (get_or (replicate 8 0) i 0)
    zeros i (inl l) = sym (get_or-replicate 8 i 0 0 l)
    zeros i (inr (inl e)) = sym (get_or-eq_default (replicate 8 0) 0 {n = i} (omega (arith, e, length-replicate {A = ℕ} 8 0)))
    zeros i (inr (inr g)) = sym (get_or-eq_default (replicate 8 0) 0 {n = i} (omega (arith, g, length-replicate {A = ℕ} 8 0)))

-- where an element comes from among entries that others follow
from-append : (p q : List ℕ) (e : ℕ) → comes_from (p ++ q) e ≡ cond (elem e p) (comes_from p e) (length p + comes_from q e)
from-append [] q e = sym (zero-add (comes_from q e))
from-append (d ∷ p) q e = go (eqb e d) (elem e p) (from-append p q e)
  where
    go : (b t : Bool) → comes_from (p ++ q) e ≡ cond t (comes_from p e) (length p + comes_from q e)
        → cond b 0 (suc (comes_from (p ++ q) e)) ≡ cond (b || t) (cond b 0 (suc (comes_from p e))) (suc (length p) + comes_from q e)
    go true t ih = refl
    go false true ih = ap suc ih
    go false false ih = omega (arith, ih)

-- the place of an element that is entered, and that of another
place_here : (p : List ℕ) (d : ℕ) → length p < 8 → place_among (p ++ (d ∷ [])) d ≡ cond (eqb (place_among p d) 8) (length p) (place_among p d)
place_here p d few =
    ap (λ (t : Bool). cond t (comes_from (p ++ (d ∷ [])) d) 8) (elem-append d p (d ∷ []) ∙ or_right (elem d p) (elem d (d ∷ [])) (elem-here d []))
    ∙ from-append p (d ∷ []) d
    ∙ go (elem d p) refl
  where
    go : (t : Bool) → elem d p ≡ t → cond t (comes_from p d) (length p + comes_from (d ∷ []) d) ≡ cond (eqb (cond t (comes_from p d) 8) 8) (length p) (cond t (comes_from p d) 8)
    go true e = sym (ap (λ (b : Bool). cond b (length p) (comes_from p d)) (eqb-false (comes_from p d) 8 (λ z. omega (arith, z, (place_found p d e).0, few))))
    go false e = ap (λ (b : Bool). length p + cond b 0 (suc 0)) (eqb_same d) ∙ add-zero (length p)

place_other : (p : List ℕ) (d e : ℕ) → eqb e d ≡ false → place_among (p ++ (d ∷ [])) e ≡ place_among p e
place_other p d e n =
    ap (λ (t : Bool). cond t (comes_from (p ++ (d ∷ [])) e) 8) (elem-append e p (d ∷ []))
    ∙ ap (λ (k : ℕ). cond (elem e p || elem e (d ∷ [])) k 8) (from-append p (d ∷ []) e)
    ∙ go (elem e p) (eqb e d) n
  where
    go : (t b : Bool) → b ≡ false → cond (t || (b || false)) (cond t (comes_from p e) (length p + cond b 0 (suc 0))) 8 ≡ cond t (comes_from p e) 8
    go true b h = refl
    go false true h = absurd (false≢true (sym h))
    go false false h = refl

module _ (r : Rearrangement) (h : EntriesHeld r) where
  pub length-entries : length (rearrangement_in r) ≡ r.count
  length-entries = length-take-le r.count r.entries (omega (arith, h.few, h.room))

  -- an element that stands among the entries, and one that does not
  pub has-elem : (d : ℕ) → d < 8 → ltb (get_or r.places d 0) 8 ≡ elem d (rearrangement_in r)
  has-elem d l = ap (λ (k : ℕ). ltb k 8) (h.place d l) ∙ go (elem d (rearrangement_in r)) refl
    where
      go : (t : Bool) → elem d (rearrangement_in r) ≡ t → ltb (cond t (comes_from (rearrangement_in r) d) 8) 8 ≡ t
      go true e = ltb-of-< (comes_from (rearrangement_in r) d) 8 (omega (arith, (place_found (rearrangement_in r) d e).0, length-entries, h.few))
      go false e = ltb-of-≤ 8 8 (omega arith)

  pub place_of : (d : ℕ) → d < 8 → elem d (rearrangement_in r) ≡ true → get_or r.places d 0 ≡ comes_from (rearrangement_in r) d
  place_of d l e = h.place d l ∙ ap (λ (t : Bool). cond t (comes_from (rearrangement_in r) d) 8) e

  -- with the element d, whose place is x then
  module _ (d : ℕ) (small : d < 8) (room : r.count < 8) (x : ℕ) (first : x ≡ cond (eqb (get_or r.places d 0) 8) r.count (get_or r.places d 0)) where
    abbrev with_entry : Rearrangement
    with_entry = record { entries = set r.entries r.count d; places = set r.places d x; count = r.count + 1 }

    pub entry-added : rearrangement_in with_entry ≡ rearrangement_in r ++ (d ∷ [])
    entry-added =
        let n : r.count + 1 ≡ suc r.count = omega arith in
        ap (λ (n : ℕ). take n (set r.entries r.count d)) n ∙ take-suc-set r.entries r.count d (omega (arith, room, h.room))

    entry_at : (i : ℕ) → get_or (rearrangement_in with_entry) i 0 ≡ get_or (set r.entries r.count d) i 0
    entry_at i = ap (λ (l : List ℕ). get_or l i 0) entry-added ∙ go (lt-or-eq-or-gt i r.count)
      where
        go : (i < r.count) ⊎ ((i ≡ r.count) ⊎ (r.count < i)) → get_or (rearrangement_in r ++ (d ∷ [])) i 0 ≡ get_or (set r.entries r.count d) i 0
        go (inl l) =
            get_or-append (rearrangement_in r) (d ∷ []) 0 i (omega (arith, l, length-entries)) ∙ h.entry i ∙ sym (get_or-set_other r.entries r.count i d 0 (λ z. omega (arith, z, l)))
        go (inr (inl e)) =
            get_or_at (rearrangement_in r) d [] 0 i (length-entries ∙ sym e)
            ∙ sym (ap (λ (i : ℕ). get_or (set r.entries r.count d) i 0) e ∙ get_or-set_same r.entries r.count d 0 (omega (arith, room, h.room)))
        go (inr (inr g)) =
            get_or-eq_default (rearrangement_in r ++ (d ∷ [])) 0 (omega (arith, g, length-entries, length-append (rearrangement_in r) (d ∷ [])))
            ∙ sym (get_or-eq_default (rearrangement_in r) 0 (omega (arith, g, length-entries)))
            ∙ h.entry i
            ∙ sym (get_or-set_other r.entries r.count i d 0 (λ z. omega (arith, z, g)))

    place_at : (e : ℕ) → e < 8 → get_or with_entry.places e 0 ≡ place_among (rearrangement_in with_entry) e
    place_at e l = go (eqb e d) refl ∙ ap (λ (p : List ℕ). place_among p e) (sym entry-added)
      where
        go : (b : Bool) → eqb e d ≡ b → get_or with_entry.places e 0 ≡ place_among (rearrangement_in r ++ (d ∷ [])) e
        go true t =
            let z : e ≡ d = eqb-true e d t in
            let old : ℕ = place_among (rearrangement_in r) d in
            ap (λ (e : ℕ). get_or with_entry.places e 0) z
            ∙ get_or-set_same r.places d x 0 (omega (arith, small, h.placed))
            ∙ first
            ∙ ap (λ (k : ℕ). cond (eqb k 8) r.count k) (h.place d small)
            ∙ ap (λ (n : ℕ). cond (eqb old 8) n old) (sym length-entries)
            ∙ sym (place_here (rearrangement_in r) d (omega (arith, room, length-entries)))
            ∙ ap (place_among (rearrangement_in r ++ (d ∷ []))) (sym z)
        go false t = get_or-set_other r.places d e x 0 (eqb-ne e d t) ∙ h.place e l ∙ sym (place_other (rearrangement_in r) d e t)

    pub held_with : EntriesHeld with_entry
    held_with =
        record {
          few = omega (arith, room);
          room = length-set r.entries r.count d ∙ h.room;
          entry = entry_at;
          placed = length-set r.places d x ∙ h.placed;
          place = place_at;
        }
