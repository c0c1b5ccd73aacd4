-- A list of bytes, read byte by byte: the entries of the first bytes, and why a list is refused.
use Prim.Native.Nat.{ℕ, suc, ◌+◌, ◌-◌, ◌≤◌, ◌<◌}
use mathlib.Core.Path.{◌≡◌, refl, sym, ap, ◌∙◌}
use mathlib.Core.Bool.{Bool, true, false, ◌&&◌}
use mathlib.Core.List.{List, [], ◌∷◌, ◌++◌, map-append}
use native.Mathlib.Numerals.{add-one}
use native.Mathlib.Omega.{arith}
use lib.Dec.{eqb, ltb}
use lib.ListN.{length, get_or, take, length-map}
use lib.Seq.{length-take-le, take-suc, take_all}
use Rattle.theory.specs.Lists.{all, elem, up_to}
use Rattle.theory.proofs.Tests.{not-true, and_left, and-join, eqb-of-≡, ltb-true, ltb-of-<}
use Rattle.theory.proofs.Lists.{all_append, all_get_d, get_d_map}
use Rattle.renumbering.specs.Rearrangements.{is_rearrangement}
use Rattle.renumbered_cases.specs.RenumberedCases.{entries_of, is_listed}
use Rattle.renumbering.proofs.Rearrangements.{is_rearrangement→}
use Rattle.renumbered_cases.proofs.RenumberedCases.{rearranges}
use Rattle.std.specs.Prelude.{is_some, IfSome}
use Rattle.std.specs.Bool.{then_some}
use Rattle.rearranging.specs.declared.rearrangement.Rearrangement.{Rearrangement}
use Rattle.rearranging.specs.Entries.{rearrangement_in, EntriesHeld}
use Rattle.rearranging.proofs.Entering.{length-entries}

module _ (s : ℕ) (list : List ℕ) where
  -- what is refused
  pub other_length : (length list ≡ s → ⊥) → is_listed s list ≡ false
  other_length n = not-true (is_listed s list) (λ t. n (sym (length-map list (λ b. b - 1)) ∙ (is_rearrangement→ s (entries_of list) (rearranges s list t)).sized))

  module _ (i : ℕ) (l : i < length list) where
    pub byte-zero : get_or list i 0 ≡ 0 → is_listed s list ≡ false
    unfolding is_listed
    byte-zero e =
        not-true (is_listed s list) (λ t.
        omega (arith, e, ltb-true 0 (get_or list i 0) (all_get_d (λ b. ltb 0 b) list i (and_left (all (λ b. ltb 0 b) list) (is_rearrangement s (entries_of list)) t) l)))

    pub too_large : length list ≡ s → s ≤ get_or list i 0 - 1 → is_listed s list ≡ false
    too_large sized e =
        not-true (is_listed s list) (λ t.
        omega (arith, e, sized, l, (is_rearrangement→ s (entries_of list) (rearranges s list t)).below i (omega (arith, l, sized)), get_d_map (λ b. b - 1) list i l))

-- the first i bytes are read
pub record ListedTo (list : List ℕ) (r : Rearrangement) (i : ℕ) : Type 0 where
  pub within : i ≤ length list
  pub held : EntriesHeld r
  pub entries : rearrangement_in r ≡ entries_of (take i list)
  pub positive : all (λ b. ltb 0 b) (take i list) ≡ true

pub none-listed : (list : List ℕ) (r : Rearrangement) → EntriesHeld r → rearrangement_in r ≡ [] → ListedTo list r 0
none-listed list r h e = record { within = omega arith; held = h; entries = e; positive = refl }

module _ (list : List ℕ) (r : Rearrangement) (i : ℕ) (a : ListedTo list r i) where
  pub counted : r.count ≡ i
  counted =
      sym (length-entries r a.held) ∙ ap length a.entries ∙ length-map (take i list) (λ b. b - 1) ∙ length-take-le i list a.within

  pub one-listed : i < length list → (get_or list i 0 ≡ 0 → ⊥) → (r' : Rearrangement) → EntriesHeld r' → rearrangement_in r' ≡ rearrangement_in r ++ ((get_or list i 0 - 1) ∷ []) → ListedTo list r' (i + 1)
  one-listed l n r' h e =
      let b : ℕ = get_or list i 0 in
      let first : List ℕ = take i list in
      let more : take (suc i) list ≡ first ++ (b ∷ []) = take-suc list i 0 l in
      rw add-one
      (record {
        within = l;
        held = h;
        entries = e ∙ ap (λ (p : List ℕ). p ++ ((b - 1) ∷ [])) a.entries ∙ sym (map-append (λ b. b - 1) first (b ∷ [])) ∙ ap entries_of (sym more);
        positive = ap (all (λ b. ltb 0 b)) more
            ∙ all_append (λ b. ltb 0 b) first (b ∷ [])
            ∙ and-join (all (λ b. ltb 0 b) first) (ltb 0 b && true) a.positive (and-join (ltb 0 b) true (ltb-of-< 0 b (omega (arith, n))) refl);
      })

  -- all of them: whether each element is there decides
  module _ (all_read : length list ≤ i) (s : ℕ) (sized : length list ≡ s) where
    pub entries-listed : rearrangement_in r ≡ entries_of list
    entries-listed = a.entries ∙ ap entries_of (take_all i list all_read)

    pub decided : is_listed s list ≡ all (λ d. elem d (rearrangement_in r)) (up_to s)
    unfolding is_listed is_rearrangement
    decided =
        let p : List ℕ = entries_of list in
        let c : Bool = all (λ d. elem d p) (up_to s) in
        ap (λ (t : Bool). t && (eqb (length p) s && c)) (ap (all (λ b. ltb 0 b)) (sym (take_all i list all_read)) ∙ a.positive)
        ∙ ap (λ (t : Bool). t && c) (eqb-of-≡ (length p) s (length-map list (λ b. b - 1) ∙ sized))
        ∙ ap (λ (p : List ℕ). all (λ d. elem d p) (up_to s)) (sym entries-listed)

-- the entries that are answered, if they are
pub some-told : (b : Bool) (r : Rearrangement) → is_some (then_some b r) ≡ b
some-told true r = refl
some-told false r = refl

pub some-held : (list : List ℕ) (b : Bool) (r : Rearrangement) → EntriesHeld r → rearrangement_in r ≡ entries_of list → IfSome (then_some b r) (λ r. EntriesHeld r × (rearrangement_in r ≡ entries_of list))
some-held list true r h e = (h, e)
some-held list false r h e = tt
