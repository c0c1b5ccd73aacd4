-- The walk over all rearrangements: the entries that go on from some, one element after the other, and what is held after each.
use Prim.Native.Nat.{ℕ, suc, ◌+◌, ◌-◌, ◌≤◌, ◌<◌}
use mathlib.Core.Path.{◌≡◌, refl, sym, ap, ◌∙◌}
use mathlib.Core.Bool.{Bool, true, false, cond}
use mathlib.Core.List.{List, [], ◌∷◌, ◌++◌, map, map-append}
use native.Mathlib.Numerals.{add-one}
use native.Mathlib.Omega.{arith}
use lib.ListN.{length, length-append}
use Rattle.theory.specs.Lists.{all, concat_map, elem, up_to}
use Rattle.theory.specs.Syntax as theory
use Rattle.theory.proofs.Tests.{and_left}
use Rattle.theory.proofs.Lists.{all-concat_map, all-up_to}
use Rattle.renumbering.specs.Rearrangements.{is_rearrangement, continued}
use Rattle.renumbering.specs.Renumbering.{renumbered}
use Rattle.renumbering.specs.LeastForm.{not_after}
use Rattle.renumbering.proofs.Renumbering.{length-renumbered}
use Rattle.syntax.specs.declared.signature.Signature.{Signature}
use Rattle.syntax.specs.Signatures.{signature_in}
use Rattle.rearranging.specs.declared.rearrangement.Rearrangement.{Rearrangement}
use Rattle.rearranging.specs.declared.standing.Standing.TheVariants.{Same}
use Rattle.rearranging.specs.Entries.{rearrangement_in, EntriesHeld}
use Rattle.rearranging.specs.Keeping.{kept_cells}
use Rattle.rearranging.specs.Candidates.{Rearranges, InterpretationLent}
use Rattle.rearranging.specs.All.{lesser_of, Extendable}
use Rattle.rearranging.proofs.Entering.{length-entries}
use Rattle.rearranging.proofs.Keeping.{kept-lesser}
use Rattle.rearranging.proofs.Parts.{concat-more}

lesser-append : (w : List ℕ) (us vs : List (List ℕ)) → lesser_of w (us ++ vs) ≡ lesser_of (lesser_of w us) vs
lesser-append w [] vs = refl
lesser-append w (u ∷ us) vs = lesser-append (cond (not_after u w) u w) us vs

-- those that go on from the entries p with the element d, where k entries are to follow it
abbrev following : ℕ → ℕ → List ℕ → ℕ → List (List ℕ)
following s k p d = cond (elem d p) [] (continued s k (p ++ (d ∷ [])))

-- the first d elements are gone through; `after` renumbers
pub record Walked (after : List ℕ → List ℕ) (s k : ℕ) (p held held' : List ℕ) (d : ℕ) : Type 0 where
  pub within : d ≤ s
  pub same : length held' ≡ length held
  pub least : held' ≡ lesser_of held (map after (concat_map (following s k p) (up_to d)))

module _ (after : List ℕ → List ℕ) (s k : ℕ) (p : List ℕ) where
  pub none-walked : (held : List ℕ) → Walked after s k p held held 0
  none-walked held = record { within = omega arith; same = refl; least = refl }

  module _ (held held' : List ℕ) (d : ℕ) (a : Walked after s k p held held' d) where
    abbrev before : List (List ℕ)
    before = concat_map (following s k p) (up_to d)

    -- one element more
    step : (held'' : List ℕ) → d < s → length held'' ≡ length held' → held'' ≡ lesser_of held' (map after (following s k p d)) → Walked after s k p held held'' (d + 1)
    step held'' h l e =
        rw add-one
        (record {
          within = h;
          same = l ∙ a.same;
          least = e
              ∙ ap (λ (w : List ℕ). lesser_of w (map after (following s k p d))) a.least
              ∙ sym (lesser-append held (map after before) (map after (following s k p d)))
              ∙ ap (lesser_of held) (sym (map-append after before (following s k p d)) ∙ ap (map after) (sym (concat-more (following s k p) d)));
        })

    -- that stands among the entries
    pub passed_over : d < s → elem d p ≡ true → Walked after s k p held held' (d + 1)
    passed_over h e = step held' h refl (ap (λ (t : Bool). lesser_of held' (map after (cond t [] (continued s k (p ++ (d ∷ [])))))) (sym e))

    -- and another
    pub gone-through : d < s → elem d p ≡ false → (held'' : List ℕ) → length held'' ≡ length held' → held'' ≡ lesser_of held' (map after (continued s k (p ++ (d ∷ [])))) → Walked after s k p held held'' (d + 1)
    gone-through h e held'' l q = step held'' h l (q ∙ ap (λ (t : Bool). lesser_of held' (map after (cond t [] (continued s k (p ++ (d ∷ [])))))) (sym e))

    pub all-walked : s ≤ d → held' ≡ lesser_of held (map after (continued s (suc k) p))
    all-walked h =
        let e : d ≡ s = omega (arith, h, a.within) in
        a.least ∙ ap (λ (d : ℕ). lesser_of held (map after (concat_map (following s k p) (up_to d)))) e

-- the same cells, and others held
pub still-lent : (s : ℕ) (y : Signature) (cells held held' : List ℕ) → InterpretationLent s y cells held → length held' ≡ length held → InterpretationLent s y cells held'
still-lent s y cells held held' c e = record { limited = c.limited; positive = c.positive; small = c.small; values = c.values; counted = c.counted; room = e ∙ c.room }

-- the entries of a rearrangement that is begun
module _ (s : ℕ) (r : Rearrangement) (b : Extendable s r) where
  abbrev p : List ℕ
  p = rearrangement_in r

  -- all entries are there
  module _ (full : s ≤ r.count) where
    nothing_left : s - r.count ≡ 0
    nothing_left = omega (arith, full)

    pub whole-rearrangement : Rearranges s r
    whole-rearrangement =
        record {
          entries = b.entries;
          whole = and_left (is_rearrangement s p) true (ap (λ (n : ℕ). all (is_rearrangement s) (continued s n p)) (sym nothing_left) ∙ b.rearranged);
        }

    pub one-candidate : (y : Signature) (cells held held' : List ℕ) → InterpretationLent s y cells held → (sheet : List ℕ) → held' ≡ kept_cells (renumbered s (signature_in sheet y) p cells) held Same
        → held' ≡ lesser_of held (map (λ q. renumbered s (signature_in sheet y) q cells) (continued s (s - r.count) p))
    one-candidate y cells held held' c sheet e =
        let g : theory.Signature = signature_in sheet y in
        e
        ∙ kept-lesser (renumbered s g p cells) held (length-renumbered s g p cells ∙ sym (c.room ∙ c.counted sheet))
        ∙ ap (λ (n : ℕ). lesser_of held (map (λ q. renumbered s g q cells) (continued s n p))) (sym nothing_left)

  -- an entry is missing
  module _ (more : r.count < s) where
    -- that many follow the next
    abbrev pub rest : ℕ
    rest = s - (r.count + 1)

    next-rest : s - r.count ≡ suc rest
    next-rest = omega (arith, more)

    pub all-continued : (after : List ℕ → List ℕ) (held held' : List ℕ) → held' ≡ lesser_of held (map after (continued s (suc rest) p)) → held' ≡ lesser_of held (map after (continued s (s - r.count) p))
    all-continued after held held' e = e ∙ ap (λ (n : ℕ). lesser_of held (map after (continued s n p))) (sym next-rest)

    -- with the element d as the next entry
    module _ (d : ℕ) (l : d < s) (new : elem d p ≡ false) (r' : Rearrangement) (h : EntriesHeld r') (e : rearrangement_in r' ≡ p ++ (d ∷ [])) where
      pub next-count : r'.count ≡ r.count + 1
      next-count = sym (length-entries r' h) ∙ ap length e ∙ length-append p (d ∷ []) ∙ ap (λ (n : ℕ). n + 1) (length-entries r b.entries)

      left : s - r'.count ≡ rest
      left = ap (λ (n : ℕ). s - n) next-count

      pub begun-on : Extendable s r'
      begun-on =
          let goes : all (is_rearrangement s) (concat_map (following s rest p) (up_to s)) ≡ true = ap (λ (n : ℕ). all (is_rearrangement s) (continued s n p)) (sym next-rest) ∙ b.rearranged in
          let here : all (is_rearrangement s) (following s rest p d) ≡ true =
          all-up_to (λ d. all (is_rearrangement s) (following s rest p d)) s (sym (all-concat_map (is_rearrangement s) (following s rest p) (up_to s)) ∙ goes) d l in
          record {
            entries = h;
            within = omega (arith, next-count, more);
            rearranged = ap (λ (n : ℕ). all (is_rearrangement s) (continued s n (rearrangement_in r'))) left
                ∙ ap (λ (q : List ℕ). all (is_rearrangement s) (continued s rest q)) e
                ∙ ap (λ (t : Bool). all (is_rearrangement s) (cond t [] (continued s rest (p ++ (d ∷ []))))) (sym new)
                ∙ here;
          }

      pub gone-on : (after : List ℕ → List ℕ) (held held' : List ℕ) → held' ≡ lesser_of held (map after (continued s (s - r'.count) (rearrangement_in r'))) → held' ≡ lesser_of held (map after (continued s rest (p ++ (d ∷ []))))
      gone-on after held held' q =
          q ∙ ap (λ (n : ℕ). lesser_of held (map after (continued s n (rearrangement_in r')))) left ∙ ap (λ (q : List ℕ). lesser_of held (map after (continued s rest q))) e
