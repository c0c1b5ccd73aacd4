-- Valuations, cut cell by cell: the bytes of a cell give its value, and interpretations are one to one with the valuations in which every cell has one.
use Prim.Native.Nat.{ℕ, zero, suc, ◌+◌, ◌≤◌, ◌<◌}
use mathlib.Core.Path.{◌≡◌, refl, sym, ap, ap₂, ◌∙◌}
use mathlib.Core.Bool.{Bool, true, false≢true}
use mathlib.Core.List.{List, [], ◌∷◌, ◌++◌, map}
use native.Mathlib.Omega.{arith}
use lib.Dec.{eqb, ltb}
use lib.ListN.{length, get_or, take, drop, length-append, length-drop, take-append-drop}
use lib.Seq.{get_or-take, get_or-drop, drop-drop, length-take-le, take_at, drop_at}
use Rattle.theory.specs.Lists.{sum}
use Rattle.theory.specs.Syntax.{Kind, function, predicate, Signature}
use Rattle.theory.specs.Cells.{cell_kinds, value_count, in_range, is_interpretation}
use Rattle.theory.specs.Propositional.{width, prop_count}
use Rattle.theory.specs.Valuation.{says, is_valuation, has_value, first_one, value_of, all_have_values, is_functional, values_of, read_back, one_hot, bits_of, bits_of_cells, valuation_of}
use Rattle.theory.proofs.Tests.{eqb-true, eqb-of-≡, ltb-true, ltb-of-<, and_left, and_right, and-join}
use Rattle.theory.proofs.Lists.{all_append, all_take, all_drop}
use Rattle.theory.proofs.Numbering.{offset, widths-total}
use Rattle.theory.proofs.OneHot.{are_bits, length-one_hot, one_hot-at, one_hot-are_bits, one_hot-has_value, first_one-one_hot, has_value→one_hot}

module _ (s : ℕ) where
  -- the bytes of cell c, for cells of these kinds
  abbrev pub chunk : List Kind → ℕ → List ℕ → List ℕ
  chunk ks c σ = take (width s (get_or ks c predicate)) (drop (offset s ks c) σ)

  chunk-suc : (k : Kind) (ks : List Kind) (c : ℕ) (σ : List ℕ) → chunk (k ∷ ks) (suc c) σ ≡ chunk ks c (drop (width s k) σ)
  chunk-suc k ks c σ = ap (take (width s (get_or ks c predicate))) (sym (drop-drop (offset s ks c) (width s k) σ))

  offset-within : (ks : List Kind) (c : ℕ) → c < length ks → offset s ks c + width s (get_or ks c predicate) ≤ sum (map (width s) ks)
  offset-within [] c h = absurd (omega arith)
  offset-within (k ∷ ks) zero h = omega arith
  offset-within (k ∷ ks) (suc c) h = omega (arith, offset-within ks c (omega arith))

  pub length-chunk : (ks : List Kind) (c : ℕ) (σ : List ℕ) → length σ ≡ sum (map (width s) ks) → c < length ks → length (chunk ks c σ) ≡ width s (get_or ks c predicate)
  length-chunk ks c σ e h =
      let o : ℕ = offset s ks c in
      length-take-le (width s (get_or ks c predicate)) (drop o σ) (omega (arith, length-drop o σ, offset-within ks c h))

  pub chunk-are_bits : (ks : List Kind) (c : ℕ) (σ : List ℕ) → are_bits σ ≡ true → are_bits (chunk ks c σ) ≡ true
  chunk-are_bits ks c σ h =
      all_take (λ b. ltb b 2) (width s (get_or ks c predicate)) (drop (offset s ks c) σ) (all_drop (λ b. ltb b 2) (offset s ks c) σ h)

  -- variable d of a cell is byte d of its bytes
  pub says-chunk : (ks : List Kind) (c d : ℕ) (σ : List ℕ) → d < width s (get_or ks c predicate) → says σ (1 + (offset s ks c + d)) ≡ eqb (get_or (chunk ks c σ) d 0) 1
  says-chunk ks c d σ h =
      let o : ℕ = offset s ks c in
      let e : 1 + (o + d) ≡ suc (o + d) = omega arith in
      ap (says σ) e ∙ ap (λ (b : ℕ). eqb b 1) (sym (get_or-take (width s (get_or ks c predicate)) (drop o σ) d 0 h ∙ get_or-drop o σ d 0))

  pub value-at : (ks : List Kind) (c : ℕ) (σ : List ℕ) → c < length ks → get_or (values_of s ks σ) c 0 ≡ value_of (get_or ks c predicate) (chunk ks c σ)
  value-at [] c σ h = absurd (omega arith)
  value-at (k ∷ ks) zero σ h = refl
  value-at (k ∷ ks) (suc c) σ h = value-at ks c (drop (width s k) σ) (omega arith) ∙ ap (value_of (get_or ks c predicate)) (sym (chunk-suc k ks c σ))

  -- every cell has a value exactly if each has
  pub each-has-value : (ks : List Kind) (σ : List ℕ) → all_have_values s ks σ ≡ true → (c : ℕ) → c < length ks → has_value (get_or ks c predicate) (chunk ks c σ) ≡ true
  each-has-value [] σ h c lt = absurd (omega arith)
  each-has-value (k ∷ ks) σ h zero lt = and_left (has_value k (take (width s k) σ)) (all_have_values s ks (drop (width s k) σ)) h
  each-has-value (k ∷ ks) σ h (suc c) lt =
      ap (has_value (get_or ks c predicate)) (chunk-suc k ks c σ)
      ∙ each-has-value ks (drop (width s k) σ) (and_right (has_value k (take (width s k) σ)) (all_have_values s ks (drop (width s k) σ)) h) c (omega arith)

  pub all-have-values : (ks : List Kind) (σ : List ℕ) → ((c : ℕ) → c < length ks → has_value (get_or ks c predicate) (chunk ks c σ) ≡ true) → all_have_values s ks σ ≡ true
  all-have-values [] σ h = refl
  all-have-values (k ∷ ks) σ h =
      and-join (has_value k (take (width s k) σ)) (all_have_values s ks (drop (width s k) σ)) (h 0 (omega arith))
      (all-have-values ks (drop (width s k) σ) (λ c lt. ap (has_value (get_or ks c predicate)) (sym (chunk-suc k ks c σ)) ∙ h (suc c) (omega arith)))

  pub length-bits_of : (k : Kind) (d : ℕ) → length (bits_of s k d) ≡ width s k
  length-bits_of function d = length-one_hot s d
  length-bits_of predicate d = refl

  bits_of-are_bits : (k : Kind) (d : ℕ) → d < value_count s k → are_bits (bits_of s k d) ≡ true
  bits_of-are_bits function d h = one_hot-are_bits s d
  bits_of-are_bits predicate d h = and-join (ltb d 2) true (ltb-of-< d 2 h) refl

  bits_of-has_value : (k : Kind) (d : ℕ) → d < value_count s k → has_value k (bits_of s k d) ≡ true
  bits_of-has_value function d h = one_hot-has_value s d h
  bits_of-has_value predicate d h = refl

  value_of-bits_of : (k : Kind) (d : ℕ) → d < value_count s k → value_of k (bits_of s k d) ≡ d
  value_of-bits_of function d h = first_one-one_hot s d h
  value_of-bits_of predicate d h = refl

  bits_of-value_of : (k : Kind) (bs : List ℕ) → are_bits bs ≡ true → length bs ≡ width s k → has_value k bs ≡ true → bits_of s k (value_of k bs) ≡ bs
  bits_of-value_of function bs h e v = ap (λ (n : ℕ). one_hot n (first_one bs)) (sym e) ∙ sym (has_value→one_hot bs h v).0
  bits_of-value_of predicate [] h e v = absurd (omega arith)
  bits_of-value_of predicate (b ∷ []) h e v = refl
  bits_of-value_of predicate (b ∷ c ∷ bs) h e v = absurd (omega arith)

  value_of-below : (k : Kind) (bs : List ℕ) → are_bits bs ≡ true → length bs ≡ width s k → has_value k bs ≡ true → value_of k bs < value_count s k
  value_of-below function bs h e v = omega (arith, (has_value→one_hot bs h v).1)
  value_of-below predicate [] h e v = absurd (omega arith)
  value_of-below predicate (b ∷ bs) h e v = ltb-true b 2 (and_left (ltb b 2) (are_bits bs) h)

  -- a valuation of cells of these kinds, in which every cell has a value
  pub record Functional (ks : List Kind) (σ : List ℕ) : Type 0 where
    pub sized : length σ ≡ sum (map (width s) ks)
    pub bits : are_bits σ ≡ true
    pub values : all_have_values s ks σ ≡ true

  module _ (k : Kind) (ks : List Kind) (σ : List ℕ) (f : Functional (k ∷ ks) σ) where
    abbrev first : List ℕ
    first = take (width s k) σ

    abbrev rest : List ℕ
    rest = drop (width s k) σ

    first-bits : are_bits first ≡ true
    first-bits = all_take (λ b. ltb b 2) (width s k) σ f.bits

    first-sized : length first ≡ width s k
    first-sized = length-take-le (width s k) σ (omega (arith, f.sized))

    first-value : has_value k first ≡ true
    first-value = and_left (has_value k first) (all_have_values s ks rest) f.values

    rest-functional : Functional ks rest
    rest-functional =
        record {
          sized = length-drop (width s k) σ ∙ omega (arith, f.sized);
          bits = all_drop (λ b. ltb b 2) (width s k) σ f.bits;
          values = and_right (has_value k first) (all_have_values s ks rest) f.values;
        }

  -- the values read from such a valuation are in range
  pub values_of-in_range : (ks : List Kind) (σ : List ℕ) → Functional ks σ → in_range s ks (values_of s ks σ) ≡ true
  values_of-in_range [] σ f = refl
  values_of-in_range (k ∷ ks) σ f =
      let d : ℕ = value_of k (first k ks σ f) in
      let lt : d < value_count s k = value_of-below k (first k ks σ f) (first-bits k ks σ f) (first-sized k ks σ f) (first-value k ks σ f) in
      and-join (ltb d (value_count s k)) (in_range s ks (values_of s ks (rest k ks σ f))) (ltb-of-< d (value_count s k) lt)
      (values_of-in_range ks (rest k ks σ f) (rest-functional k ks σ f))

  pub bits_of_cells-values_of : (ks : List Kind) (σ : List ℕ) → Functional ks σ → bits_of_cells s ks (values_of s ks σ) ≡ σ
  bits_of_cells-values_of [] [] f = refl
  bits_of_cells-values_of [] (b ∷ σ) f = absurd (omega (arith, f.sized))
  bits_of_cells-values_of (k ∷ ks) σ f =
      ap₂ (λ (a b : List ℕ). a ++ b) (bits_of-value_of k (first k ks σ f) (first-bits k ks σ f) (first-sized k ks σ f) (first-value k ks σ f))
      (bits_of_cells-values_of ks (rest k ks σ f) (rest-functional k ks σ f))
      ∙ take-append-drop (width s k) σ

  pub values_of-bits_of_cells : (ks : List Kind) (vs : List ℕ) → in_range s ks vs ≡ true → Functional ks (bits_of_cells s ks vs) × (values_of s ks (bits_of_cells s ks vs) ≡ vs)
  values_of-bits_of_cells [] [] h = (record { sized = refl; bits = refl; values = refl }, refl)
  values_of-bits_of_cells [] (d ∷ ds) h = absurd (false≢true h)
  values_of-bits_of_cells (k ∷ ks) [] h = absurd (false≢true h)
  values_of-bits_of_cells (k ∷ ks) (d ∷ ds) h =
      let lt : d < value_count s k = ltb-true d (value_count s k) (and_left (ltb d (value_count s k)) (in_range s ks ds) h) in
      let r = values_of-bits_of_cells ks ds (and_right (ltb d (value_count s k)) (in_range s ks ds) h) in
      let here : List ℕ = bits_of s k d in
      let later : List ℕ = bits_of_cells s ks ds in
      let front : take (width s k) (here ++ later) ≡ here = take_at here later (width s k) (length-bits_of k d) in
      let back : drop (width s k) (here ++ later) ≡ later = drop_at here later (width s k) (length-bits_of k d) in (
        record {
          sized = length-append here later ∙ omega (arith, length-bits_of k d, r.0.sized);
          bits = all_append (λ b. ltb b 2) here later ∙ and-join (are_bits here) (are_bits later) (bits_of-are_bits k d lt) r.0.bits;
          values = and-join (has_value k (take (width s k) (here ++ later))) (all_have_values s ks (drop (width s k) (here ++ later)))
              (ap (has_value k) front ∙ bits_of-has_value k d lt) (ap (all_have_values s ks) back ∙ r.0.values);
        },
        ap₂ (λ (v : ℕ) (l : List ℕ). v ∷ l) (ap (value_of k) front ∙ value_of-bits_of k d lt) (ap (values_of s ks) back ∙ r.1),
      )

  -- what a valuation says of a cell is what its value is
  module _ (ks : List Kind) (σ : List ℕ) (f : Functional ks σ) (c : ℕ) (h : c < length ks) where
    pub says-result : get_or ks c predicate ≡ function → (d : ℕ) → d < s → says σ (1 + (offset s ks c + d)) ≡ eqb (get_or (values_of s ks σ) c 0) d
    says-result e d lt =
        let bs : List ℕ = chunk ks c σ in
        let w : length bs ≡ s = length-chunk ks c σ f.sized h ∙ ap (width s) e in
        let v : has_value function bs ≡ true = ap (λ (k : Kind). has_value k bs) (sym e) ∙ each-has-value ks σ f.values c h in
        let value : get_or (values_of s ks σ) c 0 ≡ first_one bs = value-at ks c σ h ∙ ap (λ (k : Kind). value_of k bs) e in
        says-chunk ks c d σ (omega (arith, ap (width s) e))
        ∙ ap (λ (l : List ℕ). eqb (get_or l d 0) 1) (has_value→one_hot bs (chunk-are_bits ks c σ f.bits) v).0
        ∙ one_hot-at (length bs) (first_one bs) d (omega arith)
        ∙ ap (λ (n : ℕ). eqb n d) (sym value)

    pub says_holds : get_or ks c predicate ≡ predicate → says σ (1 + (offset s ks c + 0)) ≡ eqb (get_or (values_of s ks σ) c 0) 1
    says_holds e =
        says-chunk ks c 0 σ (omega (arith, ap (width s) e)) ∙ ap (λ (n : ℕ). eqb n 1) (sym (value-at ks c σ h ∙ ap (λ (k : Kind). value_of k (chunk ks c σ)) e))

-- the cells of a signature
module _ (s : ℕ) (g : Signature) where
  pub is_valuation→ : (σ : List ℕ) → is_valuation s g σ ≡ true → (length σ ≡ sum (map (width s) (cell_kinds s g))) × (are_bits σ ≡ true)
  unfolding is_valuation
  is_valuation→ σ h =
      let a : Bool = eqb (length σ) (prop_count s g) in
      (eqb-true (length σ) (prop_count s g) (and_left a (are_bits σ) h) ∙ sym (widths-total s g), and_right a (are_bits σ) h)

  pub is_valuation← : (σ : List ℕ) → length σ ≡ sum (map (width s) (cell_kinds s g)) → are_bits σ ≡ true → is_valuation s g σ ≡ true
  unfolding is_valuation
  is_valuation← σ e h = and-join (eqb (length σ) (prop_count s g)) (are_bits σ) (eqb-of-≡ (length σ) (prop_count s g) (e ∙ widths-total s g)) h

  pub functional : (σ : List ℕ) → is_valuation s g σ ≡ true → is_functional s g σ ≡ true → Functional s (cell_kinds s g) σ
  unfolding is_functional
  functional σ h v = let r = is_valuation→ σ h in record { sized = r.0; bits = r.1; values = v }

  pub read_back-is_interpretation : (σ : List ℕ) → is_valuation s g σ ≡ true → is_functional s g σ ≡ true → is_interpretation s g (read_back s g σ) ≡ true
  unfolding is_interpretation read_back
  read_back-is_interpretation σ h v = values_of-in_range s (cell_kinds s g) σ (functional σ h v)

  -- a functional valuation is that of the interpretation read back from it
  pub valuation_of-read_back : (σ : List ℕ) → is_valuation s g σ ≡ true → is_functional s g σ ≡ true → valuation_of s g (read_back s g σ) ≡ σ
  unfolding read_back valuation_of
  valuation_of-read_back σ h v = bits_of_cells-values_of s (cell_kinds s g) σ (functional σ h v)

  -- an interpretation is read back from its valuation
  pub read_back-valuation_of : (vs : List ℕ) → is_interpretation s g vs ≡ true
      → (is_valuation s g (valuation_of s g vs) ≡ true) × (is_functional s g (valuation_of s g vs) ≡ true)
      × (read_back s g (valuation_of s g vs) ≡ vs)
  unfolding is_interpretation is_functional read_back valuation_of
  read_back-valuation_of vs h =
      let r = values_of-bits_of_cells s (cell_kinds s g) vs h in
      (is_valuation← (valuation_of s g vs) r.0.sized r.0.bits, r.0.values, r.1)
