-- The tables that cell values over g have for the symbols of h, where every symbol of h is one of g.
use Prim.Native.Nat.{ℕ, zero, suc, ◌+◌, ◌*◌, ◌^◌, ◌-◌, ◌≤◌, ◌<◌}
use mathlib.Core.Path.{◌≡◌, refl, sym, ap, ◌∙◌, subst}
use mathlib.Core.Logic.{inl, inr}
use mathlib.Core.Bool.{true, false≢true}
use mathlib.Core.Option.{Option, none, some}
use mathlib.Core.List.{List, [], ◌∷◌, ◌++◌}
use native.Mathlib.Nat.{zero-add, pow-zero, pow-suc, mul-le-mul}
use native.Mathlib.Omega.{arith}
use lib.Dec.{ltb}
use lib.ListN.{length, get_or, take, drop, replicate, length-drop, get_or-append}
use lib.Seq.{length-take-le, get_or-append-add, get_or-take, get_or-drop}
use Rattle.theory.specs.Lists.{concat_map}
use Rattle.theory.specs.Vectors.{rank, AllBelow}
use Rattle.theory.specs.Syntax.{Kind, predicate, Symbol, Signature, no_symbol, symbol_at}
use Rattle.theory.specs.Cells.{table_size, cell_count, cell_base, cell, cell_kinds, value_count, in_range, is_interpretation}
use Rattle.theory.specs.WellFormed.{NamesDiffer}
use Rattle.theory.proofs.Tests.{ltb-of-<, and_left, and_right, and-join}
use Rattle.theory.proofs.Numbering.{row_within, kind-at-row, rank_below}
use Rattle.theory.proofs.Interpretations.{length-interpretation, value-below}
use Rattle.sheet_merging.specs.Tables.{table_named, tables_for}
use Rattle.sheet_merging.proofs.Among.{In, in-at}
use Rattle.sheet_merging.proofs.Included.{Included, place_in, moved}

-- a table has a cell
pow_pos : (s k : ℕ) → zero < s → 0 < s ^ k
pow_pos s zero pos = omega (arith, pow-zero s)
pow_pos s (suc k) pos =
    let ih : 1 ≤ s ^ k = pow_pos s k pos in
    let le : 1 * 1 ≤ s ^ k * s = mul-le-mul ih pos in
    omega (arith, le, pow-suc s k)

-- tables one after the other: an entry of the table at place i
tables-at : (s : ℕ) (t : Symbol → List ℕ) (h : Signature) → ((f : Symbol) → In f h → length (t f) ≡ table_size s f)
    → (i r : ℕ) → i < length h → r < table_size s (symbol_at h i) → get_or (concat_map t h) (cell_base s h i + r) 0 ≡ get_or (t (symbol_at h i)) r 0
tables-at s t [] len i r hi hr = absurd (omega arith)
tables-at s t (f ∷ h) len zero r hi hr =
    ap (λ (c : ℕ). get_or (concat_map t (f ∷ h)) c 0) (zero-add r)
    ∙ get_or-append (t f) (concat_map t h) 0 r (omega (arith, len f (inl refl)))
tables-at s t (f ∷ h) len (suc i) r hi hr =
    let n : length (t f) ≡ table_size s f = len f (inl refl) in
    let e : table_size s f + cell_base s h i + r ≡ length (t f) + (cell_base s h i + r) = omega (arith, n) in
    ap (λ (c : ℕ). get_or (concat_map t (f ∷ h)) c 0) e
    ∙ get_or-append-add (t f) (concat_map t h) (cell_base s h i + r) 0
    ∙ tables-at s t h (λ u k. len u (inr k)) i r (omega arith) hr

-- values in range, one table after the other
in_range-append : (s : ℕ) (ks ls : List Kind) (us vs : List ℕ) → in_range s ks us ≡ true → in_range s ls vs ≡ true → in_range s (ks ++ ls) (us ++ vs) ≡ true
in_range-append s [] ls [] vs h k = k
in_range-append s [] ls (d ∷ us) vs h k = absurd (false≢true h)
in_range-append s (x ∷ ks) ls [] vs h k = absurd (false≢true h)
in_range-append s (x ∷ ks) ls (d ∷ us) vs h k =
    and-join (ltb d (value_count s x)) (in_range s (ks ++ ls) (us ++ vs)) (and_left (ltb d (value_count s x)) (in_range s ks us) h)
    (in_range-append s ks ls us vs (and_right (ltb d (value_count s x)) (in_range s ks us) h) k)

in_range-table : (s n : ℕ) (k : Kind) (us : List ℕ) → length us ≡ n → ((r : ℕ) → r < n → get_or us r 0 < value_count s k) → in_range s (replicate n k) us ≡ true
in_range-table s zero k [] e h = refl
in_range-table s zero k (d ∷ us) e h = absurd (omega arith)
in_range-table s (suc n) k [] e h = absurd (omega arith)
in_range-table s (suc n) k (d ∷ us) e h =
    and-join (ltb d (value_count s k)) (in_range s (replicate n k) us) (ltb-of-< d (value_count s k) (h 0 (omega arith)))
    (in_range-table s n k us (omega arith) (λ r lt. h (suc r) (omega arith)))

tables-range : (s : ℕ) (t : Symbol → List ℕ) (h : Signature) → ((f : Symbol) → In f h → in_range s (replicate (table_size s f) f.kind) (t f) ≡ true)
    → is_interpretation s h (concat_map t h) ≡ true
unfolding is_interpretation cell_kinds
tables-range s t [] k = refl
tables-range s t (f ∷ h) k = in_range-append s (replicate (table_size s f) f.kind) (cell_kinds s h) (t f) (concat_map t h) (k f (inl refl)) (tables-range s t h (λ u z. k u (inr z)))

module _ (s : ℕ) (g h : Signature) (dh : NamesDiffer h) (dg : NamesDiffer g) (inc : Included h g) (vs : List ℕ) (pos : zero < s) (good : is_interpretation s g vs ≡ true) where
  -- the table of the symbol at place i of h
  abbrev t : Symbol → List ℕ
  t f = table_named s g vs f.name

  abbrev π : ℕ → ℕ
  π = place_in h g

  table_is : (i : ℕ) → i < length h → t (symbol_at h i) ≡ take (table_size s (symbol_at h i)) (drop (cell_base s g (π i)) vs)
  table_is i lt =
      let m = moved h g dh dg inc i lt in
      ap (λ (o : Option ℕ). elim o as (λ _. List ℕ) [ some i ↦ take (table_size s (symbol_at g i)) (drop (cell_base s g i) vs) | none ↦ [] ]) m.found
      ∙ ap (λ (f : Symbol). take (table_size s f) (drop (cell_base s g (π i)) vs)) m.same

  -- the table lies within the cells
  table_fits : (i : ℕ) → i < length h → cell_base s g (π i) + table_size s (symbol_at h i) ≤ length vs
  table_fits i lt =
      let m = moved h g dh dg inc i lt in
      let n : ℕ = table_size s (symbol_at h i) in
      let some-cell : 0 < n = pow_pos s (symbol_at h i).arity pos in
      let last : cell_base s g (π i) + (n - 1) < cell_count s g = row_within s g (π i) (n - 1) m.below (subst (λ (f : Symbol). n - 1 < table_size s f) (sym m.same) (omega (arith, some-cell))) in
      omega (arith, last, some-cell, length-interpretation s g vs good)

  table-length : (i : ℕ) → i < length h → length (t (symbol_at h i)) ≡ table_size s (symbol_at h i)
  table-length i lt =
      let n : ℕ = table_size s (symbol_at h i) in
      let b : ℕ = cell_base s g (π i) in
      ap length (table_is i lt) ∙ length-take-le n (drop b vs) (omega (arith, length-drop b vs, table_fits i lt))

  table-entry : (i r : ℕ) → i < length h → r < table_size s (symbol_at h i) → get_or (t (symbol_at h i)) r 0 ≡ get_or vs (cell_base s g (π i) + r) 0
  table-entry i r lt hr =
      ap (λ (l : List ℕ). get_or l r 0) (table_is i lt) ∙ get_or-take (table_size s (symbol_at h i)) (drop (cell_base s g (π i)) vs) r 0 hr ∙ get_or-drop (cell_base s g (π i)) vs r 0

  lengths : (f : Symbol) → In f h → length (t f) ≡ table_size s f
  lengths f k =
      let r = in-at no_symbol f h k in
      subst (λ (u : Symbol). length (t u) ≡ table_size s u) r.2 (table-length r.0 r.1)

  ranges : (f : Symbol) → In f h → in_range s (replicate (table_size s f) f.kind) (t f) ≡ true
  ranges f k =
      let r = in-at no_symbol f h k in
      subst (λ (u : Symbol). in_range s (replicate (table_size s u) u.kind) (t u) ≡ true) r.2 (here r.0 r.1)
    where
      here : (i : ℕ) → i < length h → in_range s (replicate (table_size s (symbol_at h i)) (symbol_at h i).kind) (t (symbol_at h i)) ≡ true
      here i lt =
          in_range-table s (table_size s (symbol_at h i)) (symbol_at h i).kind (t (symbol_at h i)) (table-length i lt)
          λ r hr.
          let m = moved h g dh dg inc i lt in
          let c : ℕ = cell_base s g (π i) + r in
          let hr₂ : r < table_size s (symbol_at g (π i)) = subst (λ (f : Symbol). r < table_size s f) (sym m.same) hr in
          let kind : get_or (cell_kinds s g) c predicate ≡ (symbol_at h i).kind = kind-at-row s g (π i) r m.below hr₂ ∙ ap (λ (f : Symbol). f.kind) m.same in
          let below : get_or vs c 0 < value_count s (get_or (cell_kinds s g) c predicate) = value-below s g vs good c (row_within s g (π i) r m.below hr₂) in
          subst (λ (x : ℕ). x < value_count s (symbol_at h i).kind) (sym (table-entry i r lt hr)) (subst (λ (k : Kind). get_or vs c 0 < value_count s k) kind below)

  -- the tables are an interpretation of h
  pub tables-good : is_interpretation s h (tables_for s g h vs) ≡ true
  unfolding tables_for
  tables-good = tables-range s t h ranges

  -- with the entries that the symbols have in g
  pub tables-cell : (i : ℕ) (v : List ℕ) → i < length h → length v ≡ (symbol_at h i).arity → AllBelow s v → get_or (tables_for s g h vs) (cell s h i v) 0 ≡ get_or vs (cell s g (π i) v) 0
  unfolding tables_for
  tables-cell i v lt e b =
      let hr : rank s v < table_size s (symbol_at h i) = rank_below s (symbol_at h i) v e b in
      tables-at s t h lengths i (rank s v) lt hr ∙ table-entry i (rank s v) lt hr
