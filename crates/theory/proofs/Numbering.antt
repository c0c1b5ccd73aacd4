-- Numbering: cells and propositional variables are numbered one to one, without gaps; the laws of their numbers.
use Prim.Native.Nat.{ℕ, zero, suc, ◌+◌, ◌*◌, ◌^◌, ◌-◌, ◌≤◌, ◌<◌}
use mathlib.Core.Path.{◌≡◌, refl, sym, ap, ◌∙◌, subst}
use mathlib.Core.Logic.{◌⊎◌, inl, inr}
use mathlib.Core.Bool.{true, false}
use mathlib.Core.List.{List, [], ◌∷◌, ◌++◌, map, map-map}
use native.Mathlib.Nat.{add-zero, zero-add, add_assoc, suc-mul, zero-mul}
use native.Mathlib.Omega.{arith}
use lib.Arith.{digits_lt}
use lib.Dec.{ltb}
use lib.ListN.{length, get_or, take, replicate, length-append, length-replicate, get_or-replicate, get_or-append}
use lib.Seq.{take-length, get_or-append-add, take-append-add, take-append-le}
use Rattle.theory.specs.Lists.{concat_map, up_from, up_to, sum}
use Rattle.theory.specs.Vectors.{vectors, rank, AllBelow}
use Rattle.theory.specs.Syntax.{Kind, predicate, Symbol, Signature, symbol_at}
use Rattle.theory.specs.Cells.{table_size, cell_count, cell_base, cell, cell_kinds}
use Rattle.theory.specs.Propositional.{width, block_size, prop_count, prop_base, prop_variable}
use Rattle.theory.specs.Claims.Numbering.{all_cells, all_prop_variables, Numbering}
use Rattle.theory.proofs.Tests.{true-or-false, ltb-true, ltb-false}
use Rattle.theory.proofs.Lists.{map-concat_map, concat_map-cong, concat_map-shift, concat_map-map, map-cong, map-add-up_from, up_from-append, blocks, sum-map-append}
use Rattle.theory.proofs.Vectors.{rank_lt, rank-vectors}

-- Each symbol has a row of so many numbers, and the rows lie one after the other.
module _ (size : Symbol → ℕ) where
  -- the numbers before the row of the symbol at place i
  abbrev before : Signature → ℕ → ℕ
  before g i = sum (map size (take i g))

  before-suc : (g : Signature) (i : ℕ) → i < length g → before g (suc i) ≡ before g i + size (symbol_at g i)
  before-suc [] i h = absurd (omega arith)
  before-suc (f ∷ g) zero h = omega arith
  before-suc (f ∷ g) (suc i) h = omega (arith, before-suc g i (omega arith))

  row_below : (g : Signature) (i r : ℕ) → i < length g → r < size (symbol_at g i) → before g i + r < sum (map size g)
  row_below [] i r h k = absurd (omega arith)
  row_below (f ∷ g) zero r h k = omega arith
  row_below (f ∷ g) (suc i) r h k = omega (arith, row_below g i r (omega arith) k)

  row-found : (g : Signature) (n : ℕ) → n < sum (map size g) → (i : ℕ) × (r : ℕ) × (i < length g) × (r < size (symbol_at g i)) × (n ≡ before g i + r)
  row-found [] n h = absurd (omega arith)
  row-found (f ∷ g) n h = go (true-or-false (ltb n (size f))) (λ le. row-found g (n - size f) (omega arith))
    where
      go : (ltb n (size f) ≡ true) ⊎ (ltb n (size f) ≡ false)
          → (size f ≤ n → (i : ℕ) × (r : ℕ) × (i < length g) × (r < size (symbol_at g i)) × (n - size f ≡ before g i + r))
          → (i : ℕ) × (r : ℕ) × (i < length (f ∷ g)) × (r < size (symbol_at (f ∷ g) i)) × (n ≡ before (f ∷ g) i + r)
      go (inl e) ih = (0, n, omega arith, ltb-true n (size f) e, sym (zero-add n))
      go (inr e) ih =
          let le : size f ≤ n = ltb-false n (size f) e in
          let t = ih le in
          (suc t.0, t.1, omega (arith, t.2), t.3, omega (arith, t.4))

  -- all rows together, where a symbol's row is listed by list f
  rows-in-order : (list : Symbol → List ℕ) → ((f : Symbol) → list f ≡ up_to (size f)) → (g : Signature)
      → concat_map (λ i. map (λ r. before g i + r) (list (symbol_at g i))) (up_to (length g)) ≡ up_to (sum (map size g))
  rows-in-order list h [] = refl
  rows-in-order list h (f ∷ g) =
      let n : ℕ = sum (map size g) in
      let row : ℕ → List ℕ = λ i. map (λ r. before (f ∷ g) i + r) (list (symbol_at (f ∷ g) i)) in
      let next : ℕ → List ℕ = λ i. map (λ r. before g i + r) (list (symbol_at g i)) in
      let here : row 0 ≡ up_from 0 (size f) = ap (map (λ (r : ℕ). 0 + r)) (h f) ∙ map-add-up_from 0 0 (size f) in
      let later : concat_map row (up_from 1 (length g)) ≡ up_from (0 + size f) n =
      concat_map-shift row 0 (length g)
      ∙ concat_map-cong (λ i. row (suc i)) (λ i. map (λ (r : ℕ). size f + r) (next i)) (up_to (length g))
      (λ i. map-cong (λ (r : ℕ). before (f ∷ g) (suc i) + r) (λ (r : ℕ). size f + (before g i + r)) (list (symbol_at g i)) (λ r. add_assoc (size f) (before g i) r)
      ∙ sym (map-map (λ (r : ℕ). size f + r) (λ (r : ℕ). before g i + r) (list (symbol_at g i))))
      ∙ sym (map-concat_map (λ (r : ℕ). size f + r) next (up_to (length g)))
      ∙ ap (map (λ (r : ℕ). size f + r)) (rows-in-order list h g)
      ∙ map-add-up_from (size f) 0 n ∙ ap (λ (b : ℕ). up_from b n) (add-zero (size f) ∙ sym (zero-add (size f))) in
      ap (λ (l : List ℕ). l ++ concat_map row (up_from 1 (length g))) here
      ∙ ap (λ (l : List ℕ). up_from 0 (size f) ++ l) later
      ∙ up_from-append 0 (size f) n

-- the numbers of a cell's propositional variables, at row r of a table whose cells have w each
listed-variables : (s k w : ℕ) → concat_map (λ v. map (λ d. rank s v * w + d) (up_to w)) (vectors s k) ≡ up_to (s ^ k * w)
listed-variables s k w =
    let row : ℕ → List ℕ = λ r. map (λ (d : ℕ). r * w + d) (up_to w) in
    sym (concat_map-map row (rank s) (vectors s k))
    ∙ ap (concat_map row) (rank-vectors s k)
    ∙ concat_map-cong row (λ r. up_from (r * w) w) (up_to (s ^ k)) (λ r. map-add-up_from (r * w) 0 w ∙ ap (λ (b : ℕ). up_from b w) (add-zero (r * w)))
    ∙ blocks w 0 (s ^ k) ∙ ap (λ (b : ℕ). up_from b (s ^ k * w)) (zero-mul w)

cells-in-order : (s : ℕ) (g : Signature) → all_cells s g ≡ up_to (cell_count s g)
cells-in-order s g =
    let table : ℕ → List (List ℕ) = λ i. vectors s (symbol_at g i).arity in
    concat_map-cong (λ i. map (cell s g i) (table i)) (λ i. map (λ (r : ℕ). cell_base s g i + r) (map (rank s) (table i))) (up_to (length g))
    (λ i. sym (map-map (λ (r : ℕ). cell_base s g i + r) (rank s) (table i)))
    ∙ rows-in-order (table_size s) (λ f. map (rank s) (vectors s f.arity)) (λ f. rank-vectors s f.arity) g

variables-in-order : (s : ℕ) (g : Signature) → all_prop_variables s g ≡ up_from 1 (prop_count s g)
unfolding prop_count prop_base
variables-in-order s g =
    let table : ℕ → List (List ℕ) = λ i. vectors s (symbol_at g i).arity in
    let w : ℕ → ℕ = λ i. width s (symbol_at g i).kind in
    let results : ℕ → List ℕ → List ℕ = λ i v. map (λ (d : ℕ). rank s v * w i + d) (up_to (w i)) in
    let row : ℕ → List ℕ = λ i. map (λ (r : ℕ). prop_base s g i + r) (concat_map (results i) (table i)) in
    concat_map-cong (λ i. concat_map (λ v. map (prop_variable s g i v) (up_to (w i))) (table i)) (λ i. map (λ (r : ℕ). 1 + r) (row i)) (up_to (length g))
    (λ i. sym (
    map-map (λ (r : ℕ). 1 + r) (λ (r : ℕ). prop_base s g i + r) (concat_map (results i) (table i))
    ∙ map-concat_map (λ (r : ℕ). 1 + (prop_base s g i + r)) (results i) (table i)
    ∙ concat_map-cong (λ v. map (λ (r : ℕ). 1 + (prop_base s g i + r)) (results i v)) (λ v. map (prop_variable s g i v) (up_to (w i))) (table i)
    (λ v. map-map (λ (r : ℕ). 1 + (prop_base s g i + r)) (λ (d : ℕ). rank s v * w i + d) (up_to (w i)))))
    ∙ sym (map-concat_map (λ (r : ℕ). 1 + r) row (up_to (length g)))
    ∙ ap (map (λ (r : ℕ). 1 + r))
    (rows-in-order (block_size s) (λ f. concat_map (λ v. map (λ d. rank s v * width s f.kind + d) (up_to (width s f.kind))) (vectors s f.arity))
    (λ f. listed-variables s f.arity (width s f.kind)) g)
    ∙ map-add-up_from 1 0 (prop_count s g)

pub numbering : Numbering
numbering = record { cells = cells-in-order; prop_variables = variables-in-order }

-- The cells of a symbol: its place i, and the row r of its table.
pub cell_base-suc : (s : ℕ) (g : Signature) (i : ℕ) → i < length g → cell_base s g (suc i) ≡ cell_base s g i + table_size s (symbol_at g i)
cell_base-suc s g i h = before-suc (table_size s) g i h

pub prop_base-suc : (s : ℕ) (g : Signature) (i : ℕ) → i < length g → prop_base s g (suc i) ≡ prop_base s g i + block_size s (symbol_at g i)
unfolding prop_base prop_count
prop_base-suc s g i h = before-suc (block_size s) g i h

pub row_within : (s : ℕ) (g : Signature) (i r : ℕ) → i < length g → r < table_size s (symbol_at g i) → cell_base s g i + r < cell_count s g
row_within s g i r h k = row_below (table_size s) g i r h k

-- before the first symbol there are none, before the end of the signature there are all
pub cell_base-length : (s : ℕ) (g : Signature) → cell_base s g (length g) ≡ cell_count s g
cell_base-length s g = ap (cell_count s) (take-length g)

pub prop_base-zero : (s : ℕ) (g : Signature) → prop_base s g 0 ≡ 0
unfolding prop_base prop_count
prop_base-zero s g = refl

pub prop_base-length : (s : ℕ) (g : Signature) → prop_base s g (length g) ≡ prop_count s g
unfolding prop_base
prop_base-length s g = ap (prop_count s) (take-length g)

-- every cell is in some symbol's table
pub cell-found : (s : ℕ) (g : Signature) (c : ℕ) → c < cell_count s g
    → (i : ℕ) × (r : ℕ) × (i < length g) × (r < table_size s (symbol_at g i)) × (c ≡ cell_base s g i + r)
cell-found s g c h = row-found (table_size s) g c h

pub length-cell_kinds : (s : ℕ) (g : Signature) → length (cell_kinds s g) ≡ cell_count s g
unfolding cell_kinds
length-cell_kinds s [] = refl
length-cell_kinds s (f ∷ g) =
    let run : List Kind = replicate (table_size s f) f.kind in
    omega (arith, length-append run (cell_kinds s g), length-replicate (table_size s f) f.kind, length-cell_kinds s g)

pub kind-at-row : (s : ℕ) (g : Signature) (i r : ℕ) → i < length g → r < table_size s (symbol_at g i)
    → get_or (cell_kinds s g) (cell_base s g i + r) predicate ≡ (symbol_at g i).kind
unfolding cell_kinds
kind-at-row s [] i r h k = absurd (omega arith)
kind-at-row s (f ∷ g) zero r h k =
    let n : ℕ = table_size s f in
    ap (λ (c : ℕ). get_or (cell_kinds s (f ∷ g)) c predicate) (zero-add r)
    ∙ get_or-append (replicate n f.kind) (cell_kinds s g) predicate r (omega (arith, length-replicate n f.kind))
    ∙ get_or-replicate n r f.kind predicate k
kind-at-row s (f ∷ g) (suc i) r h k =
    let n : ℕ = table_size s f in
    let e : n + cell_base s g i + r ≡ length (replicate n f.kind) + (cell_base s g i + r) = omega (arith, length-replicate n f.kind) in
    ap (λ (c : ℕ). get_or (cell_kinds s (f ∷ g)) c predicate) e
    ∙ get_or-append-add (replicate n f.kind) (cell_kinds s g) (cell_base s g i + r) predicate
    ∙ kind-at-row s g i r (omega arith) k

-- how many propositional variables come before those of cell c, for cells of these kinds
abbrev pub offset : ℕ → List Kind → ℕ → ℕ
offset s ks c = sum (map (width s) (take c ks))

widths-replicate : (s n : ℕ) (k : Kind) → sum (map (width s) (replicate n k)) ≡ n * width s k
widths-replicate s zero k = sym (zero-mul (width s k))
widths-replicate s (suc n) k = omega (arith, widths-replicate s n k, suc-mul n (width s k))

take-replicate : (n r : ℕ) (k : Kind) → r ≤ n → take r (replicate n k) ≡ replicate r k
take-replicate n zero k h = refl
take-replicate zero (suc r) k h = absurd (omega arith)
take-replicate (suc n) (suc r) k h = ap (λ (l : List Kind). k ∷ l) (take-replicate n r k (omega arith))

pub widths-total : (s : ℕ) (g : Signature) → sum (map (width s) (cell_kinds s g)) ≡ prop_count s g
unfolding cell_kinds prop_count
widths-total s [] = refl
widths-total s (f ∷ g) =
    let run : List Kind = replicate (table_size s f) f.kind in
    sum-map-append (width s) run (cell_kinds s g) ∙ omega (arith, widths-replicate s (table_size s f) f.kind, widths-total s g)

-- the variables of the cells of a table lie one after the other
pub offset-at-row : (s : ℕ) (g : Signature) (i r : ℕ) → i < length g → r < table_size s (symbol_at g i)
    → offset s (cell_kinds s g) (cell_base s g i + r) ≡ prop_base s g i + r * width s (symbol_at g i).kind
unfolding cell_kinds prop_base prop_count
offset-at-row s [] i r h k = absurd (omega arith)
offset-at-row s (f ∷ g) zero r h k =
    let n : ℕ = table_size s f in
    let run : List Kind = replicate n f.kind in
    ap (offset s (cell_kinds s (f ∷ g))) (zero-add r)
    ∙ ap (λ (l : List Kind). sum (map (width s) l)) (take-append-le r run (cell_kinds s g) (omega (arith, length-replicate n f.kind)) ∙ take-replicate n r f.kind (omega arith))
    ∙ widths-replicate s r f.kind ∙ sym (zero-add (r * width s f.kind))
offset-at-row s (f ∷ g) (suc i) r h k =
    let n : ℕ = table_size s f in
    let run : List Kind = replicate n f.kind in
    let e : n + cell_base s g i + r ≡ length run + (cell_base s g i + r) = omega (arith, length-replicate n f.kind) in
    ap (offset s (cell_kinds s (f ∷ g))) e
    ∙ ap (λ (l : List Kind). sum (map (width s) l)) (take-append-add run (cell_kinds s g) (cell_base s g i + r))
    ∙ sum-map-append (width s) run (take (cell_base s g i + r) (cell_kinds s g))
    ∙ omega (arith, widths-replicate s n f.kind, offset-at-row s g i r (omega arith) k)

-- the propositional variables of all cells are within V
pub variable-within : (s : ℕ) (g : Signature) (i r d : ℕ) → i < length g → r < table_size s (symbol_at g i) → d < width s (symbol_at g i).kind
    → prop_base s g i + (r * width s (symbol_at g i).kind + d) < prop_count s g
unfolding prop_base prop_count
variable-within s g i r d h k lt = row_below (block_size s) g i (r * width s (symbol_at g i).kind + d) h (digits_lt k lt)

-- The cell of a symbol at its arguments.
pub rank_below : (s : ℕ) (f : Symbol) (v : List ℕ) → length v ≡ f.arity → AllBelow s v → rank s v < table_size s f
rank_below s f v e b = subst (λ (n : ℕ). rank s v < s ^ n) e (rank_lt s v b)

module _ (s : ℕ) (g : Signature) (i : ℕ) (v : List ℕ) (h : i < length g) (e : length v ≡ (symbol_at g i).arity) (b : AllBelow s v) where
  pub cell_below : cell s g i v < cell_count s g
  cell_below = row_below (table_size s) g i (rank s v) h (rank_below s (symbol_at g i) v e b)

  pub kind-at-cell : get_or (cell_kinds s g) (cell s g i v) predicate ≡ (symbol_at g i).kind
  kind-at-cell = kind-at-row s g i (rank s v) h (rank_below s (symbol_at g i) v e b)

  -- the variable for the result d is the one after d others of the cell
  pub prop_variable-offset : (d : ℕ) → prop_variable s g i v d ≡ 1 + (offset s (cell_kinds s g) (cell s g i v) + d)
  prop_variable-offset d = omega (arith, offset-at-row s g i (rank s v) h (rank_below s (symbol_at g i) v e b))

  pub prop_variable-within : (d : ℕ) → d < width s (symbol_at g i).kind → prop_variable s g i v d ≤ prop_count s g
  prop_variable-within d k = omega (arith, variable-within s g i (rank s v) d h (rank_below s (symbol_at g i) v e b) k)
