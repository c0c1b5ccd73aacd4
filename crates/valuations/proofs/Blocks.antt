-- The bytes of a valuation symbol by symbol: what is left of them after the first symbols, and the table of a symbol.
use Prim.Native.Nat.{ℕ, zero, suc, ◌+◌, ◌≤◌, ◌<◌}
use mathlib.Core.Path.{◌≡◌, sym, ap, ◌∙◌}
use mathlib.Core.Bool.{Bool, true, ◌&&◌}
use mathlib.Core.List.{List, ◌++◌, map}
use native.Mathlib.Omega.{arith}
use lib.ListN.{length, take, drop, replicate, take-append-drop}
use lib.Seq.{drop-cons, drop-length, drop-drop, take_at, drop_at}
use Rattle.theory.specs.Lists.{sum}
use Rattle.theory.specs.Syntax.{Symbol, Signature, symbol_at, no_symbol}
use Rattle.theory.specs.Cells.{table_size, cell_base, cell_kinds}
use Rattle.theory.specs.Propositional.{block_size, prop_base, prop_count}
use Rattle.theory.specs.Valuation.{all_have_values, is_functional, values_of, read_back}
use Rattle.theory.proofs.Lists.{sum-map-append}
use Rattle.theory.proofs.Numbering.{prop_base-zero, prop_base-suc, cell_base-suc}
use Rattle.valuations.proofs.Bits.{values-behind, have-values-behind, length-values}

-- the variables of the first symbols are among all
pub prop_base-within : (s : ℕ) (g : Signature) (i : ℕ) → prop_base s g i ≤ prop_count s g
unfolding prop_base prop_count
prop_base-within s g i = omega (arith, ap (λ (l : Signature). sum (map (block_size s) l)) (take-append-drop i g), sum-map-append (block_size s) (take i g) (drop i g))

pub block_room : (s : ℕ) (g : Signature) (i : ℕ) → i < length g → prop_base s g i + block_size s (symbol_at g i) ≤ prop_count s g
block_room s g i h = omega (arith, prop_base-suc s g i h, prop_base-within s g (suc i))

module _ (s : ℕ) (g : Signature) (σ : List ℕ) where
  -- whether each function cell of the symbols from place i on has one result
  abbrev pub functional_from : ℕ → Bool
  functional_from i = all_have_values s (cell_kinds s (drop i g)) (drop (prop_base s g i) σ)

  -- whether those of the symbol at place i have
  abbrev pub functional_at : ℕ → Bool
  functional_at i = all_have_values s (replicate (table_size s (symbol_at g i)) (symbol_at g i).kind) (drop (prop_base s g i) σ)

  -- as the code has it: the symbol f, its first variable, and the test's answer
  pub functional-at : (i from : ℕ) (f : Symbol) (r : Bool) → symbol_at g i ≡ f → from ≡ prop_base s g i → r ≡ all_have_values s (replicate (table_size s f) f.kind) (drop from σ) → functional_at i ≡ r
  functional-at i from f r e p h =
      ap (λ (f : Symbol). all_have_values s (replicate (table_size s f) f.kind) (drop (prop_base s g i) σ)) e
      ∙ ap (λ (j : ℕ). all_have_values s (replicate (table_size s f) f.kind) (drop j σ)) (sym p)
      ∙ sym h

  pub functional-from-start : is_functional s g σ ≡ functional_from 0
  unfolding is_functional
  functional-from-start = ap (λ (j : ℕ). all_have_values s (cell_kinds s g) (drop j σ)) (sym (prop_base-zero s g))

  pub functional-from : (i : ℕ) → i < length g → functional_from i ≡ (functional_at i && functional_from (suc i))
  unfolding cell_kinds
  functional-from i h =
      let f : Symbol = symbol_at g i in
      ap (λ (l : Signature). all_have_values s (cell_kinds s l) (drop (prop_base s g i) σ)) (drop-cons g i no_symbol h)
      ∙ have-values-behind s f.kind (table_size s f) (cell_kinds s (drop (suc i) g)) (drop (prop_base s g i) σ)
      ∙ ap (λ (l : List ℕ). functional_at i && all_have_values s (cell_kinds s (drop (suc i) g)) l)
      (drop-drop (block_size s f) (prop_base s g i) σ ∙ ap (λ (j : ℕ). drop j σ) (sym (prop_base-suc s g i h)))

  pub functional-to-end : functional_from (length g) ≡ true
  unfolding cell_kinds
  functional-to-end = ap (λ (l : Signature). all_have_values s (cell_kinds s l) (drop (prop_base s g (length g)) σ)) (drop-length g)

  -- the values of the cells of the symbols from place i on
  abbrev values_from : ℕ → List ℕ
  values_from i = values_of s (cell_kinds s (drop i g)) (drop (prop_base s g i) σ)

  -- the table of the symbol at place i
  abbrev pub table_at : ℕ → List ℕ
  table_at i = values_of s (replicate (table_size s (symbol_at g i)) (symbol_at g i).kind) (drop (prop_base s g i) σ)

  values-from : (i : ℕ) → i < length g → values_from i ≡ table_at i ++ values_from (suc i)
  unfolding cell_kinds
  values-from i h =
      let f : Symbol = symbol_at g i in
      ap (λ (l : Signature). values_of s (cell_kinds s l) (drop (prop_base s g i) σ)) (drop-cons g i no_symbol h)
      ∙ values-behind s f.kind (table_size s f) (cell_kinds s (drop (suc i) g)) (drop (prop_base s g i) σ)
      ∙ ap (λ (l : List ℕ). table_at i ++ values_of s (cell_kinds s (drop (suc i) g)) l)
      (drop-drop (block_size s f) (prop_base s g i) σ ∙ ap (λ (j : ℕ). drop j σ) (sym (prop_base-suc s g i h)))

  drop-values : (i : ℕ) → i ≤ length g → drop (cell_base s g i) (read_back s g σ) ≡ values_from i
  unfolding read_back
  drop-values zero h = ap (λ (j : ℕ). values_of s (cell_kinds s g) (drop j σ)) (sym (prop_base-zero s g))
  drop-values (suc i) h =
      ap (λ (j : ℕ). drop j (read_back s g σ)) (cell_base-suc s g i h)
      ∙ sym (drop-drop (table_size s (symbol_at g i)) (cell_base s g i) (read_back s g σ))
      ∙ ap (drop (table_size s (symbol_at g i))) (drop-values i (omega arith) ∙ values-from i h)
      ∙ drop_at (table_at i) (values_from (suc i)) (table_size s (symbol_at g i)) (length-values s (symbol_at g i).kind (table_size s (symbol_at g i)) (drop (prop_base s g i) σ))

  -- the part of the interpretation read back that belongs to the symbol at place i
  pub table-at : (i : ℕ) → i < length g → take (table_size s (symbol_at g i)) (drop (cell_base s g i) (read_back s g σ)) ≡ table_at i
  table-at i h =
      ap (take (table_size s (symbol_at g i))) (drop-values i (omega arith) ∙ values-from i h)
      ∙ take_at (table_at i) (values_from (suc i)) (table_size s (symbol_at g i)) (length-values s (symbol_at g i).kind (table_size s (symbol_at g i)) (drop (prop_base s g i) σ))
