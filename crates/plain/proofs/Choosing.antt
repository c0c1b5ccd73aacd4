-- How many values each cell has, cell by cell and symbol by symbol.
use Prim.Native.Nat.{ℕ, zero, suc, ◌+◌, ◌^◌, ◌≤◌, ◌<◌}
use mathlib.Core.Path.{◌≡◌, refl, sym, ap, ◌∙◌}
use mathlib.Core.List.{List, [], ◌∷◌, ◌++◌, map, append-nil, map-append}
use native.Mathlib.Numerals.{add-one}
use native.Mathlib.Omega.{arith}
use lib.ListN.{length, take, replicate}
use lib.Seq.{take-suc, take-length}
use Rattle.theory.specs.Lists.{concat_map}
use Rattle.theory.specs.Syntax.{Kind, Symbol, Signature, symbol_at, no_symbol}
use Rattle.theory.specs.Cells.{table_size, cell_count, cell_base, cell_kinds, value_count}
use Rattle.theory.proofs.Lists.{concat_map-append}
use Rattle.theory.proofs.Numbering.{cell_base-suc, cell_base-length}
use Rattle.syntax.specs.declared.signature.Symbol as code
use Rattle.syntax.specs.Signatures.{kind_of, symbol_in}
use Rattle.case_writer.proofs.Lines.{base-within}
use Rattle.plain.specs.declared.cells.Choices.{Choices}
use Rattle.plain.specs.Filling.{choices_of}

map-replicate : {A B : Type 0} (f : A → B) (n : ℕ) (x : A) → map f (replicate n x) ≡ replicate n (f x)
map-replicate f zero x = refl
map-replicate {B = B} f (suc n) x = ap (λ (l : List B). f x ∷ l) (map-replicate f n x)

module _ (s : ℕ) (g : Signature) where
  -- one symbol more
  choices-more : (i : ℕ) → i < length g → choices_of s (take (suc i) g) ≡ choices_of s (take i g) ++ replicate (table_size s (symbol_at g i)) (value_count s (symbol_at g i).kind)
  unfolding choices_of cell_kinds
  choices-more i h =
      let f : Symbol = symbol_at g i in
      let ks : Symbol → List Kind = λ f. replicate (table_size s f) f.kind in
      ap (λ (l : Signature). map (value_count s) (concat_map ks l)) (take-suc g i no_symbol h)
      ∙ ap (map (value_count s)) (concat_map-append ks (take i g) (f ∷ []) ∙ ap (λ (l : List Kind). concat_map ks (take i g) ++ l) (append-nil (ks f)))
      ∙ map-append (value_count s) (concat_map ks (take i g)) (ks f)
      ∙ ap (λ (l : List ℕ). map (value_count s) (concat_map ks (take i g)) ++ l) (map-replicate (value_count s) (table_size s f) f.kind)

  -- c has the choices of the cells of the first i symbols
  pub record Chosen (c : Choices) (i : ℕ) : Type 0 where
    pub counted : c.count ≡ cell_base s g i
    pub values : take c.count c.values ≡ choices_of s (take i g)

  pub none-chosen : (values : List ℕ) → Chosen (record { values = values; count = 0 }) 0
  unfolding choices_of cell_kinds
  none-chosen values = record { counted = refl; values = refl }

  module _ (c : Choices) (i : ℕ) (h : Chosen c i) (l : i < length g) (y : code.Symbol) (sheet : List ℕ) (e : symbol_at g i ≡ symbol_in sheet y) where
    pub symbol-fits : cell_count s g ≤ 64 → c.count + s ^ y.arity ≤ 64
    symbol-fits few = omega (arith, h.counted, cell_base-suc s g i l, ap (table_size s) e, base-within s g (suc i))

    pub symbol-chosen : (r : Choices) (v : ℕ) → v ≡ value_count s (kind_of y.function) → r.count ≡ c.count + s ^ y.arity
        → take r.count r.values ≡ take c.count c.values ++ replicate (s ^ y.arity) v → Chosen r (i + 1)
    symbol-chosen r v k n t =
        rw add-one
        (record {
          counted = omega (arith, n, h.counted, cell_base-suc s g i l, ap (table_size s) e);
          values =
              t
              ∙ ap (λ (l : List ℕ). l ++ replicate (s ^ y.arity) v) h.values
              ∙ ap (λ (m : ℕ). choices_of s (take i g) ++ replicate (s ^ y.arity) m) k
              ∙ sym (choices-more i l ∙ ap (λ (f : Symbol). choices_of s (take i g) ++ replicate (table_size s f) (value_count s f.kind)) e);
        })

  -- all of them
  module _ (c : Choices) (i : ℕ) (h : Chosen c i) (e : i ≡ length g) where
    pub all-counted : c.count ≡ cell_count s g
    all-counted = h.counted ∙ ap (cell_base s g) e ∙ cell_base-length s g

    pub all-chosen : take c.count c.values ≡ choices_of s g
    all-chosen = h.values ∙ ap (λ (n : ℕ). choices_of s (take n g)) e ∙ ap (choices_of s) (take-length g)
