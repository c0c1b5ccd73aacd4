-- A valuation is put symbol by symbol: the bytes of the first symbols stand at the front of the output.
use Prim.Native.Nat.{ℕ, suc, ◌+◌, ◌*◌, ◌^◌, ◌-◌, ◌≤◌, ◌<◌}
use mathlib.Core.Path.{◌≡◌, refl, sym, ap, ◌∙◌}
use mathlib.Core.List.{List, [], ◌∷◌, ◌++◌, append-nil}
use native.Mathlib.Nat.{le_refl}
use native.Mathlib.Numerals.{add-one}
use native.Mathlib.Omega.{arith}
use lib.ListN.{length, get_or, take, drop, replicate, length-drop, length-replicate}
use lib.Seq.{take-suc, take-length, length-take-le}
use Rattle.theory.specs.Syntax.{Kind, symbol_at, no_symbol}
use Rattle.theory.specs.Syntax as theory
use Rattle.theory.specs.Cells.{table_size, cell_count, cell_base, cell_kinds}
use Rattle.theory.specs.Propositional.{width, block_size, prop_base, prop_count}
use Rattle.theory.specs.Valuation.{bits_of_cells, valuation_of}
use Rattle.theory.specs.Operations.{over}
use Rattle.theory.proofs.Lists.{concat_map-append}
use Rattle.theory.proofs.Numbering.{length-cell_kinds, widths-total, cell_base-suc}
use Rattle.syntax.specs.declared.signature.Symbol.{Symbol}
use Rattle.syntax.specs.declared.signature.Signature.{Signature}
use Rattle.syntax.specs.Signatures.{max_cells, kind_of, symbol_in, signature_in}
use Rattle.text.specs.Put.{put, put-none, put-run}
use Rattle.answers.proofs.Answering.{put-over}
use Rattle.clauses.specs.Names.{Limited}
use Rattle.clauses.proofs.Held.{blank, count-signature_in, symbol_at-signature_in}
use Rattle.interpretation.proofs.Tabling.{table-limited}
use Rattle.valuations.specs.declared.numbering.Numbering.{Numbering}
use Rattle.valuations.specs.Numbers.{NumberingOf}
use Rattle.valuations.proofs.Blocks.{block_room}
use Rattle.settings.proofs.CellBits.{bits-behind, bits-of-first, length-bits, length-cells}

-- the symbols of a signature, and values of their cells
module _ (s : ℕ) (g : theory.Signature) (vs : List ℕ) where
  -- the bytes of the symbol at place i
  abbrev block_at : ℕ → List ℕ
  block_at i = bits_of_cells s (replicate (table_size s (symbol_at g i)) (symbol_at g i).kind) (take (table_size s (symbol_at g i)) (drop (cell_base s g i) vs))

  -- one symbol more
  block_more : (i : ℕ) → i < length g → valuation_of s (take (suc i) g) vs ≡ valuation_of s (take i g) vs ++ block_at i
  unfolding valuation_of cell_kinds
  block_more i h =
      let f : theory.Symbol = symbol_at g i in
      let ks : List Kind = replicate (table_size s f) f.kind in
      let n : length ks ≡ table_size s f = length-replicate (table_size s f) f.kind in
      let cells : List ℕ = drop (cell_base s g i) vs in
      let kinds : cell_kinds s (take (suc i) g) ≡ cell_kinds s (take i g) ++ ks =
      ap (cell_kinds s) (take-suc g i no_symbol h)
      ∙ concat_map-append (λ (f : theory.Symbol). replicate (table_size s f) f.kind) (take i g) (f ∷ [])
      ∙ ap (λ (l : List Kind). cell_kinds s (take i g) ++ l) (append-nil ks) in
      ap (λ (l : List Kind). bits_of_cells s l vs) kinds
      ∙ bits-behind s (cell_kinds s (take i g)) ks vs
      ∙ ap (λ (n : ℕ). valuation_of s (take i g) vs ++ bits_of_cells s ks (drop n vs)) (length-cell_kinds s (take i g))
      ∙ ap (λ (l : List ℕ). valuation_of s (take i g) vs ++ l) (sym (bits-of-first s ks cells) ∙ ap (λ (n : ℕ). bits_of_cells s ks (take n cells)) n)

  -- V bytes, from values for all cells
  pub length-valuation : cell_count s g ≤ length vs → length (valuation_of s g vs) ≡ prop_count s g
  unfolding valuation_of
  length-valuation h = length-bits s (cell_kinds s g) vs (omega (arith, length-cell_kinds s g)) ∙ widths-total s g

  -- values past those of the cells do not count
  pub first-cells : valuation_of s g (take (cell_count s g) vs) ≡ valuation_of s g vs
  unfolding valuation_of
  first-cells = ap (λ (n : ℕ). bits_of_cells s (cell_kinds s g) (take n vs)) (sym (length-cell_kinds s g)) ∙ bits-of-first s (cell_kinds s g) vs

-- the loop over symbols: the bytes of the first i stand in the output, and their cells end at `base`
module _ (sheet : List ℕ) (y : Signature) (s : ℕ) (cells : List ℕ) where
  pub record BlocksPut (out out' : List ℕ) (base i : ℕ) : Type 0 where
    pub within : i ≤ y.count
    pub held : length out' ≡ length out
    pub ended : base ≡ cell_base s (signature_in sheet y) i
    pub bytes : out' ≡ put out 0 (valuation_of s (take i (signature_in sheet y)) cells)

  pub none-put : (out : List ℕ) → BlocksPut out out 0 0
  unfolding valuation_of cell_kinds
  none-put out = record { within = omega arith; held = refl; ended = refl; bytes = sym (put-none out 0) }

module _ (y : Signature) (s : ℕ) (cells : List ℕ) (limited : Limited y) (small : s ≤ 8) (enough : max_cells ≤ length cells) (sheet : List ℕ) where
  abbrev g : theory.Signature
  g = signature_in sheet y

  module _ (out out' : List ℕ) (base i : ℕ) (b : BlocksPut sheet y s cells out out' base i) where
    module _ (h : i < y.count) where
      abbrev f : Symbol
      f = get_or y.symbols i blank

      in-signature : i < length g
      in-signature = omega (arith, count-signature_in y limited sheet)

      is-symbol : symbol_at g i ≡ symbol_in sheet f
      is-symbol = symbol_at-signature_in y limited sheet i h

      -- the symbol has m cells
      module _ (m : ℕ) (counted : m ≡ s ^ f.arity) where
        pub table-ends : base + m ≤ max_cells
        table-ends = omega (arith, b.ended, counted, table-limited sheet y limited s small i h)

        -- they are lent
        abbrev table : List ℕ
        table = take (base + m - base) (drop base cells)

        length-table : length table ≡ m
        length-table = length-take-le (base + m - base) (drop base cells) (omega (arith, length-drop base cells, table-ends, enough)) ∙ omega arith

        -- their bytes
        abbrev block : List ℕ
        block = bits_of_cells s (replicate (length table) (kind_of f.function)) table

        length-block : length block ≡ length table * width s (kind_of f.function)
        length-block = length-cells s (kind_of f.function) (length table) table (le_refl (length table))

        is_block : block ≡ block_at s g cells i
        is_block =
            let e : base + m - base ≡ s ^ f.arity = omega (arith, counted) in
            let n : length table ≡ s ^ f.arity = length-table ∙ counted in
            ap (λ (n : ℕ). bits_of_cells s (replicate n (kind_of f.function)) table) n
            ∙ ap (λ (n : ℕ). bits_of_cells s (replicate (s ^ f.arity) (kind_of f.function)) (take n (drop base cells))) e
            ∙ ap (λ (j : ℕ). bits_of_cells s (replicate (s ^ f.arity) (kind_of f.function)) (take (s ^ f.arity) (drop j cells))) b.ended
            ∙ ap (λ (f : theory.Symbol). bits_of_cells s (replicate (table_size s f) f.kind) (take (table_size s f) (drop (cell_base s g i) cells))) (sym is-symbol)

        module _ (n : Numbering) (numbered : NumberingOf g s n) where
          pub block_within : get_or n.bases i 0 + length table * width s (kind_of f.function) ≤ n.count
          block_within =
              omega (
                arith,
                numbered.base i in-signature,
                numbered.count,
                block_room s g i in-signature,
                ap (block_size s) is-symbol,
                ap (λ (n : ℕ). n * width s (kind_of f.function)) (length-table ∙ counted),
              )

          pub block-put : n.count ≤ length out → (out'' : List ℕ) → length out'' ≡ length out' → out'' ≡ put out' (get_or n.bases i 0) block → BlocksPut sheet y s cells out out'' (base + m) (i + 1)
          unfolding prop_base
          block-put room out'' l q =
              let first : List ℕ = valuation_of s (take i g) cells in
              let place : get_or n.bases i 0 ≡ 0 + length first =
              numbered.base i in-signature ∙ omega (arith, length-valuation s (take i g) cells (omega (arith, b.ended, table-ends, enough))) in
              rw add-one
              (record {
                within = h;
                held = l ∙ b.held;
                ended = omega (arith, b.ended, counted, cell_base-suc s g i in-signature, ap (table_size s) is-symbol);
                bytes = put-run out out' out'' 0 (get_or n.bases i 0) first block b.bytes place q (omega (arith, length-block, block_within, room))
                    ∙ ap (put out 0) (ap (λ (l : List ℕ). first ++ l) is_block ∙ sym (block_more s g cells i in-signature));
              })

    pub all-put : y.count ≤ i → out' ≡ over (valuation_of s g cells) out
    all-put h =
        let c : i ≡ length g = omega (arith, h, b.within, count-signature_in y limited sheet) in
        b.bytes ∙ ap (λ (i : ℕ). put out 0 (valuation_of s (take i g) cells)) c ∙ ap (λ (l : theory.Signature). put out 0 (valuation_of s l cells)) (take-length g) ∙ put-over out (valuation_of s g cells)
