-- The cells of a setting's interpretation, one symbol's table more at a time.
use Prim.Native.Nat.{ℕ, suc, ◌+◌, ◌-◌, ◌*◌, ◌^◌, ◌≤◌, ◌<◌}
use mathlib.Core.Path.{◌≡◌, refl, sym, ap, ◌∙◌}
use mathlib.Core.List.{List, [], ◌++◌}
use native.Mathlib.Nat.{zero-add}
use native.Mathlib.Numerals.{add-one}
use native.Mathlib.Omega.{arith}
use lib.ListN.{length, get_or, take, drop, replicate, take-append-drop}
use lib.Seq.{take-add, take_all, length-take-le}
use Rattle.theory.specs.Syntax.{symbol_at}
use Rattle.theory.specs.Syntax as theory
use Rattle.theory.specs.Cells.{table_size, cell_count, cell_base}
use Rattle.theory.specs.Propositional.{width, block_size, prop_base}
use Rattle.theory.specs.Valuation.{values_of, read_back}
use Rattle.theory.proofs.Lists.{sum-map-append}
use Rattle.theory.proofs.Numbering.{cell_base-suc, cell_base-length}
use Rattle.syntax.specs.declared.signature.Symbol.{Symbol}
use Rattle.syntax.specs.declared.signature.Signature.{Signature}
use Rattle.syntax.specs.Signatures.{max_cells, kind_of, symbol_in, signature_in}
use Rattle.clauses.specs.Names.{Limited}
use Rattle.clauses.proofs.Held.{blank, count-signature_in, symbol_at-signature_in}
use Rattle.interpretation.proofs.Tabling.{table-limited, cells-limited}
use Rattle.text.specs.Lines.{part}
use Rattle.text.specs.Put.{put, put-none, length-put, put-run, part-put, take_put}
use Rattle.text.proofs.Part.{length_part}
use Rattle.valuations.specs.declared.numbering.Numbering.{Numbering}
use Rattle.valuations.specs.Numbers.{max_prop_vars, NumberingOf}
use Rattle.valuations.specs.Cells.{cell_values}
use Rattle.valuations.proofs.Blocks.{block_room, table-at}
use Rattle.valuations.proofs.Bits.{length-values}
use Rattle.reading_back.proofs.Bits.{length-read_back}

-- the cells of the first symbols are among all
base-among : (s : ℕ) (g : theory.Signature) (i : ℕ) → cell_base s g i ≤ cell_count s g
base-among s g i = omega (arith, ap (cell_count s) (take-append-drop i g), sum-map-append (table_size s) (take i g) (drop i g))

-- the first cells have the values of the first i symbols' cells
pub record CellsTo (s : ℕ) (g : theory.Signature) (σ cells₀ cells : List ℕ) (base i : ℕ) : Type 0 where
  pub based : base ≡ cell_base s g i
  pub held : length cells ≡ length cells₀
  pub front : cells ≡ put cells₀ 0 (take base (read_back s g σ))

pub none_read : (s : ℕ) (g : theory.Signature) (σ cells : List ℕ) → CellsTo s g σ cells cells 0 0
none_read s g σ cells = record { based = refl; held = refl; front = sym (put-none cells 0) }

module _ (y : Signature) (limited : Limited y) (s : ℕ) (small : s ≤ 8) (n : Numbering) (numbered : (sheet : List ℕ) → NumberingOf (signature_in sheet y) s n) (σ : List ℕ) (counted : length σ ≡ n.count) where
  module _ (cells₀ cells : List ℕ) (base i : ℕ) (room : max_cells ≤ length cells₀) (z : (sheet : List ℕ) → CellsTo s (signature_in sheet y) σ cells₀ cells base i) (h : i < y.count) where
    abbrev pub f : Symbol
    f = get_or y.symbols i blank

    -- the table's place and size
    abbrev pub count : ℕ
    count = s ^ f.arity

    pub bounded : base + count ≤ max_cells
    bounded =
        omega (
          arith,
          (z []).based,
          table-limited [] y limited s small i h,
        )

    pub fits : base + count ≤ length cells
    fits = omega (arith, (z []).held, bounded)

    part-long : (end : ℕ) → end ≡ base + count → length (part cells base end) ≡ count
    part-long end e = length_part cells base end (omega (arith, e)) (omega (arith, e, fits)) ∙ omega (arith, e)

    -- the variables of the symbol's cells are among the setting's
    pub block : (end : ℕ) → end ≡ base + count → get_or n.bases i 0 + length (part cells base end) * width s (kind_of f.function) ≤ length σ
    block end e =
        let lt : i < length (signature_in [] y) = omega (arith, count-signature_in y limited []) in
        let same : length (part cells base end) * width s (kind_of f.function) ≡ count * width s (kind_of f.function) = ap (λ (k : ℕ). k * width s (kind_of f.function)) (part-long end e) in
        omega (
          arith,
          same,
          counted,
          (numbered []).base i lt,
          (numbered []).count,
          block_room s (signature_in [] y) i lt,
          ap (block_size s) (symbol_at-signature_in y limited [] i h),
        )

    pub numbers_fit : length σ ≤ max_prop_vars
    numbers_fit = omega (arith, counted, (numbered []).small)

    -- the table that was read stands behind those before it
    pub one_more : (end : ℕ) (vs : List ℕ) → end ≡ base + count → vs ≡ cell_values s (kind_of f.function) (length (part cells base end)) (get_or n.bases i 0) σ
        → (sheet : List ℕ) → CellsTo s (signature_in sheet y) σ cells₀ (take base cells ++ (vs ++ drop (end - base) (drop base cells))) end (i + 1)
    one_more end vs e v sheet =
        record {
          based = next ∙ ap (cell_base s g) (sym (add-one i));
          held = ap length stored ∙ length-kept;
          front = stored ∙ put-run cells₀ cells (put cells base vs) 0 base (take base rb) vs (z sheet).front front_length refl (omega (arith, fits, (z sheet).held, long)) ∙ ap (put cells₀ 0) both;
        }
      where
        g : theory.Signature
        g = signature_in sheet y

        rb : List ℕ
        rb = read_back s g σ

        lt : i < length g
        lt = omega (arith, count-signature_in y limited sheet)

        is-symbol : symbol_at g i ≡ symbol_in sheet f
        is-symbol = symbol_at-signature_in y limited sheet i h

        own : vs ≡ cell_values s (kind_of f.function) count (get_or n.bases i 0) σ
        own = v ∙ ap (λ (k : ℕ). cell_values s (kind_of f.function) k (get_or n.bases i 0) σ) (part-long end e)

        long : length vs ≡ count
        long = ap length own ∙ length-values s (kind_of f.function) count (drop (get_or n.bases i 0) σ)

        stored : take base cells ++ (vs ++ drop (end - base) (drop base cells)) ≡ put cells base vs
        stored = part-put cells vs base end (omega (arith, e)) (omega (arith, e, fits)) (omega (arith, e, long))

        length-kept : length (put cells base vs) ≡ length cells₀
        length-kept = length-put cells base vs (omega (arith, fits, long)) ∙ (z sheet).held

        next : end ≡ cell_base s g (suc i)
        next = omega (arith, e, (z sheet).based, cell_base-suc s g i lt, ap (table_size s) is-symbol)

        front_length : base ≡ 0 + length (take base rb)
        front_length = omega (arith, length-take-le base rb (omega (arith, (z sheet).based, length-read_back s g σ, base-among s g i)))

        is-table : take count (drop base rb) ≡ vs
        is-table =
            ap (λ (k : ℕ). take count (drop k rb)) (z sheet).based
            ∙ ap (λ (f : theory.Symbol). take (table_size s f) (drop (cell_base s g i) rb)) (sym is-symbol)
            ∙ table-at s g σ i lt
            ∙ ap (λ (f : theory.Symbol). values_of s (replicate (table_size s f) f.kind) (drop (prop_base s g i) σ)) is-symbol
            ∙ ap (λ (j : ℕ). cell_values s (kind_of f.function) count j σ) (sym ((numbered sheet).base i lt))
            ∙ sym own

        both : take base rb ++ vs ≡ take end rb
        both = ap (λ (l : List ℕ). take base rb ++ l) (sym is-table) ∙ sym (take-add base count rb) ∙ ap (λ (k : ℕ). take k rb) (sym e)

  -- all symbols' tables
  pub all_read : (cells₀ cells : List ℕ) (base i : ℕ) → max_cells ≤ length cells₀ → ((sheet : List ℕ) → CellsTo s (signature_in sheet y) σ cells₀ cells base i) → i ≡ y.count
      → (sheet : List ℕ) → take (cell_count s (signature_in sheet y)) cells ≡ read_back s (signature_in sheet y) σ
  all_read cells₀ cells base i room z e sheet =
      ap (take (cell_count s g)) ((z sheet).front ∙ ap (put cells₀ 0) (take_all base rb (omega (arith, whole, long))))
      ∙ ap (λ (k : ℕ). take k (put cells₀ 0 rb)) (sym long ∙ sym (zero-add (length rb)))
      ∙ take_put cells₀ 0 rb (omega (arith, long, room, cells-limited sheet y limited s small))
    where
      g : theory.Signature
      g = signature_in sheet y

      rb : List ℕ
      rb = read_back s g σ

      long : length rb ≡ cell_count s g
      long = length-read_back s g σ

      whole : base ≡ cell_count s g
      whole =
          let last : i ≡ length g = omega (arith, e, count-signature_in y limited sheet) in
          (z sheet).based ∙ ap (cell_base s g) last ∙ cell_base-length s g
