-- A candidate is taken symbol by symbol: the tables of the first symbols, renumbered, and then all of them.
use Prim.Native.Nat.{ℕ, suc, ◌+◌, ◌-◌, ◌^◌, ◌≤◌, ◌<◌}
use mathlib.Core.Path.{◌≡◌, refl, sym, ap, ◌∙◌, subst}
use mathlib.Core.List.{List}
use native.Mathlib.Nat.{one-le-pow}
use native.Mathlib.Numerals.{add-one}
use native.Mathlib.Omega.{arith}
use lib.ListN.{length, get_or, length-append}
use Rattle.theory.specs.Lists.{concat_map, up_to}
use Rattle.theory.specs.Syntax.{symbol_at}
use Rattle.theory.specs.Syntax as theory
use Rattle.theory.specs.Cells.{table_size, cell_base, cell_count, tabulated}
use Rattle.theory.proofs.Numbering.{cell_base-suc, row_within}
use Rattle.renumbering.specs.Renumbering.{renumbered}
use Rattle.renumbering.proofs.Renumbering.{length-renumbered}
use Rattle.syntax.specs.declared.signature.Symbol.{Symbol}
use Rattle.syntax.specs.declared.signature.Signature.{Signature}
use Rattle.syntax.specs.Signatures.{kind_of, symbol_in, signature_in}
use Rattle.clauses.proofs.Held.{blank, arity-at, count-signature_in, symbol_at-signature_in}
use Rattle.rearranging.specs.declared.rearrangement.Rearrangement.{Rearrangement}
use Rattle.rearranging.specs.declared.standing.Standing.{Standing}
use Rattle.rearranging.specs.Entries.{rearrangement_in}
use Rattle.rearranging.specs.Keeping.{kept_cells, CandidateTaken}
use Rattle.rearranging.specs.Candidates.{part_of, Rearranges, PartLent, InterpretationLent}
use Rattle.rearranging.proofs.Keeping.{none-taken, more-taken, all-taken}
use Rattle.rearranging.proofs.Parts.{concat-more, length_part}

module _ (s : ℕ) (p cells : List ℕ) (g : theory.Signature) where
  -- the renumbered table of the symbol at place i
  abbrev table_after : ℕ → List ℕ
  table_after i = part_of s (symbol_at g i).kind p cells (symbol_at g i).arity (cell_base s g i)

  -- the tables of the first i symbols are taken, and the next one's cells start at `base`
  pub record SymbolsTaken (held held' : List ℕ) (q q' : Standing) (base i : ℕ) : Type 0 where
    pub same : length held' ≡ length held
    pub reached : base ≡ cell_base s g i
    pub counted : length (concat_map table_after (up_to i)) ≡ base
    pub taken : CandidateTaken (concat_map table_after (up_to i)) 0 held held' q q'

  pub no-symbols : (held : List ℕ) (q : Standing) → SymbolsTaken held held q q 0 0
  no-symbols held q = record { same = refl; reached = refl; counted = refl; taken = none-taken 0 held q }

  module _ (held held' : List ℕ) (q q' : Standing) (base i : ℕ) (a : SymbolsTaken held held' q q' base i) where
    pub symbol-taken : i < length g → base + table_size s (symbol_at g i) ≤ length held → (held'' : List ℕ) (q'' : Standing) → length held'' ≡ length held' → CandidateTaken (table_after i) base held' held'' q' q''
        → SymbolsTaken held held'' q q'' (base + table_size s (symbol_at g i)) (suc i)
    symbol-taken h room held'' q'' l b =
        let first : List ℕ = concat_map table_after (up_to i) in
        let n : length (table_after i) ≡ table_size s (symbol_at g i) = length_part s (symbol_at g i).kind p cells (symbol_at g i).arity (cell_base s g i) in
        record {
          same = l ∙ a.same;
          reached = omega (arith, a.reached, cell_base-suc s g i h);
          counted = ap length (concat-more table_after i) ∙ length-append first (table_after i) ∙ omega (arith, a.counted, n);
          taken = subst (λ (us : List ℕ). CandidateTaken us 0 held held'' q q'') (sym (concat-more table_after i))
              (more-taken first 0 held held' q q' a.taken (table_after i) base held'' q'' (omega (arith, a.counted)) b (omega (arith, room, a.counted, n)));
        }

    pub all-symbols : i ≡ length g → length held ≡ cell_count s g → held' ≡ kept_cells (renumbered s g p cells) held q
    unfolding renumbered tabulated
    all-symbols e l =
        all-taken (renumbered s g p cells) 0 held held' q q' (subst (λ (i : ℕ). CandidateTaken (concat_map table_after (up_to i)) 0 held held' q q') e a.taken) refl
        (length-renumbered s g p cells ∙ sym l)

-- the cells of a signature's symbols
module _ (s : ℕ) (y : Signature) (cells held₀ : List ℕ) (r : Rearrangement) (c : InterpretationLent s y cells held₀) (w : Rearranges s r) where
  abbrev p : List ℕ
  p = rearrangement_in r

  module _ (sheet : List ℕ) (held : List ℕ) (q q' : Standing) (base i : ℕ) (a : SymbolsTaken s p cells (signature_in sheet y) held₀ held q q' base i) where
    abbrev g : theory.Signature
    g = signature_in sheet y

    module _ (h : i < y.count) where
      abbrev f : Symbol
      f = get_or y.symbols i blank

      in-signature : i < length g
      in-signature = omega (arith, h, count-signature_in y c.limited sheet)

      is-symbol : symbol_at g i ≡ symbol_in sheet f
      is-symbol = symbol_at-signature_in y c.limited sheet i h

      table-size : table_size s (symbol_at g i) ≡ s ^ f.arity
      table-size = ap (table_size s) is-symbol

      table-within : base + s ^ f.arity ≤ length cells
      table-within =
          let some : 1 ≤ s ^ f.arity = one-le-pow f.arity s c.positive in
          let last : ℕ = s ^ f.arity - 1 in
          omega (arith, some, table-size, a.reached, c.counted sheet, row_within s g i last in-signature (omega (arith, some, table-size)))

      pub table-lent : PartLent s r f.arity base base cells held
      table-lent =
          record {
            small = c.small;
            arity = arity-at y c.limited i h;
            rearranges = w;
            values = c.values;
            source = table-within;
            target = omega (arith, table-within, a.same, c.room);
          }

      pub table_taken : (held'' : List ℕ) (q'' : Standing) (n : ℕ) → length held'' ≡ length held → n ≡ s ^ f.arity
          → CandidateTaken (part_of s (kind_of f.function) p cells f.arity base) base held held'' q' q'' → SymbolsTaken s p cells g held₀ held'' q q'' (base + n) (i + 1)
      table_taken held'' q'' n l e t =
          let m : table_size s (symbol_at g i) ≡ n = table-size ∙ sym e in
          let here : part_of s (kind_of f.function) p cells f.arity base ≡ table_after s p cells g i =
          ap (part_of s (kind_of f.function) p cells f.arity) a.reached
          ∙ ap (λ (f : theory.Symbol). part_of s f.kind p cells f.arity (cell_base s g i)) (sym is-symbol) in
          rw add-one
          (subst (λ (n : ℕ). SymbolsTaken s p cells g held₀ held'' q q'' (base + n) (suc i)) m
          (symbol-taken s p cells g held₀ held q q' base i a in-signature (omega (arith, table-within, table-size, c.room)) held'' q'' l
          (subst (λ (us : List ℕ). CandidateTaken us base held held'' q' q'') here t)))

    pub whole-taken : y.count ≤ i → i ≤ y.count → held ≡ kept_cells (renumbered s g p cells) held₀ q
    whole-taken h k = all-symbols s p cells g held₀ held q q' base i a (omega (arith, h, k, count-signature_in y c.limited sheet)) (c.room ∙ c.counted sheet)
