-- `put_symbol` meets its contract: the table is read, then written, and there is room for it.
use Prim.Native.Nat.{ℕ, ◌+◌, ◌^◌, ◌≤◌}
use mathlib.Core.Path.{◌≡◌, sym, ap, ◌∙◌, subst}
use mathlib.Core.List.{List}
use native.Mathlib.Nat.{one-le-pow}
use native.Mathlib.Omega.{arith}
use lib.ListN.{length}
use Rattle.theory.specs.Vectors.{AllBelow}
use Rattle.theory.specs.CaseText.{table_text}
use Rattle.interpretation.proofs.Ranks.{table-within}
use Rattle.syntax.specs.Signatures.{kind_of, symbol_in}
use Rattle.valuations.specs.Cells.{cell_values}
use Rattle.reading_back.specs.Bits.{bits_held, table_in}
use Rattle.reading_back.proofs.tables.put_symbol.Goals as goal

pub slice_bounds-table-end : goal.slice_bounds-table-end
slice_bounds-table-end c = let s = c in
    omega (arith, c.power-cells.ensures, table-within s.args.size.0 s.args.symbol.arity s.requires.table_lent.size s.requires.table_lent.arity)

pub put_table-requires : goal.put_table-requires
put_table-requires c = let s = c in
    let a = s.args in
    let h = s.requires.table_lent in
    let t = c.table_held in
    let bits = bits_held a.bits in
    let cells : ℕ = a.size.0 ^ a.symbol.arity in
    let many : length t.new.table ≡ cells = omega (arith, t.auto.table, c.power-cells.ensures) in
    let e : t.new.table ≡ table_in a.size.0 a.symbol a.from.0 bits =
    t.ensures ∙ ap (λ (n : ℕ). cell_values a.size.0 (kind_of a.symbol.function) n a.from.0 bits) (sym t.auto.table ∙ many) in
    record {
      named = h.name;
      some-value = omega (arith, many, one-le-pow a.symbol.arity a.size.0 h.positive);
      below = subst (AllBelow 8) (sym e) h.below;
      room = subst (λ (l : List ℕ). a.at + length (table_text (symbol_in a.sheet.now a.symbol) l) ≤ length a.out.now) (sym e) s.requires.values_in_bounds;
    }
