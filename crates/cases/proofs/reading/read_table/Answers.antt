-- `read_table` meets its contract: the line's end, its name, its length, its values.
use Prim.Native.Nat.{ℕ, ◌-◌, ◌*◌}
use mathlib.Core.Path.{◌≡◌, sym, ◌∙◌, ap}
use mathlib.Core.Bool.{true, false}
use Rattle.cases.proofs.LinesRead.{line-fault, name-fault, from-within, length-fault, values-fault, table-next}
use Rattle.cases.proofs.reading.read_table.Goals as goal

pub returns-then-end-case : goal.returns-then-end-case
returns-then-end-case c = let a = c.args in
    line-fault a.case.now a.at _ c.line_end-end.ensures a.sheet.now a.symbol a.size.0 a.base.0 a.cells.now c.if-end-case.true

pub returns-then-not-starts_with : goal.returns-then-not-starts_with
returns-then-not-starts_with c = let a = c.args in
    let w = c.starts_with in
    let z : w.result ≡ false = c.if-not-starts_with.true in
    name-fault a.case.now a.at _ c.line_end-end.ensures a.sheet.now a.symbol a.size.0 a.base.0 a.cells.now c.if-end-case.false (rw z at w.ensures)

pub overflow_sub-end : goal.overflow_sub-end
overflow_sub-end c = let s = c in
    let a = s.args in
    let w = c.starts_with in
    let z : w.result ≡ true = c.if-not-starts_with.false in
    from-within a.case.now a.at _ c.line_end-end.ensures a.sheet.now a.symbol a.size.0 a.base.0 a.cells.now c.if-end-case.false (rw z at w.ensures) s.requires.named

pub returns-then-end-from : goal.returns-then-end-from
returns-then-end-from c = let s = c in
    let a = s.args in
    let w = c.starts_with in
    let z : w.result ≡ true = c.if-not-starts_with.false in
    length-fault a.case.now a.at _ c.line_end-end.ensures a.sheet.now a.symbol a.size.0 a.base.0 a.cells.now c.if-end-case.false (rw z at w.ensures) s.requires.named
    (λ q. c.if-end-from.true (q ∙ ap (λ (n : ℕ). 2 * n) (sym c.power-count.ensures)))

pub slice_bounds-read_values-count : goal.slice_bounds-read_values-count
slice_bounds-read_values-count c = let s = c in
    let a = s.args in
    let w = c.starts_with in
    let z : w.result ≡ true = c.if-not-starts_with.false in
    from-within a.case.now a.at _ c.line_end-end.ensures a.sheet.now a.symbol a.size.0 a.base.0 a.cells.now c.if-end-case.false (rw z at w.ensures) s.requires.named

pub slice_bounds-read_values-start : goal.slice_bounds-read_values-start
slice_bounds-read_values-start c = let s = c in
    let a = s.args in
    let w = c.starts_with in
    let z : w.result ≡ true = c.if-not-starts_with.false in
    from-within a.case.now a.at _ c.line_end-end.ensures a.sheet.now a.symbol a.size.0 a.base.0 a.cells.now c.if-end-case.false (rw z at w.ensures) s.requires.named

pub returns-then-not-read_values : goal.returns-then-not-read_values
returns-then-not-read_values c = let s = c in
    let a = s.args in
    let w = c.starts_with in
    let v = c.read_values in
    let z : w.result ≡ true = c.if-not-starts_with.false in
    let q : v.result ≡ false = c.if-not-read_values.true in
    values-fault a.case.now a.at _ c.line_end-end.ensures a.sheet.now a.symbol a.size.0 a.base.0 a.cells.now c.if-end-case.false (rw z at w.ensures) s.requires.named
    (c.if-end-from.false ∙ ap (λ (n : ℕ). 2 * n) c.power-count.ensures) s.requires.positive _ (rw (c.power-count.ensures, q) at v.ensures)

pub returns : goal.returns
returns c = let s = c in
    let a = s.args in
    let w = c.starts_with in
    let v = c.read_values in
    let z : w.result ≡ true = c.if-not-starts_with.false in
    let q : v.result ≡ true = c.if-not-read_values.false in
    table-next a.case.now a.at _ c.line_end-end.ensures a.sheet.now a.symbol a.size.0 a.base.0 a.cells.now c.if-end-case.false (rw z at w.ensures) s.requires.named
    (c.if-end-from.false ∙ ap (λ (n : ℕ). 2 * n) c.power-count.ensures) s.requires.positive _ (rw (c.power-count.ensures, q) at v.ensures)
