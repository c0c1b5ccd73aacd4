use Prim.Native.Nat.{ℕ, zero, suc, ◌+◌, ◌-◌, ◌*◌}
use mathlib.Core.Path.{◌≡◌, refl, sym, ap, ◌∙◌}
use mathlib.Core.Bool.{Bool, ◌&&◌}
use mathlib.Core.List.{List}
use native.Mathlib.Nat.{suc-mul}
use native.Mathlib.Omega.{arith}
use lib.Dec.{eqb}
use lib.ListN.{drop, replicate}
use Rattle.std.proofs.Common.{rules, tests}
use Rattle.std.specs.List.{count_by, list_all, range_with_len}
use Rattle.std.proofs.lemmas.Iterator.{YieldsList-from_range, serves_from_Range}
use Rattle.std.proofs.lemmas.Iterator.Search.{all_from_yields_List}
use Rattle.theory.specs.Syntax as theory
use Rattle.theory.specs.Valuation.{all_have_values}
use Rattle.text.specs.Lines.{part}
use Rattle.valuations.specs.Cells.{bits_at, ones}
use Rattle.valuations.proofs.Bits.{ones-count_by, next-result, block-fits}
use Rattle.valuations.proofs.valuation.all_have_results.Goals as goal

-- the test of a cell
module _ (s first : ℕ) (setting : List ℕ) where
  abbrev at-cell : ℕ → Bool
  at-cell r = eqb (count_by (λ b. eqb b 1) (part setting (first + r * s) (first + r * s + s))) 1

  cell-is : (r : ℕ) → at-cell r ≡ eqb (ones (bits_at setting (first + r * s) s)) 1
  cell-is r =
      let at : ℕ = first + r * s in
      let n : at + s - at ≡ s = omega arith in
      ap (λ (n : ℕ). eqb (count_by (λ b. eqb b 1) (bits_at setting at n)) 1) n ∙ ap (λ (n : ℕ). eqb n 1) (sym (ones-count_by (bits_at setting at s)))

  -- so many cells from one on
  all-cells : (n r : ℕ) → list_all at-cell (range_with_len r n) ≡ all_have_values s (replicate n theory.function) (drop (first + r * s) setting)
  all-cells zero r = refl
  all-cells (suc n) r =
      let e : first + (r + 1) * s ≡ first + r * s + s = omega (arith, suc-mul r s) in
      ap (λ (b : Bool). b && list_all at-cell (range_with_len (r + 1) n)) (cell-is r)
      ∙ ap (λ (b : Bool). eqb (ones (bits_at setting (first + r * s) s)) 1 && b) (all-cells n (r + 1) ∙ ap (λ (k : ℕ). all_have_values s (replicate n theory.function) (drop k setting)) e)
      ∙ sym (next-result s n (first + r * s) setting)

-- `all_have_results` tests each cell.
pub all-requires-clause-callable : goal.all-requires-clause-callable
all-requires-clause-callable c = let s = c in
    let a = s.args in
    serves_from_Range (λ x q k. search (rules, tests)) (λ x low high.
    let fits = block-fits x a.cells a.size.0 high in
    let small = s.requires.size_bound.1 in
    let room = s.requires.size_in_bounds in
    search (rules, tests, fits, small, room))

pub returns : goal.returns
returns c = let a = c.args in
    let start : a.from.0 + 0 * a.size.0 ≡ a.from.0 = omega arith in
    all_from_yields_List (at-cell a.size.0 a.from.0 a.setting.now) _ _ _ c.all.ensures.ran (YieldsList-from_range 0 a.cells a.cells (cc) (omega arith)) (λ x b q k. search (rules, tests))
    ∙ all-cells a.size.0 a.from.0 a.setting.now a.cells 0
    ∙ ap (λ (k : ℕ). all_have_values a.size.0 (replicate a.cells theory.function) (drop k a.setting.now)) start
