use mathlib.Core.Path.{sym, ap, ◌∙◌}
use native.Mathlib.Nat.{zero-mul, suc-mul}
use native.Mathlib.Numerals.{add-one}
use native.Mathlib.Omega.{arith}
use lib.ListN.{length, get_or, replicate}
use Rattle.theory.specs.Syntax as theory
use Rattle.theory.specs.Valuation.{one_hot, bits_of_cells}
use Rattle.theory.proofs.OneHot.{length-one_hot}
use Rattle.text.specs.Put.{put, put-none, put-run}
use Rattle.valuations.proofs.Bits.{block-fits}
use Rattle.settings.proofs.CellBits.{length-cells, cell-more}
use Rattle.settings.proofs.bits.put_results.Goals as goal

pub loop-value-init : goal.loop-value-init
loop-value-init c = let a = c.args in (omega (arith, zero-mul a.size.0), sym (put-none a.out.now a.from.0))

pub loop-value-preserved : goal.loop-value-preserved
loop-value-preserved c = let s = c in
    let a = s.args in
    let l = c.loop-value in
    let r = l.value-index in
    let h = c.loop-value-test.true in
    let p = c.put_result in
    let vs = a.table.now in
    let first = bits_of_cells a.size.0 (replicate r theory.function) vs in
    let bits = one_hot a.size.0 (get_or vs r 0) in
    let fits = block-fits r (length vs) a.size.0 h in (
      rw add-one (omega (arith, l.invariant.0, suc-mul r a.size.0)),
      rw add-one
          (put-run a.out.now l.out p.new.out a.from.0 l.at first bits l.invariant.1 (omega (arith, l.invariant.0, length-cells a.size.0 theory.function r vs (omega arith))) p.ensures
          (omega (arith, l.invariant.0, s.requires.size_in_bounds, fits, length-one_hot a.size.0 (get_or vs r 0)))
          ∙ ap (put a.out.now a.from.0) (sym (cell-more a.size.0 theory.function r vs h))),
    )
