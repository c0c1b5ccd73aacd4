use mathlib.Core.Path.{◌∙◌}
use native.Mathlib.Numerals.{add-one}
use native.Mathlib.Omega.{arith}
use lib.ListN.{length-set}
use Rattle.grounding.proofs.CellWalk.{result-more}
use Rattle.grounding.proofs.cell_clauses.some_result.Goals as goal

pub loop-d-preserved : goal.loop-d-preserved
loop-d-preserved c = let l = c.loop-d in
    let a = c.args in (
      length-set l.some l.d c.literal.result ∙ l.invariant.0,
      rw add-one (result-more a.x.0 l.d c.result_is.result.0 c.literal.result l.some (omega (arith, l.invariant.0)) l.invariant.1 c.result_is.ensures c.literal.ensures),
    )
