use Rattle.flattening.proofs.Definitions.{assemblable, flattened}
use Rattle.flattening.proofs.flat.flatten.Goals as goal

-- `flatten` meets its contract.
pub lift-requires : goal.lift-requires
lift-requires c = c.requires.clause

pub assembled-requires : goal.assembled-requires
assembled-requires c = let s = c.requires in
    assemblable s.clause c.lift.result (c.lift.ensures s.clause) s.variables

pub returns : goal.returns
returns c s = let l = c.lift in
    let h = l.ensures s.clause in
    flattened s.clause l.result h (assemblable s.clause l.result h s.variables) c.assembled.result c.assembled.ensures
