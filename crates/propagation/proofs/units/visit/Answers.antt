-- `units::visit` meets its contract: an unset variable leaves room on the trail.
use native.Mathlib.Omega.{arith}
use Rattle.propagation.proofs.Visited.{room}
use Rattle.propagation.proofs.units.visit.Goals as goal

pub push-requires : goal.push-requires
push-requires c =
    let named = c.requires.names (omega arith) in
    record {
      variable = named;
      entry = omega (arith, c.requires.counts, room _ _ c.args.work.now (omega (arith, c.requires.lists)) named c.if-value-eq0.true);
      small = omega (arith, named, c.requires.variables);
      marked = omega arith;
      within = c.requires.lists;
    }

pub overflow_add-result : goal.overflow_add-result
overflow_add-result c =
    omega (arith, c.requires.counts, room _ _ c.args.work.now (omega (arith, c.requires.lists)) (c.requires.names (omega arith)) c.if-value-eq0.true)
