use Rattle.std.proofs.lemmas.List.{nil_from_length}
use Rattle.loading.proofs.ClauseEntering.{entering-start, entering-turn, entering-done, literal-enterable}
use Rattle.loading.proofs.enter.Goals as goal

pub loop-literal-init : goal.loop-literal-init
loop-literal-init c =
    rw (c.into_iter-literal-iterator.ensures.into_iter_gives, c.rev-literal-items.ensures.source, c.iter.ensures.rest) (entering-start _ _ _ _)

pub enter_literal-requires : goal.enter_literal-requires
enter_literal-requires c =
    literal-enterable _ _ _ _ _ c.next.new.self.iter.rest.now _ c.requires (rw c.in-Some.ensures.steps at c.loop-literal.invariant)

pub loop-literal-preserved : goal.loop-literal-preserved
loop-literal-preserved c =
    entering-turn _ _ _ _ _ _ _ c.requires (rw c.in-Some.ensures.steps at c.loop-literal.invariant) _ c.enter_literal.ensures

pub returns : goal.returns
returns c =
    entering-done _ _ _ _ _ (rw (nil_from_length _ c.in-None.ensures.steps.0) at c.loop-literal.invariant)
