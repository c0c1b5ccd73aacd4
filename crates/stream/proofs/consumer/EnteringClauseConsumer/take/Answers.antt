-- `take` meets its contract: the clause is entered.
use mathlib.Core.Path.{refl}
use Rattle.stream.proofs.OneClause.{enter-fits, entered}
use Rattle.stream.proofs.consumer.EnteringClauseConsumer.take.Goals as goal

pub enter-requires : goal.enter-requires
enter-requires c = enter-fits c.args.clause.now c.args.self.now c.requires

pub returns : goal.returns
returns c = λ clauses start before behind split fits a. entered c.args.clause.now clauses before behind start c.args.self.now _ split a refl refl refl c.enter.auto.work c.enter.ensures
