-- `take` meets its contract: the clause's literals are counted.
use mathlib.Core.Path.{refl}
use Rattle.stream.proofs.OneClause.{tally-fits, tallied}
use Rattle.stream.proofs.consumer.TallyingClauseConsumer.take.Goals as goal

pub tally-requires : goal.tally-requires
tally-requires c = tally-fits c.args.clause.now c.args.self.now c.requires

pub returns : goal.returns
returns c = λ clauses start before behind split fits a. tallied c.args.clause.now before start c.args.self.now _ a refl refl refl c.tally.auto.work c.tally.ensures
