-- `take` meets its contract: the clause's line is written.
use mathlib.Core.Path.{refl}
use Rattle.stream.proofs.OneClause.{write-fits, written}
use Rattle.stream.proofs.consumer.WritingClauseConsumer.take.Goals as goal

pub put_clause-self-requires : goal.put_clause-self-requires
put_clause-self-requires c = write-fits c.args.clause.now c.args.self.now c.requires

pub returns : goal.returns
returns c = let p = c.put_clause-self in λ clauses start before behind split fits a. written c.args.clause.now clauses before behind start c.args.self.now _ split fits.1 a refl p.ensures.written p.ensures.place refl
