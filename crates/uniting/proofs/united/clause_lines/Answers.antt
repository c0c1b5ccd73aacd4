-- `clause_lines` takes the run where these lines stand.
use Rattle.uniting.proofs.SheetRuns.{lined, clauses-stand, clause-run}
use Rattle.uniting.proofs.united.clause_lines.Goals as goal

pub run_of-requires : goal.run_of-requires
run_of-requires c = let s = c in (lined _ _ s.requires, clauses-stand _ _ s.requires)

pub returns : goal.returns
returns c = let s = c in let r = c.run_of in record { place = r.ensures.place; lines = clause-run s.args.text.now s.args.p s.requires r.result r.ensures.line r.ensures.count }
