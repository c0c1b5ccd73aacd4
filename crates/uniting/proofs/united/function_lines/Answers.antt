use Rattle.uniting.proofs.SheetRuns.{lined, functions-stand, function-run}
use Rattle.uniting.proofs.united.function_lines.Goals as goal

-- `function_lines` takes the run where these lines stand.
pub run_of-requires : goal.run_of-requires
run_of-requires c = let s = c in (lined _ _ s.requires, functions-stand _ _ s.requires)

pub returns : goal.returns
returns c = let s = c in let r = c.run_of in record { place = r.ensures.place; lines = function-run s.args.text.now s.args.p s.requires r.result r.ensures.line r.ensures.count }
