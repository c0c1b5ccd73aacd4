use native.Mathlib.Omega.{arith}
use Rattle.uniting.proofs.SheetRuns.{lined, predicates-stand, predicate-run, functions-first, few-symbols}
use Rattle.uniting.proofs.united.predicate_lines.Goals as goal

-- `predicate_lines` takes the run where these lines stand.
pub overflow_add-p : goal.overflow_add-p
overflow_add-p c = let s = c in omega (arith, functions-first s.args.text.now s.args.p s.requires, few-symbols s.args.text.now s.args.p s.requires)

pub overflow_sub-p : goal.overflow_sub-p
overflow_sub-p c = let s = c in functions-first s.args.text.now s.args.p s.requires

pub run_of-requires : goal.run_of-requires
run_of-requires c = let s = c in (lined _ _ s.requires, predicates-stand _ _ s.requires)

pub returns : goal.returns
returns c = let s = c in let r = c.run_of in record { place = r.ensures.place; lines = predicate-run s.args.text.now s.args.p s.requires r.result r.ensures.line r.ensures.count }
