use native.Mathlib.Omega.{arith}
use Rattle.uniting.proofs.LineRuns.{lines-few, line-starts}
use Rattle.uniting.proofs.runs.run_of.Goals as goal

-- `run_of` takes the places of both ends.
pub overflow_add-end : goal.overflow_add-end
overflow_add-end c = let s = c in omega (arith, s.requires.1, s.requires.0.short, lines-few s.args.text.now)

pub returns-clause-place : goal.returns-clause-place
returns-clause-place c = let s = c in
    let a = s.args in
    record {
      lined = s.requires.0;
      within = s.requires.1;
      from = line-starts a.text.now s.requires.0 _ _ (omega (arith, s.requires.1)) c.line_start-from.ensures;
      to = line-starts a.text.now s.requires.0 _ _ s.requires.1 c.line_start-to.ensures;
    }
