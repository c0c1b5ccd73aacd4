-- `one_more` goes by the next token, then by what is due after it.
use mathlib.Core.Path.{sym}
use Rattle.statements.proofs.Steps.{step-misplaced, step-stops, step-on}
use Rattle.statements.specs.Dues.{due_token_in}
use Rattle.statements.proofs.follow.one_more.Goals as goal

pub returns-in-None : goal.returns-in-None
returns-in-None c = let a = c.args in step-misplaced a.text.now a.at (due_token_in a.due) _ c.in-Some.ensures c.requires.1.1 c.in-None.ensures

pub returns-in-Some-after : goal.returns-in-Some-after
returns-in-Some-after c = let a = c.args in step-stops a.text.now a.at (due_token_in a.due) _ c.in-Some.ensures c.requires.1.1 _ c.in-Some-after.ensures (sym c.if-is.ensures)

pub returns-in-Some-2 : goal.returns-in-Some-2
returns-in-Some-2 c = let a = c.args in step-on a.text.now a.at (due_token_in a.due) _ c.in-Some.ensures c.requires.1.1 _ c.requires.1.0 c.in-Some-after.ensures (sym c.if-is.ensures)
