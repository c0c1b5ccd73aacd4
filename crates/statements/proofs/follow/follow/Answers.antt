-- `follow` tests for cnf, then follows the rest.
use mathlib.Core.Path.{sym}
use Rattle.statements.proofs.Steps.{follow-other, follow-whole, follow-foreign}
use Rattle.statements.proofs.follow.follow.Goals as goal

pub returns-then-not-is_cnf : goal.returns-then-not-is_cnf
returns-then-not-is_cnf c = let a = c.args in follow-other a.text.now a.at _ c.in-Some.ensures (sym c.if-not-is_cnf.ensures)

pub returns-in-Ok : goal.returns-in-Ok
returns-in-Ok c = let a = c.args in follow-whole a.text.now a.at _ c.in-Some.ensures (sym c.if-not-is_cnf.ensures) _ _ c.in-Ok.ensures

pub returns-in-Err : goal.returns-in-Err
returns-in-Err c = let a = c.args in follow-foreign a.text.now a.at _ c.in-Some.ensures (sym c.if-not-is_cnf.ensures) _ c.in-Err.ensures
