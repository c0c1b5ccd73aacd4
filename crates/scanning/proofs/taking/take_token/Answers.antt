-- `take_token` goes by the next token, then by what is due after it.
use mathlib.Core.Path.{sym}
use Rattle.statements.specs.Dues.{due_token_in}
use Rattle.scanning.proofs.NextTaken.{not-misplaced, token-taken}
use Rattle.scanning.proofs.taking.take_token.Goals as goal

pub returns-in_err-next : goal.returns-in_err-next
returns-in_err-next c = let a = c.args in absurd (not-misplaced a.text.now (due_token_in a.due) a.at _ c.in_ok-kind.ensures c.requires c.in_err-next.ensures (sym c.if-is.ensures))

pub returns : goal.returns
returns c = let a = c.args in token-taken a.text.now (due_token_in a.due) a.at _ c.in_ok-kind.ensures c.requires _ _ c.in_ok-next.ensures (sym c.if-is.ensures) c.entries_at.ensures _ c.is-2.ensures
