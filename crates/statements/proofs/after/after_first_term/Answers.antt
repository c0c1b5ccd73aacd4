-- `after_first_term` tries = and != first.
use Rattle.statements.proofs.Moves.{either-moves}
use Rattle.tptp.specs.Grammar.{relations, after_literal}
use Rattle.tokens.specs.Pieces.{kind_in}
use Rattle.statements.proofs.after.after_first_term.Goals as goal

pub returns : goal.returns
returns c =
    let a = c.args in
    rw c.or.ensures (either-moves (kind_in a.kind) _ _ (relations a.wrapped a.tilde) (after_literal a.wrapped) c.relates.ensures c.after_literal.ensures)
