-- `clause_at` holds the value to the grammar and the limits.
use Rattle.syntax.specs.Signatures.{signature_in}
use Rattle.problem.proofs.ClausePlaces.{clause-refused, clause-read}
use Rattle.problem.proofs.clause_lines.clause_at.Goals as goal
use Rattle.std.proofs.lemmas.Result.{err_from_is_err_and}

pub returns-in_err-hold_line : goal.returns-in_err-hold_line
returns-in_err-hold_line c = let a = c.args in
    let p = err_from_is_err_and c.from_residual.result c.from_residual.ensures.1 in rw (p.1, p.2) (clause-refused a.named a.sheet.now a.from a.end (signature_in a.sheet.now a.signature) _ (rw c.in_err-hold_line.was at c.hold_line.ensures))

pub returns : goal.returns
returns c = let z = c in
    let a = z.args in
    clause-read a.named a.sheet.now a.from a.end (signature_in a.sheet.now a.signature) (rw c.in_ok-hold_line.was at c.hold_line.ensures) z.requires.0 z.requires.1.0
