-- `clause_line` reads the key, then the clause.
use Rattle.syntax.specs.Signatures.{signature_in}
use Rattle.problem.specs.Lines.{ValueWithin}
use Rattle.problem.proofs.ClausePlaces.{clause-unkeyed, clause-keyed}
use Rattle.clauses.proofs.Refused.{first_refused}
use Rattle.problem.proofs.clause_lines.clause_line.Goals as goal
use Rattle.std.specs.Prelude.{Some}

pub clause_at-requires : goal.clause_at-requires
clause_at-requires c = let z = c in
    let a = z.args in
    let h : ValueWithin a.sheet.now (Some (_, _)) = rw c.in_ok-from.ensures.ok_part at c.key_line.ensures.within in (h.0, (h.1, z.requires.1))

pub returns-in_err-from : goal.returns-in_err-from
returns-in_err-from c = let a = c.args in
    let e = c.in_err-from.ensures.ok_part in
    rw (first_refused _ _ _ e c.ok_or.ensures.value c.in_err-from.was c.from_residual.ensures.1) (clause-unkeyed a.named a.sheet.now a.at (signature_in a.sheet.now a.signature) (rw e at c.key_line.ensures))

pub returns : goal.returns
returns c = let z = c in
    let a = z.args in
    clause-keyed a.named a.sheet.now a.at (signature_in a.sheet.now a.signature) _ _ c.clause_at.result (rw c.in_ok-from.ensures.ok_part at c.key_line.ensures) c.clause_at.ensures
