-- `count_line` reads the key, then the count.
use Rattle.problem.specs.Lines.{ValueWithin}
use Rattle.problem.proofs.KeyLines.{count-unkeyed, count-keyed}
use Rattle.clauses.proofs.Refused.{first_refused}
use Rattle.problem.proofs.lines.count_line.Goals as goal
use Rattle.std.specs.Prelude.{Some}

pub count_at-requires : goal.count_at-requires
count_at-requires c = let h : ValueWithin c.args.sheet.now (Some (_, _)) = rw c.in_ok-from.ensures.ok_part at c.key_line.ensures.within in (h.0.from, h.1)

pub returns-in_err-from : goal.returns-in_err-from
returns-in_err-from c = let a = c.args in
    let e = c.in_err-from.ensures.ok_part in
    rw (first_refused _ _ _ e c.ok_or.ensures.value c.in_err-from.was c.from_residual.ensures.1) (count-unkeyed a.sheet.now a.at a.key.now a.limit (rw e at c.key_line.ensures))

pub returns : goal.returns
returns c = let a = c.args in count-keyed a.sheet.now a.at a.key.now a.limit _ _ c.count_at.result (rw c.in_ok-from.ensures.ok_part at c.key_line.ensures) c.count_at.ensures
