-- `read_named` reads the lines with the limits of the mode, then finds the terms to name.
use Rattle.problem.proofs.WholeSheet.{lines-named}
use Rattle.problem.proofs.ModeProblem.{lines-refused, lines-taken}
use Rattle.problem.proofs.sheet.read_named.Goals as goal

pub returns-in-Err : goal.returns-in-Err
returns-in-Err c = let a = c.args in
    record { read = lines-refused a.sheet.now (lines-named a.sheet.now) _ (rw c.in-Err.is at c.read_lines.ensures); accepted = tt }

pub with_names-requires : goal.with_names-requires
with_names-requires c = c.in-Ok.ensures.handed

pub returns-in-Ok : goal.returns-in-Ok
returns-in-Ok c = let a = c.args in record { read = lines-taken a.sheet.now (lines-named a.sheet.now) _ c.with_names.result (rw c.in-Ok.is at c.read_lines.ensures) c.with_names.ensures.read; accepted = c.with_names.ensures.accepted }
