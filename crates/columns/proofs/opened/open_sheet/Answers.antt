-- `open_sheet` puts the column to a refusal.
use Rattle.std.proofs.Common.{rules}
use Rattle.problem.proofs.ModeRead.{mode-refused}
use Rattle.columns.proofs.opened.open_sheet.Goals as goal

pub map_err-requires : goal.map_err-requires
map_err-requires c = let a = c.args in
    λ f t.
    let r = mode-refused a.sheet.now a.named f (rw t at c.read_in.ensures.read) in
    search (rules, r)
