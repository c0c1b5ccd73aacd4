-- `merge` meets its contract, which is that of the function that it calls.
use Rattle.nesskettle.proofs.merge.Goals as goal

pub returns : goal.returns
returns c = c.merge_sheets.ensures
