-- `put_yes` meets its contract: the line of a model.
use Rattle.printing.proofs.ReasonLines.{yes-printed}
use Rattle.printing.proofs.reasons.put_yes.Goals as goal

pub returns : goal.returns
returns c = let a = c.put_bytes in yes-printed _ _ _ a.ensures.written a.ensures.place
