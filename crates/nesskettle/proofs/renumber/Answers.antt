-- `renumber` meets its contract, which is that of the function that it calls.
use Rattle.nesskettle.proofs.renumber.Goals as goal

pub returns : goal.returns
returns c = c.renumber_case.ensures
