-- `write` meets its contract, which is that of the function that it calls.
use Rattle.nesskettle.proofs.write.Goals as goal

pub returns : goal.returns
returns c = c.write_clauses.ensures
