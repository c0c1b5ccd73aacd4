-- `nk_explain` says what the call says.
use Rattle.exports.proofs.nk_explain.Goals as goal

pub returns : goal.returns
returns c = c.explain_out.ensures _ c.explain.ensures
