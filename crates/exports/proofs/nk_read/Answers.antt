-- `nk_read` says what the call says.
use mathlib.Core.Path.{ap, ◌∙◌}
use Rattle.layouts.specs.Layouts.{read_out}
use Rattle.exports.proofs.nk_read.Goals as goal

pub returns : goal.returns
returns c = c.read_out.ensures ∙ ap read_out c.read.ensures.answer
