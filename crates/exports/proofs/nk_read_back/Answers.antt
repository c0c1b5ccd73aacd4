-- `nk_read_back` says what the call says.
use mathlib.Core.Path.{ap, ◌∙◌}
use Rattle.layouts.specs.Layouts.{write_out}
use Rattle.exports.proofs.nk_read_back.Goals as goal

pub returns : goal.returns
returns c = let b = c.read_back in record { answer = c.write_out.ensures ∙ ap write_out b.ensures.answer; left = b.ensures.left }
