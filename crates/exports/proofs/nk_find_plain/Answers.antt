-- `nk_find_plain` says what the call says.
use mathlib.Core.Path.{ap, ◌∙◌}
use Rattle.layouts.specs.Layouts.{plain_out}
use Rattle.exports.proofs.nk_find_plain.Goals as goal

pub returns : goal.returns
returns c = let w = c.find_plain in record { answer = c.plain_out.ensures ∙ ap plain_out w.ensures.answer; left = w.ensures.left }
