-- `nk_find` says what the call says.
use mathlib.Core.Path.{ap, ◌∙◌}
use Rattle.layouts.specs.Layouts.{find_out}
use Rattle.exports.proofs.nk_find.Goals as goal

pub returns : goal.returns
returns c = let f = c.find-answer in record { answer = c.find_out.ensures ∙ ap find_out f.ensures.answer; worked = f.ensures.worked; left = f.ensures.left }
