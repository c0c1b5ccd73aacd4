-- `nk_setting` says what the call says.
use mathlib.Core.Path.{ap, ◌∙◌}
use Rattle.layouts.specs.Layouts.{write_out}
use Rattle.exports.proofs.nk_setting.Goals as goal

pub returns : goal.returns
returns c = let w = c.setting in record { answer = c.write_out.ensures ∙ ap write_out w.ensures.answer; left = w.ensures.left }
