-- `nk_least_form` says what the call says.
use mathlib.Core.Path.{ap, ◌∙◌}
use Rattle.layouts.specs.Layouts.{write_out}
use Rattle.exports.proofs.nk_least_form.Goals as goal

pub returns : goal.returns
returns c = let w = c.least_form in record { answer = c.write_out.ensures ∙ ap write_out w.ensures.answer; left = w.ensures.left }
