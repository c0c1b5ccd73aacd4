-- `nk_judge` says what the call says.
use mathlib.Core.Path.{ap, ◌∙◌}
use Rattle.layouts.specs.Layouts.{judge_out}
use Rattle.exports.proofs.nk_judge.Goals as goal

pub returns : goal.returns
returns c = c.judge_out.ensures ∙ ap judge_out c.judge.ensures.answer
