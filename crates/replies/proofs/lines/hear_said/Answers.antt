-- `hear_said`: an s line is due first, then v lines.
use mathlib.Core.Logic.{⊎_elim}
use mathlib.Core.Path.{◌∙◌}
use Rattle.solver.specs.OnePass.{on_said}
use Rattle.replies.proofs.StageMatches.{on-unanswered, on-refuted, on-listing, on-complete, on-fault}
use Rattle.replies.proofs.lines.hear_said.Goals as goal

pub returns-in-Unanswered : goal.returns-in-Unanswered
returns-in-Unanswered c = let a = c.args in c.hear_claim.ensures a.marks.now ∙ on-unanswered a.stage a.marks.now (on_said a.line.now) c.in-Unanswered.is

pub returns-in-Listing : goal.returns-in-Listing
returns-in-Listing c = let a = c.args in c.hear_values.ensures ∙ on-listing a.stage a.marks.now (on_said a.line.now) c.in-Listing.is

pub returns-in-Refuted : goal.returns-in-Refuted
returns-in-Refuted c = let a = c.args in on-refuted a.stage a.marks.now (on_said a.line.now) c.in-Refuted.is

pub returns-in-Complete : goal.returns-in-Complete
returns-in-Complete c = let k = on_said c.args.line.now in
    ⊎_elim (on-complete c.args.stage c.args.marks.now k) (on-fault c.args.stage c.args.marks.now k) c.in-Complete.is
