-- `reply_at`: each stage has its reply.
use mathlib.Core.Logic.{⊎_elim}
use mathlib.Core.Path.{◌∙◌}
use Rattle.solver.specs.OnePass.{on_end}
use Rattle.replies.proofs.StageMatches.{on-unanswered, on-refuted, on-listing, on-complete, on-fault}
use Rattle.replies.proofs.reply_at.Goals as goal

pub returns-in-Refuted : goal.returns-in-Refuted
returns-in-Refuted c = on-refuted _ _ on_end c.in-Refuted.is

pub returns-in-Complete : goal.returns-in-Complete
returns-in-Complete c = c.stated.ensures ∙ on-complete _ _ on_end c.in-Complete.is

pub returns-in-Unanswered : goal.returns-in-Unanswered
returns-in-Unanswered c =
    ⊎_elim (on-unanswered c.args.stage c.args.marks.now on_end)
    (⊎_elim (on-listing c.args.stage c.args.marks.now on_end) (on-fault c.args.stage c.args.marks.now on_end)) c.in-Unanswered.is
