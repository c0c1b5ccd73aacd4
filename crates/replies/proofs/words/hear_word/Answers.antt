-- `hear_word`: a word is due among the numbers only.
use mathlib.Core.Logic.{⊎_elim}
use mathlib.Core.Path.{◌∙◌}
use Rattle.solver.specs.OnePass.{on_word}
use Rattle.replies.proofs.StageMatches.{on-unanswered, on-refuted, on-listing, on-complete, on-fault}
use Rattle.replies.proofs.words.hear_word.Goals as goal

pub returns-in-Listing : goal.returns-in-Listing
returns-in-Listing c = let a = c.args in c.hear_number.ensures ∙ on-listing a.stage a.marks.now (on_word a.word.now) c.in-Listing.is

pub returns-in-Unanswered : goal.returns-in-Unanswered
returns-in-Unanswered c = let k = on_word c.args.word.now in
    ⊎_elim (on-unanswered c.args.stage c.args.marks.now k) (⊎_elim (on-refuted c.args.stage c.args.marks.now k) (on-fault c.args.stage c.args.marks.now k)) c.in-Unanswered.is

pub returns-in-Complete : goal.returns-in-Complete
returns-in-Complete c = let a = c.args in on-complete a.stage a.marks.now (on_word a.word.now) c.in-Complete.is
