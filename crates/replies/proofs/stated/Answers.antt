-- `stated`: the marks are the setting exactly if all are set.
use mathlib.Core.Path.{sym, ◌∙◌}
use Rattle.replies.proofs.Marks.{all-stated, not-all}
use Rattle.replies.proofs.stated.Goals as goal

pub returns-then-all_set : goal.returns-then-all_set
returns-then-all_set c = let m = c.args.marks.now in all-stated m (sym c.all_set.ensures ∙ c.if-all_set.true)

pub returns : goal.returns
returns c = let m = c.args.marks.now in not-all m (sym c.all_set.ensures ∙ c.if-all_set.false)
