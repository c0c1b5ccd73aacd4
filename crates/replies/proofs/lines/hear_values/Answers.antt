-- `hear_values`: the words behind `v `.
use mathlib.Core.Path.{◌∙◌}
use Rattle.theory.proofs.Tests.{false_of_not, true_of_not}
use Rattle.replies.proofs.LinesHeard.{no-values, some-values}
use Rattle.replies.proofs.lines.hear_values.Goals as goal

pub returns-then-not-starts_with : goal.returns-then-not-starts_with
returns-then-not-starts_with c = let a = c.args in no-values a.line.now _ _ c.starts_with.ensures (false_of_not _ c.if-not-starts_with.true-raw)

pub slice_bounds-hear_words-count : goal.slice_bounds-hear_words-count
slice_bounds-hear_words-count c = c.starts_with.ensures.room (true_of_not _ c.if-not-starts_with.false-raw)

pub returns : goal.returns
returns c = let a = c.args in c.hear_words.ensures ∙ some-values a.line.now _ _ c.starts_with.ensures (true_of_not _ c.if-not-starts_with.false-raw)
