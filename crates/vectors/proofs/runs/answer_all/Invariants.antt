-- `answer_all` ends, each input standing behind the one before it.
use Rattle.std.proofs.Common.{length, ◌-◌}
use Rattle.vectors.proofs.runs.answer_all.Given as goal

abbrev pub decreases-loop-at : goal.decreases-loop-at
decreases-loop-at g l = length l.stored - l.at
