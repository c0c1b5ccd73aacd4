-- `constant_count` meets its contract: the marked symbols are the places of the constants.
use mathlib.Core.Path.{sym, ap, ◌∙◌}
use lib.ListN.{length}
use Rattle.twins.proofs.Noting.{marked-counted, places-marked}
use Rattle.twins.proofs.constants.constant_count.Goals as goal

pub returns-clause-count : goal.returns-clause-count
returns-clause-count c = let y = c.args.signature in λ sheet. c.marked_count.ensures ∙ marked-counted y y.count c.requires.held ∙ ap length (sym (places-marked y c.requires sheet))
