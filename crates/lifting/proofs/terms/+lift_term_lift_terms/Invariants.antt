-- The measure: the words left, twice, and one more for the list reader, which calls the term reader at the same place.
use Rattle.std.proofs.Common.{◌+◌, ◌-◌, ◌*◌, length}
use Rattle.lifting.proofs.terms.+lift_term_lift_terms.Given as goal

abbrev pub decreases-lift_term : goal.decreases-lift_term
decreases-lift_term l = 2 * (length l.reading.now.words.now - l.at)

abbrev pub decreases-lift_terms : goal.decreases-lift_terms
decreases-lift_terms l = 2 * (length l.reading.now.words.now - l.at) + 1
