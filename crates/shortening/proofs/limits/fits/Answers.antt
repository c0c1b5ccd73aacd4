use Rattle.shortening.proofs.Measuring.{measured-long, measured-whole}
use Rattle.shortening.proofs.limits.fits.Goals as goal

-- `fits` counts the words first.
pub returns-then-words-gt-MAX_WORDS : goal.returns-then-words-gt-MAX_WORDS
returns-then-words-gt-MAX_WORDS c m = let z = c in measured-long z.args.all z.args.words m c.if-words-gt-MAX_WORDS.true

pub within_limits-requires : goal.within_limits-requires
within_limits-requires c = let z = c in measured-whole z.args.all z.args.words z.requires.1 z.requires.0 c.if-words-gt-MAX_WORDS.false

pub returns : goal.returns
returns c m = let z = c in c.within_limits.ensures (measured-whole z.args.all z.args.words m z.requires.0 c.if-words-gt-MAX_WORDS.false)
