use Rattle.syntax.specs.Signatures.{signature_in}
use Rattle.clauses.proofs.Held.{small-signature_in, arities-held}
use Rattle.clauses.proofs.Finished.{many-words, many-literals, flattenable, by-variables}
use Rattle.clauses.proofs.clause.within_limits.Goals as goal

-- `within_limits` counts words, literals and variables.
pub returns-then-w-gt-MAX_WORDS : goal.returns-then-w-gt-MAX_WORDS
returns-then-w-gt-MAX_WORDS c s = let a = c.args in many-words (signature_in s.sheet a.signature) s.words a.w s.passed s.clause s.read s.known c.if-w-gt-MAX_WORDS.true

pub returns-then-w-gt-MAX_LITERALS : goal.returns-then-w-gt-MAX_LITERALS
returns-then-w-gt-MAX_LITERALS c s = let a = c.args in many-literals (signature_in s.sheet a.signature) s.words a.w s.passed s.clause s.read s.known c.if-w-gt-MAX_WORDS.false c.if-w-gt-MAX_LITERALS.true

pub variable_count-requires : goal.variable_count-requires
variable_count-requires c = let z = c in let a = z.args in let s = z.requires in flattenable (signature_in s.sheet a.signature) s.words a.w s.passed s.clause s.read s.known c.if-w-gt-MAX_WORDS.false c.if-w-gt-MAX_LITERALS.false _ c.kept_codes.ensures _ (arities-held a.signature s.limited s.sheet _ c.arities-arities.ensures) (small-signature_in a.signature s.limited s.sheet)

pub returns : goal.returns
returns c s = let a = c.args in by-variables (signature_in s.sheet a.signature) s.words a.w s.passed s.clause s.read s.known c.if-w-gt-MAX_WORDS.false c.if-w-gt-MAX_LITERALS.false _ c.kept_codes.ensures _ (c.variable_count.ensures (flattenable (signature_in s.sheet a.signature) s.words a.w s.passed s.clause s.read s.known c.if-w-gt-MAX_WORDS.false c.if-w-gt-MAX_LITERALS.false _ c.kept_codes.ensures _ (arities-held a.signature s.limited s.sheet _ c.arities-arities.ensures) (small-signature_in a.signature s.limited s.sheet)))
