use native.Mathlib.Omega.{arith}
use Rattle.tokens.proofs.NextPieces.{passed-gap, gap-size, token-size, found-token, found-open}
use Rattle.tokens.proofs.next.next_token.Goals as goal

pub overflow_add-i : goal.overflow_add-i
overflow_add-i c = let l = c.loop-i in omega (arith, (gap-size c.args.text.now l.i c.loop-i-test.true _ c.in-Gap.ensures).1, c.well_formed)

pub loop-i-smaller : goal.loop-i-smaller
loop-i-smaller c = let l = c.loop-i in omega (arith, (gap-size c.args.text.now l.i c.loop-i-test.true _ c.in-Gap.ensures).0, c.loop-i-test.true)

pub loop-i-preserved : goal.loop-i-preserved
loop-i-preserved c = let l = c.loop-i in passed-gap _ _ l.i _ c.loop-i-test.true c.in-Gap.ensures l.invariant

pub overflow_add-result : goal.overflow_add-result
overflow_add-result c = let l = c.loop-i in omega (arith, (token-size c.args.text.now l.i c.loop-i-test.true _ _ c.in-Token.ensures).1, c.well_formed)

pub returns-in-Token : goal.returns-in-Token
returns-in-Token c = let l = c.loop-i in found-token _ _ l.i _ _ c.loop-i-test.true c.in-Token.ensures l.invariant

pub returns-in-Unclosed : goal.returns-in-Unclosed
returns-in-Unclosed c = let l = c.loop-i in found-open _ _ l.i c.loop-i-test.true c.in-Unclosed.ensures l.invariant
