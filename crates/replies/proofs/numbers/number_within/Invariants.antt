use Rattle.replies.proofs.Digits.{Read}
use Rattle.replies.proofs.numbers.number_within.Given as goal

-- `number_within`: digit after digit, given up above what is asked for.
abbrev pub invariant-loop-i : goal.invariant-loop-i
invariant-loop-i l =
    Read l.word l.at l.most l.n l.i
