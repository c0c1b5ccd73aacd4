use Rattle.text.proofs.Backwards.{Backwards}
use Rattle.text.proofs.writing.put_number.Given as goal

-- `put_number` stores the digits from the last to the first.
abbrev pub invariant-loop-i : goal.invariant-loop-i
invariant-loop-i l =
    Backwards l.initial.out l.at l.n l.out l.left l.i
