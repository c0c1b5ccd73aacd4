use Prim.Native.Nat.{◌+◌, ◌-◌}
use Rattle.syntax.specs.Signatures.{signature_in}
use Rattle.shortening.specs.FixedEnds.{TermHere}
use Rattle.shortening.proofs.FixedRun.{Scanned}
use Rattle.shortening.proofs.terms.fixed_end.Given as goal

-- `fixed_end` passes the words of the term, up to its end or its first variable.
abbrev pub invariant-loop-next : goal.invariant-loop-next
invariant-loop-next l =
    (t : TermHere (signature_in l.sheet l.signature) l.sheet l.at l.to) → Scanned (signature_in l.sheet l.signature) l.sheet l.at l.to t l.next l.due

abbrev pub decreases-loop-next : goal.decreases-loop-next
decreases-loop-next l =
    l.to + 1 - l.next
