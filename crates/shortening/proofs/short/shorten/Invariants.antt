use Prim.Native.Nat.{◌+◌, ◌-◌}
use Rattle.syntax.specs.Signatures.{signature_in}
use Rattle.shortening.specs.ShortLines.{LineClause}
use Rattle.shortening.proofs.ShortWalk.{ShortTo}
use Rattle.shortening.proofs.short.shorten.Given as goal

-- `shorten` goes through the line, one word of the shortened clause after the other.
abbrev pub invariant-loop-at : goal.invariant-loop-at
invariant-loop-at s =
    (l : LineClause (signature_in s.sheet s.signature) s.sheet s.from s.to) → ShortTo (signature_in s.sheet s.signature) (signature_in s.sheet s.all) s.sheet s.from s.to s.initial.named l s.at s.named s.words

abbrev pub decreases-loop-at : goal.decreases-loop-at
decreases-loop-at l =
    l.to + 1 - l.at
