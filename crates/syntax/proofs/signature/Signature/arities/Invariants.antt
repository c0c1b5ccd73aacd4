use mathlib.Core.Path.{◌≡◌}
use lib.ListN.{length, take}
use Rattle.syntax.specs.Signatures.{arities_of}
use Rattle.syntax.proofs.signature.Signature.arities.Given as goal

-- `Signature::arities` meets its contract: the arities of the symbols before i are written.
abbrev pub invariant-loop-i : goal.invariant-loop-i
invariant-loop-i l =
    (length l.arities ≡ 56) × (take l.i l.arities ≡ arities_of (take l.i l.self.symbols))
