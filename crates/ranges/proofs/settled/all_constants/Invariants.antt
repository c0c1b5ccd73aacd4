use Prim.Native.Nat.{ℕ}
use mathlib.Core.Path.{◌≡◌}
use mathlib.Core.List.{List}
use Rattle.syntax.specs.Signatures.{signature_in}
use Rattle.ranges.proofs.Constants.{constants_from}
use Rattle.ranges.proofs.settled.all_constants.Given as goal

-- `all_constants` meets its contract: the functions before i are constants.
abbrev pub invariant-loop-i : goal.invariant-loop-i
invariant-loop-i l =
    (sheet : List ℕ) → constants_from (signature_in sheet l.signature) 0 ≡ constants_from (signature_in sheet l.signature) l.i
