-- `declared` meets its contract.
use Prim.Native.Nat.{ℕ}
use mathlib.Core.Path.{ap, ◌∙◌}
use lib.ListN.{take}
use Rattle.syntax.specs.declared.signature.Signature.{Signature}
use Rattle.syntax.proofs.Signatures.{declared-prefix}
use Rattle.syntax.proofs.signature.Signature.declared.Goals as goal

pub returns : goal.returns
returns c = let a = c.args.self in
    ap {B = Signature} (λ (n : ℕ). record { symbols = a.symbols; count = n }) (c.declared_count.ensures ∙ declared-prefix (take a.count a.symbols))
