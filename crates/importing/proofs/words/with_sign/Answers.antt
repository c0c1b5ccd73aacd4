-- `with_sign` takes one of two codes.
use native.Mathlib.Omega.{arith}
use mathlib.Core.Path.{refl}
use Rattle.syntax.specs.Codes.{plus_code, minus_code}
use Rattle.importing.proofs.Coding.{fixed-code, begun-bounded}
use Rattle.importing.proofs.words.with_sign.Goals.{then-positive, else-positive}
use Rattle.importing.proofs.words.with_sign.Goals as goal

pub with_code-requires : goal.with_code-requires
with_code-requires c = let z = c in
    elim c.if-positive.branch [
      | then-positive w ↦ (z.requires.0, (rw w.code-is (fixed-code z.args.signature.count plus_code refl), begun-bounded _ _ 66 (omega arith) z.requires.1))
      | else-positive w ↦ (z.requires.0, (rw w.code-is (fixed-code z.args.signature.count minus_code refl), begun-bounded _ _ 66 (omega arith) z.requires.1))
    ]
