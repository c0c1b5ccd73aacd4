-- `with_marks` goes by the marks.
use native.Mathlib.Omega.{arith}
use mathlib.Core.Path.{refl}
use mathlib.Core.List.{[], ◌∷◌}
use Rattle.theory.specs.Grammar.{sign}
use Rattle.syntax.specs.Codes.{equals_code}
use Rattle.importing.proofs.Coding.{fixed-code, begun-bounded, begun_more}
use Rattle.importing.proofs.words.with_marks.Goals as goal

pub with_code-requires : goal.with_code-requires
with_code-requires c = let z = c in (z.requires.0, (fixed-code z.args.signature.count equals_code refl, begun-bounded _ _ 66 (omega arith) (begun_more _ _ _ 65 66 (sign _ ∷ []) z.requires.1 c.with_sign-signed.ensures (omega arith))))
