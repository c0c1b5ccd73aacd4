-- The values on a symbol's line, each after a byte that parts it from what stands before.
use Rattle.std.specs.Prelude.{ℕ, ◌-◌, cond, ◌&&◌, List, [], ◌∷◌, eqb}
use Rattle.std.proofs.Math.Option.{Option, none, some}
use Rattle.theory.specs.Lists.{prefix}
use Rattle.theory.specs.Bytes.{space}
use Rattle.theory.specs.Syntax.{Kind}
use Rattle.theory.specs.CaseText.{least_byte, equals_sign, is_value_byte}

-- the byte before value i
abbrev pub separator_at : ℕ → ℕ
separator_at i = cond (eqb i 0) equals_sign space

-- the values of a kind, the first after the byte c and every other after a space
abbrev pub values_after : ℕ → Kind → ℕ → List ℕ → Option (List ℕ)
values_after s k c [] = some []
values_after s k c (x ∷ []) = none
values_after s k c (x ∷ b ∷ bs) = cond (eqb x c && is_value_byte s k b) (prefix (b - least_byte k) (values_after s k space bs)) none
