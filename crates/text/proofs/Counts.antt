-- Laws of numbers of one or two digits.
use mathlib.Core.Path.{◌≡◌, refl}
use mathlib.Core.Bool.{true}
use mathlib.Core.List.{List, [], ◌∷◌}
use Prim.Native.Nat.{ℕ, ◌≤◌}
use native.Mathlib.Omega.{arith}
use lib.Dec.{leb, ltb}
use lib.ListN.{length, get_or}
use borrow.Author.Tests.{leb-true}
use Rattle.theory.specs.Bytes.{is_digit}
use Rattle.theory.proofs.Tests.{and_left}

pub digit-from : (a : ℕ) → is_digit a ≡ true → 48 ≤ a
digit-from a e = leb-true 48 a (and_left (leb 48 a) (ltb a 58) e)

-- the byte of a text of one byte
pub one_byte : (v : List ℕ) → length v ≡ 1 → v ≡ get_or v 0 0 ∷ []
one_byte [] e = absurd (omega arith)
one_byte (a ∷ []) e = refl
one_byte (a ∷ b ∷ v) e = absurd (omega arith)
