-- Laws of names: their bytes and length, and what a name is as a word.
use Prim.Native.Nat.{ℕ, ◌≤◌, ◌<◌}
use mathlib.Core.Path.{◌≡◌, ap, ◌∙◌}
use mathlib.Core.Bool.{true, false, not, ◌&&◌, ◌||◌, false≢true}
use mathlib.Core.Option.{some}
use mathlib.Core.List.{List, [], ◌∷◌}
use native.Mathlib.Omega.{arith}
use lib.Dec.{eqb, ltb}
use lib.ListN.{length}
use Rattle.theory.specs.Lists.{all, same}
use Rattle.theory.specs.Bytes.{is_digit}
use Rattle.theory.specs.Syntax.{Symbol, Signature, no_symbol, symbol_at}
use Rattle.theory.specs.Problem.{is_lower, is_name_byte, is_name, place_of_name}
use Rattle.theory.proofs.Tests.{both_false, eqb-true, ltb-true, not-true, and_left, and_right, and-join, or_left}
use Rattle.theory.proofs.Lists.{all-imply, same_true}
use Rattle.theory.proofs.Finding.{place_that-some}

lower-name_byte : (b : ℕ) → is_lower b ≡ true → is_name_byte b ≡ true
lower-name_byte b h = or_left (is_lower b || is_digit b) (eqb b 95) (or_left (is_lower b) (is_digit b) h)

pub name-bytes : (w : List ℕ) → is_name w ≡ true → all is_name_byte w ≡ true
unfolding is_name
name-bytes [] h = absurd (false≢true h)
name-bytes (b ∷ bs) h =
    let k : (is_lower b && all is_name_byte bs) ≡ true = and_left (is_lower b && all is_name_byte bs) (ltb (length bs) 12) h in
    and-join (is_name_byte b) (all is_name_byte bs) (lower-name_byte b (and_left (is_lower b) (all is_name_byte bs) k)) (and_right (is_lower b) (all is_name_byte bs) k)

pub name-length : (w : List ℕ) → is_name w ≡ true → (1 ≤ length w) × (length w ≤ 12)
unfolding is_name
name-length [] h = absurd (false≢true h)
name-length (b ∷ bs) h =
    let lt : length bs < 12 = ltb-true (length bs) 12 (and_right (is_lower b && all is_name_byte bs) (ltb (length bs) 12) h) in
    (omega arith, omega arith)

-- a byte that is no name byte, as LF, space and =, is in no name
pub name-without : (x : ℕ) (w : List ℕ) → is_name_byte x ≡ false → is_name w ≡ true → all (λ b. not (eqb b x)) w ≡ true
name-without x w h k =
    all-imply is_name_byte (λ b. not (eqb b x)) w
    (λ b e. ap not (not-true (eqb b x) (λ z. both_false e (ap is_name_byte (eqb-true b x z) ∙ h))))
    (name-bytes w k)

-- a name that is found is the name of the symbol there
pub named-place : (g : Signature) (w : List ℕ) (i : ℕ) → place_of_name w g ≡ some i → (i < length g) × (w ≡ (symbol_at g i).name)
named-place g w i e =
    let s = place_that-some (λ (f : Symbol). same w f.name) g i no_symbol e in
    (s.0, same_true w (symbol_at g i).name s.1)
