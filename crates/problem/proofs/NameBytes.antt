-- Whether bytes are a name, byte by byte.
use Prim.Native.Nat.{ℕ, ◌+◌, ◌≤◌, ◌<◌}
use mathlib.Core.Path.{◌≡◌, refl, sym, ap, ◌∙◌}
use mathlib.Core.Bool.{Bool, true, false, ◌&&◌}
use mathlib.Core.List.{List, [], ◌∷◌}
use native.Mathlib.Numerals.{add-one}
use native.Mathlib.Omega.{arith}
use lib.Dec.{ltb}
use lib.ListN.{length, get_or, drop, drop_of_length-le}
use lib.Seq.{drop-cons}
use borrow.Author.Tests.{lt-ltb, le-ltb}
use Rattle.theory.specs.Lists.{all}
use Rattle.theory.specs.Problem.{is_lower, is_name_byte, is_name}

pub name-empty : (v : List ℕ) → length v ≡ 0 → false ≡ is_name v
unfolding is_name
name-empty [] e = refl
name-empty (b ∷ bs) e = absurd (omega arith)

pub name-long : (v : List ℕ) → 12 < length v → false ≡ is_name v
unfolding is_name
name-long [] h = refl
name-long (b ∷ bs) h = go (is_lower b && all is_name_byte bs) ∙ ap (λ (t : Bool). is_lower b && all is_name_byte bs && t) (sym (le-ltb (length bs) 12 (omega arith)))
  where
    go : (t : Bool) → false ≡ (t && false)
    go true = refl
    go false = refl

pub name-begins-otherwise : (v : List ℕ) → (length v ≡ 0 → ⊥) → is_lower (get_or v 0 0) ≡ false → false ≡ is_name v
unfolding is_name
name-begins-otherwise [] h e = refl
name-begins-otherwise (b ∷ bs) h e = ap (λ (t : Bool). t && all is_name_byte bs && ltb (length bs) 12) (sym e)

-- after its first byte the other bytes decide
pub name-begins : (v : List ℕ) → (length v ≡ 0 → ⊥) → length v ≤ 12 → is_lower (get_or v 0 0) ≡ true → is_name v ≡ all is_name_byte (drop 1 v)
unfolding is_name
name-begins [] h k e = absurd (h refl)
name-begins (b ∷ bs) h k e =
    ap (λ (t : Bool). t && all is_name_byte bs && ltb (length bs) 12) e ∙ ap (λ (t : Bool). all is_name_byte bs && t) (lt-ltb (length bs) 12 (omega arith)) ∙ go (all is_name_byte bs)
  where
    go : (t : Bool) → (t && true) ≡ t
    go true = refl
    go false = refl

module _ (v : List ℕ) (i : ℕ) (e : is_name v ≡ all is_name_byte (drop i v)) where
  first : i < length v → is_name v ≡ (is_name_byte (get_or v i 0) && all is_name_byte (drop (i + 1) v))
  first h = e ∙ rw (add-one, drop-cons v i 0 h)

  pub name-on : i < length v → is_name_byte (get_or v i 0) ≡ true → is_name v ≡ all is_name_byte (drop (i + 1) v)
  name-on h k = first h ∙ ap (λ (t : Bool). t && all is_name_byte (drop (i + 1) v)) k

  pub name-other : i < length v → is_name_byte (get_or v i 0) ≡ false → false ≡ is_name v
  name-other h k = sym (first h ∙ ap (λ (t : Bool). t && all is_name_byte (drop (i + 1) v)) k)

  pub name-whole : length v ≤ i → true ≡ is_name v
  name-whole h = sym (e ∙ ap (all is_name_byte) (drop_of_length-le v {i = i} h))
