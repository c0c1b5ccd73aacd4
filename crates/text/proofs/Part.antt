-- Laws of a part of a list: the elements from one place up to another.
use mathlib.Core.Path.{◌≡◌, sym, ap, ◌∙◌}
use mathlib.Core.List.{List, [], ◌∷◌}
use Prim.Native.Nat.{ℕ, zero, suc, ◌+◌, ◌-◌, ◌≤◌, ◌<◌}
use native.Mathlib.Nat.{sub-zero}
use native.Mathlib.Numerals.{add-one}
use native.Mathlib.Omega.{arith}
use lib.ListN.{length, get_or, take, drop, length-drop}
use lib.Seq.{drop-cons, get_or-take, get_or-drop, length-take-le, take-nil, take-take, take-length, drop-drop}
use Rattle.text.specs.Lines.{part}

drop-take : {A : Type 0} (k n : ℕ) (l : List A) → drop k (take n l) ≡ take (n - k) (drop k l)
drop-take zero n l = ap (λ (m : ℕ). take m l) (sym (sub-zero n))
drop-take (suc k) zero l = let e : 0 - suc k ≡ 0 = omega arith in ap (λ (m : ℕ). take m (drop (suc k) l)) (sym e)
drop-take (suc k) (suc n) [] = sym (take-nil (suc n - suc k))
drop-take (suc k) (suc n) (x ∷ xs) = let e : suc n - suc k ≡ n - k = omega arith in drop-take k n xs ∙ ap (λ (m : ℕ). take m (drop k xs)) (sym e)

module _ {A : Type 0} (s : List A) where
  pub part_none : (a : ℕ) → part s a a ≡ []
  part_none a = let e : a - a ≡ 0 = omega arith in ap (λ (n : ℕ). take n (drop a s)) e

  pub length_part : (a e : ℕ) → a ≤ e → e ≤ length s → length (part s a e) ≡ e - a
  length_part a e h k = length-take-le (e - a) (drop a s) (omega (arith, length-drop a s))

  pub get_d_part : (a e i : ℕ) (d : A) → i < e - a → get_or (part s a e) i d ≡ get_or s (a + i) d
  get_d_part a e i d h = get_or-take (e - a) (drop a s) i d h ∙ get_or-drop a s i d

  -- the first element, and the part after it
  pub part-cons : (a e : ℕ) (d : A) → a < e → e ≤ length s → part s a e ≡ get_or s a d ∷ part s (a + 1) e
  part-cons a e d h k =
      let m : e - a ≡ suc (e - (a + 1)) = omega arith in
      ap (λ (n : ℕ). take n (drop a s)) m
      ∙ ap (take (suc (e - (a + 1)))) (drop-cons s a d (omega arith))
      ∙ ap (λ (n : ℕ). get_or s a d ∷ take (e - (a + 1)) (drop n s)) (sym (add-one a))

  -- a part of a part
  pub drop-part : (a e k : ℕ) → drop k (part s a e) ≡ part s (a + k) e
  drop-part a e k =
      let m : e - a - k ≡ e - (a + k) = omega arith in
      drop-take k (e - a) (drop a s) ∙ ap (λ (n : ℕ). take n (drop k (drop a s))) m ∙ ap (take (e - (a + k))) (drop-drop k a s)

  pub take-part : (a e n : ℕ) → n ≤ e - a → take n (part s a e) ≡ part s a (a + n)
  take-part a e n h =
      let m : n ≡ a + n - a = omega arith in
      take-take n (e - a) (drop a s) h ∙ ap (λ (k : ℕ). take k (drop a s)) m

-- the part from a place to the end is all that is left
pub rest_all : {A : Type 0} (at : ℕ) (s : List A) → part s at (length s) ≡ drop at s
rest_all at s = ap (λ (n : ℕ). take n (drop at s)) (sym (length-drop at s)) ∙ take-length (drop at s)
