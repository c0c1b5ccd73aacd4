-- An element put into a list, the later ones moved up by one.
use Prim.Native.Nat.{ℕ, ◌+◌, ◌-◌, ◌≤◌, ◌<◌}
use mathlib.Core.Path.{◌≡◌, sym, ap, ◌∙◌}
use mathlib.Core.Bool.{Bool, true}
use mathlib.Core.List.{List, [], ◌∷◌, ◌++◌, map, map-append}
use native.Mathlib.Numerals.{add-one}
use native.Mathlib.Omega.{arith}
use lib.ListN.{length, get_or, take, drop, set, length-append, length-take, length-drop, drop_of_length-le}
use lib.Seq.{append_snoc, take-suc, take-set-lt, take-paste, take-take, set_at, take_all, length-take-le}
use Rattle.std.specs.List.{copy_within}
use Rattle.std.proofs.lemmas.List.{drop-take}
use Rattle.theory.specs.Lists.{all}
use Rattle.theory.proofs.Tests.{and-join}
use Rattle.theory.proofs.Lists.{all_append, all_take, all_drop, map-take, map-drop}
use Rattle.declaring.specs.Tables.{insert_at}

module _ {A : Type 0} where
  -- an element stored at a place of the first n, those from there on moved up by one
  pub moved-up : (l : List A) (at n : ℕ) (x d : A) → at ≤ n → n < length l → take (n + 1) (set (copy_within l at n (at + 1)) at x) ≡ insert_at at x (take n l)
  moved-up l at n x d h k =
      let m : ℕ = n - at in
      let e : at + 1 + (n - at) ≡ n + 1 = omega arith in
      let f : at + (n - at) ≡ n = omega arith in
      let g : length (take at l) ≡ at = length-take-le at l (omega arith) in
      let rest : List A = take (n - at) (drop at l) in
      take-set-lt (n + 1) (copy_within l at n (at + 1)) at x (omega arith)
      ∙ ap (λ (k : List A). set k at x)
      (ap (λ (i : ℕ). take i (copy_within l at n (at + 1))) (sym e)
      ∙ take-paste l (at + 1) (drop at l) (n - at) (omega arith) (omega (arith, length-drop at l))
      ∙ ap (λ (i : ℕ). take i l ++ rest) (add-one at)
      ∙ ap (λ (k : List A). k ++ rest) (take-suc l at d (omega arith))
      ∙ append_snoc (take at l) (get_or l at d) rest)
      ∙ set_at (take at l) (get_or l at d) rest x at g
      ∙ ap (λ (k : List A). k ++ (x ∷ rest)) (sym (take-take at n l h))
      ∙ ap (λ (k : List A). take at (take n l) ++ (x ∷ k)) (sym (drop-take at (n - at) l) ∙ ap (λ (i : ℕ). drop at (take i l)) f)

  -- behind the last
  pub insert-last : (l : List A) (n : ℕ) (x : A) → length l ≤ n → insert_at n x l ≡ l ++ (x ∷ [])
  insert-last l n x h = ap (λ (k : List A). k ++ (x ∷ drop n l)) (take_all n l h) ∙ ap (λ (k : List A). l ++ (x ∷ k)) (drop_of_length-le l {i = n} h)

  pub length-insert : (n : ℕ) (x : A) (l : List A) → length (insert_at n x l) ≡ length l + 1
  length-insert n x l = omega (arith, length-append (take n l) (x ∷ drop n l), length-take n l, length-drop n l)

  pub all_insert : (p : A → Bool) (n : ℕ) (x : A) (l : List A) → all p l ≡ true → p x ≡ true → all p (insert_at n x l) ≡ true
  all_insert p n x l h k =
      all_append p (take n l) (x ∷ drop n l)
      ∙ and-join (all p (take n l)) (all p (x ∷ drop n l)) (all_take p n l h) (and-join (p x) (all p (drop n l)) k (all_drop p n l h))

pub map-insert : {A B : Type 0} (f : A → B) (n : ℕ) (x : A) (l : List A) → map f (insert_at n x l) ≡ insert_at n (f x) (map f l)
map-insert {B} f n x l =
    map-append f (take n l) (x ∷ drop n l)
    ∙ ap (λ (k : List B). k ++ (f x ∷ map f (drop n l))) (map-take f n l)
    ∙ ap (λ (k : List B). take n (map f l) ++ (f x ∷ k)) (map-drop f n l)
