-- One element more: its name has appeared and the first elements of each name stay, or it is new and comes last among them.
use Prim.Native.Nat.{ℕ}
use mathlib.Core.Path.{◌≡◌, refl, sym, ap, ◌∙◌}
use mathlib.Core.Bool.{Bool, true, false, cond, not, ◌||◌, false≢true}
use mathlib.Core.List.{List, [], ◌∷◌, ◌++◌, append-nil}
use Rattle.theory.specs.Lists.{any, same, select}
use Rattle.theory.proofs.Tests.{or-false-left, or-false-right, or-false-join}
use Rattle.theory.proofs.Lists.{select-append, same_refl, same_true}
use Rattle.tptp.specs.Symbols.{first_of_name}
use Rattle.tptp.proofs.Fresh.{same-sym}
use Rattle.tptp.proofs.Models.{first-has}

-- what no element passes, none that is selected passes
pub select-fails : {A : Type 0} (p q : A → Bool) (xs : List A) → any p xs ≡ false → any p (select q xs) ≡ false
select-fails p q [] h = refl
select-fails p q (x ∷ xs) h = go (q x) (select-fails p q xs (or-false-right (p x) (any p xs) h))
  where
    go : (b : Bool) → any p (select q xs) ≡ false → any p (cond b (x ∷ select q xs) (select q xs)) ≡ false
    go true ih = or-false-join (p x) (any p (select q xs)) (or-false-left (p x) (any p xs) h) ih
    go false ih = ih

module _ {A : Type 0} (name : A → List ℕ) where
  abbrev has_name : List ℕ → A → Bool
  has_name w y = same w (name y)

  abbrev others : A → A → Bool
  others x y = not (same (name x) (name y))

  first-fails : (p : A → Bool) (xs : List A) → any p xs ≡ false → any p (first_of_name name xs) ≡ false
  first-fails p [] h = refl
  first-fails p (x ∷ xs) h =
      or-false-join (p x) (any p (select (others x) (first_of_name name xs))) (or-false-left (p x) (any p xs) h)
      (select-fails p (others x) (first_of_name name xs) (first-fails p xs (or-false-right (p x) (any p xs) h)))

  -- the first elements have the names of all
  pub first_alike : (w : List ℕ) (xs : List A) → any (has_name w) (first_of_name name xs) ≡ any (has_name w) xs
  first_alike w xs = go (any (has_name w) xs) refl
    where
      go : (b : Bool) → any (has_name w) xs ≡ b → any (has_name w) (first_of_name name xs) ≡ b
      go true e = first-has name w xs e
      go false e = first-fails (has_name w) xs e

  -- an element among those of other names than y's
  kept_or_not : (y x : A) (zs : List A) (b : Bool) → same (name y) (name x) ≡ b → select (others y) (zs ++ (x ∷ [])) ≡ select (others y) zs ++ cond (not b) (x ∷ []) []
  kept_or_not y x zs b e = select-append (others y) zs (x ∷ []) ∙ ap (λ (q : Bool). select (others y) zs ++ cond (not q) (x ∷ []) []) e

  pub first-new : (xs : List A) (x : A) → any (has_name (name x)) xs ≡ false → first_of_name name (xs ++ (x ∷ [])) ≡ first_of_name name xs ++ (x ∷ [])
  first-new [] x h = refl
  first-new (y ∷ xs) x h =
      ap (λ (l : List A). y ∷ select (others y) l) (first-new xs x (or-false-right (has_name (name x) y) (any (has_name (name x)) xs) h))
      ∙ ap (λ (l : List A). y ∷ l) (kept_or_not y x (first_of_name name xs) false (same-sym (name y) (name x) ∙ or-false-left (has_name (name x) y) (any (has_name (name x)) xs) h))

  pub first-again : (xs : List A) (x : A) → any (has_name (name x)) xs ≡ true → first_of_name name (xs ++ (x ∷ [])) ≡ first_of_name name xs
  first-again [] x h = absurd (false≢true h)
  first-again (y ∷ xs) x h = go (any (has_name (name x)) xs) refl (same (name x) (name y)) refl h (λ k. first-again xs x k)
    where
      rest : List A
      rest = first_of_name name xs

      go : (b : Bool) → any (has_name (name x)) xs ≡ b → (c : Bool) → same (name x) (name y) ≡ c → (c || b) ≡ true
          → (any (has_name (name x)) xs ≡ true → first_of_name name (xs ++ (x ∷ [])) ≡ rest) → first_of_name name (y ∷ (xs ++ (x ∷ []))) ≡ first_of_name name (y ∷ xs)
      go true e c f k ih = ap (λ (l : List A). y ∷ select (others y) l) (ih e)
      go false e true f k ih =
          let own : same (name y) (name x) ≡ true = ap (λ (w : List ℕ). same w (name x)) (sym (same_true (name x) (name y) f)) ∙ same_refl (name x) in
          ap (λ (l : List A). y ∷ select (others y) l) (first-new xs x e) ∙ ap (λ (l : List A). y ∷ l) (kept_or_not y x rest true own ∙ append-nil (select (others y) rest))
      go false e false f k ih = absurd (false≢true k)
