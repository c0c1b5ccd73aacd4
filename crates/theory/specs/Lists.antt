-- Functions on lists that the definitions share.
use Rattle.std.specs.Prelude.{ℕ, zero, suc, ◌+◌, Bool, true, false, cond, ◌&&◌, ◌||◌, List, [], ◌∷◌, ◌++◌, eqb}
use Rattle.std.proofs.Math.Option.{Option, none, some}

-- some element passes the test
abbrev pub any : {A : Type 0} → (A → Bool) → List A → Bool
any p [] = false
any p (x ∷ xs) = p x || any p xs

-- every element passes the test
abbrev pub all : {A : Type 0} → (A → Bool) → List A → Bool
all p [] = true
all p (x ∷ xs) = p x && all p xs

-- the elements that pass the test
abbrev pub select : {A : Type 0} → (A → Bool) → List A → List A
select p [] = []
select p (x ∷ xs) = cond (p x) (x ∷ select p xs) (select p xs)

-- the first element that passes the test
abbrev pub first_that : {A : Type 0} → (A → Bool) → List A → Option A
first_that p [] = none
first_that p (x ∷ xs) = elim (p x) [ true ↦ some x | false ↦ first_that p xs ]

-- the lists f x, one after the other
abbrev pub concat_map : {A B : Type 0} → (A → List B) → List A → List B
concat_map f [] = []
concat_map f (x ∷ xs) = f x ++ concat_map f xs

-- a, a + 1, .., n numbers
abbrev pub up_from : ℕ → ℕ → List ℕ
up_from a zero = []
up_from a (suc n) = a ∷ up_from (suc a) n

-- 0, 1, .., n - 1
abbrev pub up_to : ℕ → List ℕ
up_to n = up_from 0 n

-- the sum of the numbers
abbrev pub sum : List ℕ → ℕ
sum [] = 0
sum (x ∷ xs) = x + sum xs

-- the number is among those of the list
abbrev pub elem : ℕ → List ℕ → Bool
elem x [] = false
elem x (y ∷ ys) = eqb x y || elem x ys

-- the list without this number
abbrev pub remove : ℕ → List ℕ → List ℕ
remove x [] = []
remove x (y ∷ ys) = cond (eqb x y) (remove x ys) (y ∷ remove x ys)

-- each number once, in order of first appearance
abbrev pub distinct : List ℕ → List ℕ
distinct [] = []
distinct (x ∷ xs) = x ∷ remove x (distinct xs)

-- the two lists of numbers are equal
abbrev pub same : List ℕ → List ℕ → Bool
same [] [] = true
same [] (y ∷ ys) = false
same (x ∷ xs) [] = false
same (x ∷ xs) (y ∷ ys) = eqb x y && same xs ys

-- the value x in front of a list, if there is one
abbrev pub prefix : {A : Type 0} → A → Option (List A) → Option (List A)
prefix x none = none
prefix x (some xs) = some (x ∷ xs)

-- this place, or else one further on than the place found after it
abbrev pub place_at : Bool → Option ℕ → Option ℕ
place_at true r = some 0
place_at false none = none
place_at false (some i) = some (suc i)

-- the place of the first element that passes the test, counted from 0
abbrev pub place_that : {A : Type 0} → (A → Bool) → List A → Option ℕ
place_that p [] = none
place_that p (x ∷ xs) = place_at (p x) (place_that p xs)

-- the number, or 0 where there is none
abbrev pub or_zero : Option ℕ → ℕ
or_zero none = 0
or_zero (some i) = i
