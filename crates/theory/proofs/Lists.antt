-- Laws of the list functions that the definitions share.
use Prim.Native.Nat.{ℕ, zero, suc, ◌+◌, ◌*◌, ◌≤◌, ◌<◌}
use mathlib.Core.Path.{◌≡◌, refl, sym, ap, ◌∙◌}
use mathlib.Core.Logic.{◌⊎◌, inl, inr, ◌≢◌}
use mathlib.Core.Bool.{Bool, true, false, cond, not, ◌&&◌, ◌||◌, false≢true, or_assoc, and_assoc}
use mathlib.Core.List.{List, [], ◌∷◌, ◌++◌, map, map-append, append_assoc}
use native.Mathlib.Nat.{add-zero, zero-add, suc-add, suc-mul, zero-mul, eq-or-lt_of_le}
use native.Mathlib.Omega.{arith}
use lib.Dec.{eqb}
use lib.ListN.{length, get_or, drop, take, length-map}
use lib.Seq.{ext_get_or}
use Rattle.theory.specs.Lists.{any, all, select, concat_map, up_from, up_to, sum, elem, remove, distinct, same}
use Rattle.theory.proofs.Tests.{true-or-false, eqb-true, eqb_same, eqb-ne, and_left, and_right, and-join, or_cases, or_left, or_right}

-- any and all
module _ {A : Type 0} where
  pub any_append : (p : A → Bool) (xs ys : List A) → any p (xs ++ ys) ≡ (any p xs || any p ys)
  any_append p [] ys = refl
  any_append p (x ∷ xs) ys = ap (λ (b : Bool). p x || b) (any_append p xs ys) ∙ sym (or_assoc (p x) (any p xs) (any p ys))

  pub all_append : (p : A → Bool) (xs ys : List A) → all p (xs ++ ys) ≡ (all p xs && all p ys)
  all_append p [] ys = refl
  all_append p (x ∷ xs) ys = ap (λ (b : Bool). p x && b) (all_append p xs ys) ∙ sym (and_assoc (p x) (all p xs) (all p ys))

  -- a test that all elements pass, at a place
  pub all-at : (p : A → Bool) (d : A) (xs : List A) (i : ℕ) → all p xs ≡ true → i < length xs → p (get_or xs i d) ≡ true
  all-at p d [] i h k = absurd (omega arith)
  all-at p d (x ∷ xs) zero h k = and_left (p x) (all p xs) h
  all-at p d (x ∷ xs) (suc i) h k = all-at p d xs i (and_right (p x) (all p xs) h) (omega arith)

  pub all-and : (p q : A → Bool) (xs : List A) → all p xs ≡ true → all q xs ≡ true → all (λ x. p x && q x) xs ≡ true
  all-and p q [] h k = refl
  all-and p q (x ∷ xs) h k =
      and-join (p x && q x) (all (λ x. p x && q x) xs) (and-join (p x) (q x) (and_left (p x) (all p xs) h) (and_left (q x) (all q xs) k))
      (all-and p q xs (and_right (p x) (all p xs) h) (and_right (q x) (all q xs) k))

pub elem-append : (x : ℕ) (xs ys : List ℕ) → elem x (xs ++ ys) ≡ (elem x xs || elem x ys)
elem-append x [] ys = refl
elem-append x (y ∷ xs) ys = ap (λ (b : Bool). eqb x y || b) (elem-append x xs ys) ∙ sym (or_assoc (eqb x y) (elem x xs) (elem x ys))

-- the elements of a list of numbers
pub elem-here : (d : ℕ) (ds : List ℕ) → elem d (d ∷ ds) ≡ true
elem-here d ds = or_left (eqb d d) (elem d ds) (eqb_same d)

pub elem-there : (d e : ℕ) (ds : List ℕ) → elem d ds ≡ true → elem d (e ∷ ds) ≡ true
elem-there d e ds h = or_right (eqb d e) (elem d ds) h

pub elem-single : (d e : ℕ) → elem d (e ∷ []) ≡ true → d ≡ e
elem-single d e h = go (or_cases (eqb d e) false h)
  where
    go : (eqb d e ≡ true) ⊎ (false ≡ true) → d ≡ e
    go (inl k) = eqb-true d e k
    go (inr k) = absurd (false≢true k)

pub elem-up_from : (d a n : ℕ) → elem d (up_from a n) ≡ true → (a ≤ d) × (d < a + n)
elem-up_from d a zero h = absurd (false≢true h)
elem-up_from d a (suc n) h = go (or_cases (eqb d a) (elem d (up_from (suc a) n)) h) (λ k. elem-up_from d (suc a) n k)
  where
    go : (eqb d a ≡ true) ⊎ (elem d (up_from (suc a) n) ≡ true) → (elem d (up_from (suc a) n) ≡ true → (suc a ≤ d) × (d < suc a + n)) → (a ≤ d) × (d < a + suc n)
    go (inl k) ih = let z : d ≡ a = eqb-true d a k in (omega arith, omega arith)
    go (inr k) ih = let r = ih k in (omega (arith, r.0), omega (arith, r.1))

pub up_from-elem : (d a n : ℕ) → a ≤ d → d < a + n → elem d (up_from a n) ≡ true
up_from-elem d a zero lo hi = absurd (omega arith)
up_from-elem d a (suc n) lo hi = go (true-or-false (eqb d a)) (λ k. up_from-elem d (suc a) n k (omega arith))
  where
    go : (eqb d a ≡ true) ⊎ (eqb d a ≡ false) → (suc a ≤ d → elem d (up_from (suc a) n) ≡ true) → elem d (a ∷ up_from (suc a) n) ≡ true
    go (inl k) ih = or_left (eqb d a) (elem d (up_from (suc a) n)) k
    go (inr k) ih = let ne : d ≢ a = eqb-ne d a k in elem-there d a (up_from (suc a) n) (ih (omega arith))

elem-remove : (x y : ℕ) (xs : List ℕ) → eqb x y ≡ false → elem x (remove y xs) ≡ elem x xs
elem-remove x y [] h = refl
elem-remove x y (z ∷ zs) h = go (eqb y z) refl (elem-remove x y zs h)
  where
    go : (b : Bool) → eqb y z ≡ b → elem x (remove y zs) ≡ elem x zs → elem x (cond b (remove y zs) (z ∷ remove y zs)) ≡ (eqb x z || elem x zs)
    go true e ih =
        let k : eqb x z ≡ false = ap (eqb x) (sym (eqb-true y z e)) ∙ h in
        ih ∙ ap (λ (b : Bool). b || elem x zs) (sym k)
    go false e ih = ap (λ (b : Bool). eqb x z || b) ih

-- a test that each number of the list passes
pub elem-all : (p : ℕ → Bool) (xs : List ℕ) → ((x : ℕ) → elem x xs ≡ true → p x ≡ true) → all p xs ≡ true
elem-all p [] h = refl
elem-all p (x ∷ xs) h =
    and-join (p x) (all p xs) (h x (or_left (eqb x x) (elem x xs) (eqb_same x))) (elem-all p xs (λ y e. h y (or_right (eqb y x) (elem y xs) e)))

pub all-elem : (p : ℕ → Bool) (xs : List ℕ) (x : ℕ) → all p xs ≡ true → elem x xs ≡ true → p x ≡ true
all-elem p [] x h e = absurd (false≢true e)
all-elem p (y ∷ xs) x h e = go (or_cases (eqb x y) (elem x xs) e) (λ k. all-elem p xs x (and_right (p y) (all p xs) h) k)
  where
    go : (eqb x y ≡ true) ⊎ (elem x xs ≡ true) → (elem x xs ≡ true → p x ≡ true) → p x ≡ true
    go (inl k) ih = ap p (eqb-true x y k) ∙ and_left (p y) (all p xs) h
    go (inr k) ih = ih k

pub elem-distinct : (x : ℕ) (xs : List ℕ) → elem x xs ≡ true → elem x (distinct xs) ≡ true
elem-distinct x [] h = h
elem-distinct x (y ∷ ys) h = go (eqb x y) refl h (elem-distinct x ys)
  where
    go : (b : Bool) → eqb x y ≡ b → (b || elem x ys) ≡ true → (elem x ys ≡ true → elem x (distinct ys) ≡ true) → (b || elem x (remove y (distinct ys))) ≡ true
    go true e k ih = refl
    go false e k ih = elem-remove x y (distinct ys) e ∙ ih k

pub all_map : {A B : Type 0} (p : B → Bool) (f : A → B) (xs : List A) → all p (map f xs) ≡ all (λ x. p (f x)) xs
all_map p f [] = refl
all_map p f (x ∷ xs) = ap (λ (b : Bool). p (f x) && b) (all_map p f xs)

pub all-concat_map : {A B : Type 0} (p : B → Bool) (f : A → List B) (xs : List A) → all p (concat_map f xs) ≡ all (λ x. all p (f x)) xs
all-concat_map p f [] = refl
all-concat_map p f (x ∷ xs) = all_append p (f x) (concat_map f xs) ∙ ap (λ (b : Bool). all p (f x) && b) (all-concat_map p f xs)

pub all-select : {A : Type 0} (p q : A → Bool) (xs : List A) → all q (select p xs) ≡ all (λ x. cond (p x) (q x) true) xs
all-select p q [] = refl
all-select p q (x ∷ xs) = go (p x) (all-select p q xs)
  where
    go : (b : Bool) → all q (select p xs) ≡ all (λ x. cond (p x) (q x) true) xs
        → all q (cond b (x ∷ select p xs) (select p xs)) ≡ (cond b (q x) true && all (λ x. cond (p x) (q x) true) xs)
    go true ih = ap (λ (b : Bool). q x && b) ih
    go false ih = ih

pub all-up_from : (p : ℕ → Bool) (a n : ℕ) → all p (up_from a n) ≡ true → (i : ℕ) → a ≤ i → i < a + n → p i ≡ true
all-up_from p a zero h i lo hi = absurd (omega arith)
all-up_from p a (suc n) h i lo hi = go (eq-or-lt_of_le lo) (λ lt. all-up_from p (suc a) n (and_right (p a) (all p (up_from (suc a) n)) h) i lt (omega arith))
  where
    go : (a ≡ i) ⊎ (a < i) → (a < i → p i ≡ true) → p i ≡ true
    go (inl e) ih = ap p (sym e) ∙ and_left (p a) (all p (up_from (suc a) n)) h
    go (inr lt) ih = ih lt

pub up_from-all : (p : ℕ → Bool) (a n : ℕ) → ((i : ℕ) → a ≤ i → i < a + n → p i ≡ true) → all p (up_from a n) ≡ true
up_from-all p a zero h = refl
up_from-all p a (suc n) h =
    and-join (p a) (all p (up_from (suc a) n)) (h a (omega arith) (omega arith)) (up_from-all p (suc a) n (λ i lo hi. h i (omega arith) (omega arith)))

pub all-up_to : (p : ℕ → Bool) (n : ℕ) → all p (up_to n) ≡ true → (i : ℕ) → i < n → p i ≡ true
all-up_to p n h i hi = all-up_from p 0 n h i (omega arith) (omega arith)

pub up_to-all : (p : ℕ → Bool) (n : ℕ) → ((i : ℕ) → i < n → p i ≡ true) → all p (up_to n) ≡ true
up_to-all p n h = up_from-all p 0 n (λ i lo hi. h i (omega arith))

pub any-map : {A B : Type 0} (p : B → Bool) (f : A → B) (xs : List A) → any p (map f xs) ≡ any (λ x. p (f x)) xs
any-map p f [] = refl
any-map p f (x ∷ xs) = ap (λ (b : Bool). p (f x) || b) (any-map p f xs)

pub any-cong : {A : Type 0} (p q : A → Bool) (xs : List A) → ((x : A) → p x ≡ q x) → any p xs ≡ any q xs
any-cong p q [] h = refl
any-cong p q (x ∷ xs) h = ap (λ (b : Bool). b || any p xs) (h x) ∙ ap (λ (b : Bool). q x || b) (any-cong p q xs h)

pub any-up_from : (q : ℕ → Bool) (a n : ℕ) → any q (up_from a n) ≡ true → (d : ℕ) × (a ≤ d) × (d < a + n) × (q d ≡ true)
any-up_from q a zero h = absurd (false≢true h)
any-up_from q a (suc n) h = go (or_cases (q a) (any q (up_from (suc a) n)) h) (λ k. any-up_from q (suc a) n k)
  where
    go : (q a ≡ true) ⊎ (any q (up_from (suc a) n) ≡ true) → (any q (up_from (suc a) n) ≡ true → (d : ℕ) × (suc a ≤ d) × (d < suc a + n) × (q d ≡ true))
        → (d : ℕ) × (a ≤ d) × (d < a + suc n) × (q d ≡ true)
    go (inl e) ih = (a, omega arith, omega arith, e)
    go (inr k) ih = let r = ih k in (r.0, omega (arith, r.1), omega (arith, r.2), r.3)

pub up_from-any : (q : ℕ → Bool) (a n d : ℕ) → a ≤ d → d < a + n → q d ≡ true → any q (up_from a n) ≡ true
up_from-any q a zero d lo hi e = absurd (omega arith)
up_from-any q a (suc n) d lo hi e = go (eq-or-lt_of_le lo) (λ k. up_from-any q (suc a) n d k (omega arith) e)
  where
    go : (a ≡ d) ⊎ (a < d) → (a < d → any q (up_from (suc a) n) ≡ true) → (q a || any q (up_from (suc a) n)) ≡ true
    go (inl k) ih = or_left (q a) (any q (up_from (suc a) n)) (ap q k ∙ e)
    go (inr k) ih = or_right (q a) (any q (up_from (suc a) n)) (ih k)

pub map-concat_map : {A B C : Type 0} (h : B → C) (f : A → List B) (xs : List A) → map h (concat_map f xs) ≡ concat_map (λ x. map h (f x)) xs
map-concat_map h f [] = refl
map-concat_map h f (x ∷ xs) = map-append h (f x) (concat_map f xs) ∙ ap (λ l. map h (f x) ++ l) (map-concat_map h f xs)

pub concat_map-cong : {A B : Type 0} (f g : A → List B) (xs : List A) → ((x : A) → f x ≡ g x) → concat_map f xs ≡ concat_map g xs
concat_map-cong f g [] h = refl
concat_map-cong f g (x ∷ xs) h = let p : f x ≡ g x = h x in let q : concat_map f xs ≡ concat_map g xs = concat_map-cong f g xs h in cc

pub concat_map-append : {A B : Type 0} (f : A → List B) (xs ys : List A) → concat_map f (xs ++ ys) ≡ concat_map f xs ++ concat_map f ys
concat_map-append f [] ys = refl
concat_map-append {B = B} f (x ∷ xs) ys =
    ap (λ (l : List B). f x ++ l) (concat_map-append f xs ys) ∙ sym (append_assoc (f x) (concat_map f xs) (concat_map f ys))

pub concat_map-map : {A B C : Type 0} (f : B → List C) (h : A → B) (xs : List A) → concat_map f (map h xs) ≡ concat_map (λ x. f (h x)) xs
concat_map-map f h [] = refl
concat_map-map {C = C} f h (x ∷ xs) = ap (λ (l : List C). f (h x) ++ l) (concat_map-map f h xs)

pub up_from-append : (a m n : ℕ) → up_from a m ++ up_from (a + m) n ≡ up_from a (m + n)
up_from-append a zero n = rw (add-zero, zero-add)
up_from-append a (suc m) n =
    let e : a + suc m ≡ suc a + m = omega arith in
    ap (λ (k : ℕ). a ∷ (up_from (suc a) m ++ up_from k n)) e ∙ ap (λ (l : List ℕ). a ∷ l) (up_from-append (suc a) m n) ∙ ap (up_from a) (sym (suc-add m n))

pub map-add-up_from : (b a n : ℕ) → map (λ i. b + i) (up_from a n) ≡ up_from (b + a) n
map-add-up_from b a zero = refl
map-add-up_from b a (suc n) =
    let e : b + suc a ≡ suc (b + a) = omega arith in
    ap (λ (l : List ℕ). (b + a) ∷ l) (map-add-up_from b (suc a) n ∙ ap (λ (m : ℕ). up_from m n) e)

pub blocks : (m a n : ℕ) → concat_map (λ d. up_from (d * m) m) (up_from a n) ≡ up_from (a * m) (n * m)
blocks m a zero = rw zero-mul
blocks m a (suc n) =
    let e : m + n * m ≡ suc n * m = omega (arith, suc-mul n m) in
    ap (λ (l : List ℕ). up_from (a * m) m ++ l) (blocks m (suc a) n ∙ ap (λ (k : ℕ). up_from k (n * m)) (suc-mul a m))
    ∙ up_from-append (a * m) m (n * m) ∙ ap (up_from (a * m)) e

pub concat_map-shift : {B : Type 0} (f : ℕ → List B) (a n : ℕ) → concat_map f (up_from (suc a) n) ≡ concat_map (λ i. f (suc i)) (up_from a n)
concat_map-shift f a zero = refl
concat_map-shift {B = B} f a (suc n) = ap (λ (l : List B). f (suc a) ++ l) (concat_map-shift f (suc a) n)

pub map-cong : {A B : Type 0} (f g : A → B) (xs : List A) → ((x : A) → f x ≡ g x) → map f xs ≡ map g xs
map-cong f g [] h = refl
map-cong f g (x ∷ xs) h = let p : f x ≡ g x = h x in let q : map f xs ≡ map g xs = map-cong f g xs h in cc

pub length-up_from : (a n : ℕ) → length (up_from a n) ≡ n
length-up_from a zero = refl
length-up_from a (suc n) = ap suc (length-up_from (suc a) n)

pub get_d-up_from : (a n i : ℕ) → i < n → get_or (up_from a n) i 0 ≡ a + i
get_d-up_from a zero i h = absurd (omega arith)
get_d-up_from a (suc n) zero h = sym (add-zero a)
get_d-up_from a (suc n) (suc i) h = get_d-up_from (suc a) n i (omega arith) ∙ omega arith

-- the element at a place within a mapped list
pub map_at : {A B : Type 0} (f : A → B) (xs : List A) (i : ℕ) (d : A) (e : B) → i < length xs → get_or (map f xs) i e ≡ f (get_or xs i d)
map_at f [] i d e h = absurd (omega arith)
map_at f (x ∷ xs) zero d e h = refl
map_at f (x ∷ xs) (suc i) d e h = map_at f xs i d e (omega arith)

-- a list is what stands at its places
pub map-places : {A : Type 0} (d : A) (xs : List A) → map (λ i. get_or xs i d) (up_to (length xs)) ≡ xs
map-places d xs =
    let n : ℕ = length xs in
    ext_get_or d (map (λ i. get_or xs i d) (up_to n)) xs (length-map (up_to n) (λ i. get_or xs i d) ∙ length-up_from 0 n)
    (λ i h.
    let lt : i < n = omega (arith, length-map (up_to n) (λ i. get_or xs i d), length-up_from 0 n) in
    map_at (λ i. get_or xs i d) (up_to n) i 0 d (omega (arith, length-up_from 0 n)) ∙ ap (λ (i : ℕ). get_or xs i d) (get_d-up_from 0 n i lt ∙ zero-add i))

pub get_d_map : (f : ℕ → ℕ) (xs : List ℕ) (i : ℕ) → i < length xs → get_or (map f xs) i 0 ≡ f (get_or xs i 0)
get_d_map f xs i h = map_at f xs i 0 0 h

pub all_get_d : (p : ℕ → Bool) (xs : List ℕ) (i : ℕ) → all p xs ≡ true → i < length xs → p (get_or xs i 0) ≡ true
all_get_d p xs i h k = all-at p 0 xs i h k

pub all_drop : {A : Type 0} (p : A → Bool) (n : ℕ) (xs : List A) → all p xs ≡ true → all p (drop n xs) ≡ true
all_drop p zero xs h = h
all_drop p (suc n) [] h = h
all_drop p (suc n) (x ∷ xs) h = all_drop p n xs (and_right (p x) (all p xs) h)

pub all_take : {A : Type 0} (p : A → Bool) (n : ℕ) (xs : List A) → all p xs ≡ true → all p (take n xs) ≡ true
all_take p zero xs h = refl
all_take p (suc n) [] h = h
all_take p (suc n) (x ∷ xs) h = and-join (p x) (all p (take n xs)) (and_left (p x) (all p xs) h) (all_take p n xs (and_right (p x) (all p xs) h))

pub sum-map-append : {A : Type 0} (f : A → ℕ) (xs ys : List A) → sum (map f (xs ++ ys)) ≡ sum (map f xs) + sum (map f ys)
sum-map-append f [] ys = sym (zero-add (sum (map f ys)))
sum-map-append f (x ∷ xs) ys = omega (arith, sum-map-append f xs ys)

module _ {A : Type 0} where
  -- some element passes the test where the one at a place does
  pub any_at : (p : A → Bool) (d : A) (xs : List A) (i : ℕ) → i < length xs → p (get_or xs i d) ≡ true → any p xs ≡ true
  any_at p d [] i h k = absurd (omega arith)
  any_at p d (x ∷ xs) zero h k = or_left (p x) (any p xs) k
  any_at p d (x ∷ xs) (suc i) h k = or_right (p x) (any p xs) (any_at p d xs i (omega arith) k)

  pub all-imply : (p q : A → Bool) (xs : List A) → ((x : A) → p x ≡ true → q x ≡ true) → all p xs ≡ true → all q xs ≡ true
  all-imply p q [] f h = refl
  all-imply p q (x ∷ xs) f h = and-join (q x) (all q xs) (f x (and_left (p x) (all p xs) h)) (all-imply p q xs f (and_right (p x) (all p xs) h))

  pub all-every : (p : A → Bool) (xs : List A) → ((x : A) → p x ≡ true) → all p xs ≡ true
  all-every p [] h = refl
  all-every p (x ∷ xs) h = and-join (p x) (all p xs) (h x) (all-every p xs h)

  pub all-cong : (p q : A → Bool) (xs : List A) → ((x : A) → p x ≡ q x) → all p xs ≡ all q xs
  all-cong p q [] h = refl
  all-cong p q (x ∷ xs) h = ap (λ (b : Bool). b && all p xs) (h x) ∙ ap (λ (b : Bool). q x && b) (all-cong p q xs h)

module _ {A : Type 0} where
  pub select-append : (p : A → Bool) (xs ys : List A) → select p (xs ++ ys) ≡ select p xs ++ select p ys
  select-append p [] ys = refl
  select-append p (x ∷ xs) ys = go (p x) (select-append p xs ys)
    where
      go : (b : Bool) → select p (xs ++ ys) ≡ select p xs ++ select p ys
          → cond b (x ∷ select p (xs ++ ys)) (select p (xs ++ ys)) ≡ cond b (x ∷ select p xs) (select p xs) ++ select p ys
      go true ih = ap (λ (l : List A). x ∷ l) ih
      go false ih = ih

  pub select-all : (p : A → Bool) (xs : List A) → all p xs ≡ true → select p xs ≡ xs
  select-all p [] h = refl
  select-all p (x ∷ xs) h =
      ap (λ (b : Bool). cond b (x ∷ select p xs) (select p xs)) (and_left (p x) (all p xs) h) ∙ ap (λ (l : List A). x ∷ l) (select-all p xs (and_right (p x) (all p xs) h))

  pub select-none : (p : A → Bool) (xs : List A) → all (λ x. not (p x)) xs ≡ true → select p xs ≡ []
  select-none p [] h = refl
  select-none p (x ∷ xs) h = go (p x) (and_left (not (p x)) (all (λ x. not (p x)) xs) h) (select-none p xs (and_right (not (p x)) (all (λ x. not (p x)) xs) h))
    where
      go : (b : Bool) → not b ≡ true → select p xs ≡ [] → cond b (x ∷ select p xs) (select p xs) ≡ []
      go true k ih = absurd (false≢true k)
      go false k ih = ih

pub select-map : {A B : Type 0} (p : B → Bool) (f : A → B) (xs : List A) → select p (map f xs) ≡ map f (select (λ x. p (f x)) xs)
select-map p f [] = refl
select-map {B = B} p f (x ∷ xs) = go (p (f x)) (select-map p f xs)
  where
    go : (b : Bool) → select p (map f xs) ≡ map f (select (λ x. p (f x)) xs)
        → cond b (f x ∷ select p (map f xs)) (select p (map f xs)) ≡ map f (cond b (x ∷ select (λ x. p (f x)) xs) (select (λ x. p (f x)) xs))
    go true ih = ap (λ (l : List B). f x ∷ l) ih
    go false ih = ih

-- a number of the list that passes the test is among those that do
pub elem-select : (p : ℕ → Bool) (xs : List ℕ) (x : ℕ) → p x ≡ true → elem x xs ≡ true → elem x (select p xs) ≡ true
elem-select p [] x h e = e
elem-select p (y ∷ xs) x h e = go (p y) refl (or_cases (eqb x y) (elem x xs) e) (λ k. elem-select p xs x h k)
  where
    go : (b : Bool) → p y ≡ b → (eqb x y ≡ true) ⊎ (elem x xs ≡ true) → (elem x xs ≡ true → elem x (select p xs) ≡ true) → elem x (cond b (y ∷ select p xs) (select p xs)) ≡ true
    go true q (inl k) ih = or_left (eqb x y) (elem x (select p xs)) k
    go true q (inr k) ih = or_right (eqb x y) (elem x (select p xs)) (ih k)
    go false q (inl k) ih = absurd (false≢true (sym q ∙ ap p (sym (eqb-true x y k)) ∙ h))
    go false q (inr k) ih = ih k

pub elem-map : (f : ℕ → ℕ) (xs : List ℕ) (x : ℕ) → elem x xs ≡ true → elem (f x) (map f xs) ≡ true
elem-map f [] x e = e
elem-map f (y ∷ xs) x e = go (or_cases (eqb x y) (elem x xs) e) (λ k. elem-map f xs x k)
  where
    go : (eqb x y ≡ true) ⊎ (elem x xs ≡ true) → (elem x xs ≡ true → elem (f x) (map f xs) ≡ true) → elem (f x) (f y ∷ map f xs) ≡ true
    go (inl k) ih = ap (λ (z : ℕ). elem (f x) (f z ∷ map f xs)) (sym (eqb-true x y k)) ∙ elem-here (f x) (map f xs)
    go (inr k) ih = elem-there (f x) (f y) (map f xs) (ih k)

all_remove : (p : ℕ → Bool) (y : ℕ) (xs : List ℕ) → all p xs ≡ true → all p (remove y xs) ≡ true
all_remove p y [] h = refl
all_remove p y (x ∷ xs) h = go (eqb y x) (all_remove p y xs (and_right (p x) (all p xs) h))
  where
    go : (b : Bool) → all p (remove y xs) ≡ true → all p (cond b (remove y xs) (x ∷ remove y xs)) ≡ true
    go true ih = ih
    go false ih = and-join (p x) (all p (remove y xs)) (and_left (p x) (all p xs) h) ih

pub all-distinct : (p : ℕ → Bool) (xs : List ℕ) → all p xs ≡ true → all p (distinct xs) ≡ true
all-distinct p [] h = refl
all-distinct p (x ∷ xs) h =
    and-join (p x) (all p (remove x (distinct xs))) (and_left (p x) (all p xs) h) (all_remove p x (distinct xs) (all-distinct p xs (and_right (p x) (all p xs) h)))

pub same_refl : (xs : List ℕ) → same xs xs ≡ true
same_refl [] = refl
same_refl (x ∷ xs) = and-join (eqb x x) (same xs xs) (eqb_same x) (same_refl xs)

pub same_true : (xs ys : List ℕ) → same xs ys ≡ true → xs ≡ ys
same_true [] [] e = refl
same_true [] (y ∷ ys) e = absurd (false≢true e)
same_true (x ∷ xs) [] e = absurd (false≢true e)
same_true (x ∷ xs) (y ∷ ys) e =
    let p : x ≡ y = eqb-true x y (and_left (eqb x y) (same xs ys) e) in
    let q : xs ≡ ys = same_true xs ys (and_right (eqb x y) (same xs ys) e) in
    cc

-- a sum of numbers of at most b each
pub sum-within : {A : Type 0} (f : A → ℕ) (p : A → Bool) (b : ℕ) (xs : List A) → ((x : A) → p x ≡ true → f x ≤ b) → all p xs ≡ true → sum (map f xs) ≤ length xs * b
sum-within f p b [] h k = omega arith
sum-within f p b (x ∷ xs) h k = omega (arith, suc-mul (length xs) b, h x (and_left (p x) (all p xs) k), sum-within f p b xs h (and_right (p x) (all p xs) k))

-- the first and the last of the images
pub map-take : {A B : Type 0} (f : A → B) (n : ℕ) (xs : List A) → map f (take n xs) ≡ take n (map f xs)
map-take f zero xs = refl
map-take f (suc n) [] = refl
map-take f (suc n) (x ∷ xs) = ap (λ ys. f x ∷ ys) (map-take f n xs)

pub map-drop : {A B : Type 0} (f : A → B) (n : ℕ) (xs : List A) → map f (drop n xs) ≡ drop n (map f xs)
map-drop f zero xs = refl
map-drop f (suc n) [] = refl
map-drop f (suc n) (x ∷ xs) = map-drop f n xs

-- images that agree on the numbers of a range, or on the elements that pass a test
pub map-up_from : {A : Type 0} (f g : ℕ → A) (a n : ℕ) → ((i : ℕ) → a ≤ i → i < a + n → f i ≡ g i) → map f (up_from a n) ≡ map g (up_from a n)
map-up_from f g a zero h = refl
map-up_from f g a (suc n) h =
    let p : f a ≡ g a = h a (omega arith) (omega arith) in
    let q : map f (up_from (suc a) n) ≡ map g (up_from (suc a) n) = map-up_from f g (suc a) n (λ i l k. h i (omega arith) (omega arith)) in
    cc

pub map-all : {A B : Type 0} (p : A → Bool) (f g : A → B) (xs : List A) → all p xs ≡ true → ((x : A) → p x ≡ true → f x ≡ g x) → map f xs ≡ map g xs
map-all p f g [] h k = refl
map-all p f g (x ∷ xs) h k =
    let e : f x ≡ g x = k x (and_left (p x) (all p xs) h) in
    let q : map f xs ≡ map g xs = map-all p f g xs (and_right (p x) (all p xs) h) k in
    cc
