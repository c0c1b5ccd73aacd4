-- Literals in any order: those of a setting have each variable once and state it, and no others do.
use Prim.Native.Nat.{ℕ, suc, ◌+◌, ◌≤◌, ◌<◌}
use mathlib.Core.Path.{◌≡◌, refl, sym, ap, ap₂, ◌∙◌}
use mathlib.Core.Logic.{◌≢◌}
use mathlib.Core.Bool.{Bool, true, false, cond, not, ◌&&◌, ◌||◌, false≢true}
use mathlib.Core.List.{List, [], ◌∷◌, ◌++◌, map}
use native.Mathlib.Omega.{arith}
use lib.Dec.{eqb, ltb, leb}
use lib.ListN.{length, get_or, length-map}
use Rattle.theory.specs.Lists.{any, all, select, up_from}
use Rattle.theory.specs.Propositional.{PropLiteral}
use Rattle.theory.proofs.Tests.{eqb-true, eqb-of-≡, eqb-false, eqb-ne, eqb_same, ltb-true, ltb-of-<, leb-true, leb-of-≤, and_left, and_right, and-join, or-false-join}
use Rattle.theory.proofs.Lists.{all-up_from, up_from-all, map-up_from, length-up_from, get_d-up_from, all_map, all-every, map_at}
use Rattle.solver.specs.Replies.{literals_at, each_once, say_yes, stated_setting}
use Rattle.solver.specs.Claims.Stating.{Reordered, setting_literals}

-- an element in the middle
module _ {A : Type 0} (p : A → Bool) (x : A) where
  any-middle : (before after : List A) → any p (before ++ (x ∷ after)) ≡ (p x || any p (before ++ after))
  any-middle [] after = refl
  any-middle (y ∷ before) after = ap (λ (b : Bool). p y || b) (any-middle before after) ∙ swap (p y) (p x) (any p (before ++ after))
    where
      swap : (a b c : Bool) → (a || (b || c)) ≡ (b || (a || c))
      swap true true c = refl
      swap true false c = refl
      swap false true c = refl
      swap false false c = refl

  all_middle : (before after : List A) → all p (before ++ (x ∷ after)) ≡ (p x && all p (before ++ after))
  all_middle [] after = refl
  all_middle (y ∷ before) after = ap (λ (b : Bool). p y && b) (all_middle before after) ∙ swap (p y) (p x) (all p (before ++ after))
    where
      swap : (a b c : Bool) → (a && (b && c)) ≡ (b && (a && c))
      swap true true c = refl
      swap true false c = refl
      swap false true c = refl
      swap false false c = refl

  count-middle : (before after : List A) → length (select p (before ++ (x ∷ after))) ≡ cond (p x) 1 0 + length (select p (before ++ after))
  count-middle [] after = go (p x)
    where
      go : (b : Bool) → length (cond b (x ∷ select p after) (select p after)) ≡ cond b 1 0 + length (select p after)
      go true = omega arith
      go false = omega arith
  count-middle (y ∷ before) after = go (p y) (count-middle before after)
    where
      l : ℕ
      l = cond (p x) 1 0

      one : List A
      one = select p (before ++ (x ∷ after))

      other : List A
      other = select p (before ++ after)

      go : (b : Bool) → length one ≡ l + length other → length (cond b (y ∷ one) one) ≡ l + length (cond b (y ∷ other) other)
      go true ih = omega (arith, ih)
      go false ih = ih

-- in another order the same number of elements pass a test, all of them or some
module _ {A : Type 0} (p : A → Bool) where
  pub any-reordered : (xs ys : List A) → Reordered xs ys → any p xs ≡ any p ys
  any-reordered [] ys r = ap (any p) (sym r)
  any-reordered (x ∷ xs) ys r =
      ap (λ (b : Bool). p x || b) (any-reordered xs (r.0 ++ r.1) r.3) ∙ sym (any-middle p x r.0 r.1) ∙ ap (any p) (sym r.2)

  pub all-reordered : (xs ys : List A) → Reordered xs ys → all p xs ≡ all p ys
  all-reordered [] ys r = ap (all p) (sym r)
  all-reordered (x ∷ xs) ys r =
      ap (λ (b : Bool). p x && b) (all-reordered xs (r.0 ++ r.1) r.3) ∙ sym (all_middle p x r.0 r.1) ∙ ap (all p) (sym r.2)

  pub count-reordered : (xs ys : List A) → Reordered xs ys → length (select p xs) ≡ length (select p ys)
  count-reordered [] ys r = ap (λ (l : List A). length (select p l)) (sym r)
  count-reordered (x ∷ xs) ys r =
      count-middle p x [] xs ∙ ap (λ (n : ℕ). cond (p x) 1 0 + n) (count-reordered xs (r.0 ++ r.1) r.3) ∙ sym (count-middle p x r.0 r.1)
      ∙ ap (λ (l : List A). length (select p l)) (sym r.2)

-- the test that a literal is of variable n
abbrev is_at : ℕ → PropLiteral → Bool
is_at n l = eqb l.number n

-- the test that a literal says yes to variable n
abbrev yes_at : ℕ → PropLiteral → Bool
yes_at n l = l.positive && eqb l.number n

-- a setting's literals have numbers of its range
pub literals-range : (p : ℕ → Bool) (n : ℕ) (σ : List ℕ) → ((m : ℕ) → n ≤ m → m < n + length σ → p m ≡ true) → all (λ (l : PropLiteral). p l.number) (setting_literals n σ) ≡ true
literals-range p n [] h = refl
literals-range p n (b ∷ σ) h =
    and-join (p n) (all (λ (l : PropLiteral). p l.number) (setting_literals (suc n) σ)) (h n (omega arith) (omega arith))
    (literals-range p (suc n) σ (λ m lo hi. h m (omega arith) (omega arith)))

-- none of them is of a lower variable
literals-above : (m n : ℕ) (σ : List ℕ) → m < n → (length (literals_at m (setting_literals n σ)) ≡ 0) × (say_yes (setting_literals n σ) m ≡ false)
literals-above m n [] h = (refl, refl)
literals-above m n (b ∷ σ) h =
    let r = literals-above m (suc n) σ (omega arith) in
    let e : eqb n m ≡ false = eqb-false n m (λ z. omega arith) in (
      ap (λ (q : Bool). length (cond q (record { positive = eqb b 1; number = n } ∷ literals_at m (setting_literals (suc n) σ)) (literals_at m (setting_literals (suc n) σ)))) e ∙ r.0,
      or-false-join (eqb b 1 && eqb n m) (say_yes (setting_literals (suc n) σ) m) (no (eqb b 1) (eqb n m) e) r.1,
    )
  where
    no : (a b : Bool) → b ≡ false → (a && b) ≡ false
    no true b e = e
    no false b e = refl

-- each of them once
literals-once : (n : ℕ) (σ : List ℕ) (m : ℕ) → n ≤ m → m < n + length σ → length (literals_at m (setting_literals n σ)) ≡ 1
literals-once n [] m lo hi = absurd (omega arith)
literals-once n (b ∷ σ) m lo hi = go (eqb n m) refl (λ lo hi. literals-once (suc n) σ m lo hi)
  where
    rest : List PropLiteral
    rest = literals_at m (setting_literals (suc n) σ)

    go : (q : Bool) → eqb n m ≡ q → (suc n ≤ m → m < suc n + length σ → length rest ≡ 1) → length (cond q (record { positive = eqb b 1; number = n } ∷ rest) rest) ≡ 1
    go true e ih = let z : n ≡ m = eqb-true n m e in ap suc (literals-above m (suc n) σ (omega arith)).0
    go false e ih = let ne : n ≢ m = eqb-ne n m e in ih (omega arith) (omega arith)

-- a bit is 1 or 0
bit : (b : ℕ) → ltb b 2 ≡ true → cond (eqb b 1) 1 0 ≡ b
bit b h = go (eqb b 1) refl
  where
    go : (q : Bool) → eqb b 1 ≡ q → cond q 1 0 ≡ b
    go true e = sym (eqb-true b 1 e)
    go false e = let lt : b < 2 = ltb-true b 2 h in let ne : b ≢ 1 = eqb-ne b 1 e in omega arith

-- they state the setting
literals-state : (n : ℕ) (σ : List ℕ) → all (λ b. ltb b 2) σ ≡ true → map (λ m. cond (say_yes (setting_literals n σ) m) 1 0) (up_from n (length σ)) ≡ σ
literals-state n [] h = refl
literals-state n (b ∷ σ) h =
    let rest : List PropLiteral = setting_literals (suc n) σ in
    let here : (eqb b 1 && eqb n n || say_yes rest n) ≡ eqb b 1 =
    ap (λ (q : Bool). eqb b 1 && q || say_yes rest n) (eqb_same n) ∙ ap (λ (q : Bool). eqb b 1 && true || q) (literals-above n (suc n) σ (omega arith)).1 ∙ plain (eqb b 1) in
    ap₂ (λ (c : ℕ) (l : List ℕ). c ∷ l) (ap (λ (q : Bool). cond q 1 0) here ∙ bit b (and_left (ltb b 2) (all (λ b. ltb b 2) σ) h))
    (map-up_from (λ m. cond (eqb b 1 && eqb n m || say_yes rest m) 1 0) (λ m. cond (say_yes rest m) 1 0) (suc n) (length σ)
    (λ m lo hi. ap (λ (q : Bool). cond (eqb b 1 && q || say_yes rest m) 1 0) (eqb-false n m (λ z. omega arith)) ∙ ap (λ (q : Bool). cond (q || say_yes rest m) 1 0) (none (eqb b 1)))
    ∙ literals-state (suc n) σ (and_right (ltb b 2) (all (λ b. ltb b 2) σ) h))
  where
    plain : (q : Bool) → (q && true || false) ≡ q
    plain true = refl
    plain false = refl

    none : (q : Bool) → (q && false) ≡ false
    none true = refl
    none false = refl

-- a setting's literals, in any order, have each variable once and state it
pub reordered-once : (v : ℕ) (σ : List ℕ) (ls : List PropLiteral) → length σ ≡ v → Reordered (setting_literals 1 σ) ls → each_once v ls ≡ true
unfolding each_once
reordered-once v σ ls e r =
    and-join (all (λ n. eqb (length (literals_at n ls)) 1) (up_from 1 v)) (all (λ (l : PropLiteral). leb l.number v) ls)
    (up_from-all (λ n. eqb (length (literals_at n ls)) 1) 1 v
    (λ n lo hi. eqb-of-≡ (length (literals_at n ls)) 1 (sym (count-reordered (is_at n) (setting_literals 1 σ) ls r) ∙ literals-once 1 σ n lo (omega arith))))
    (sym (all-reordered (λ (l : PropLiteral). leb l.number v) (setting_literals 1 σ) ls r) ∙ literals-range (λ n. leb n v) 1 σ (λ m lo hi. leb-of-≤ m v (omega arith)))

pub reordered-states : (v : ℕ) (σ : List ℕ) (ls : List PropLiteral) → length σ ≡ v → all (λ b. ltb b 2) σ ≡ true → Reordered (setting_literals 1 σ) ls → stated_setting v ls ≡ σ
unfolding stated_setting
reordered-states v σ ls e h r =
    map-up_from (λ n. cond (say_yes ls n) 1 0) (λ n. cond (say_yes (setting_literals 1 σ) n) 1 0) 1 v
    (λ n lo hi. ap (λ (q : Bool). cond q 1 0) (sym (any-reordered (yes_at n) (setting_literals 1 σ) ls r)))
    ∙ ap (λ (v : ℕ). map (λ n. cond (say_yes (setting_literals 1 σ) n) 1 0) (up_from 1 v)) (sym e)
    ∙ literals-state 1 σ h

-- the one element that passes a test, and the others
record Only {A : Type 0} (p : A → Bool) (xs : List A) : Type 0 where
  before : List A
  element : A
  after : List A
  placed : xs ≡ before ++ (element ∷ after)
  passes : p element ≡ true
  others : length (select p (before ++ after)) ≡ 0

only : {A : Type 0} (p : A → Bool) (xs : List A) → length (select p xs) ≡ 1 → Only p xs
only p [] h = absurd (omega arith)
only {A = A} p (x ∷ xs) h = go (p x) refl h (λ k. only p xs k)
  where
    go : (b : Bool) → p x ≡ b → length (cond b (x ∷ select p xs) (select p xs)) ≡ 1 → (length (select p xs) ≡ 1 → Only p xs) → Only p (x ∷ xs)
    go true e k ih = record { before = []; element = x; after = xs; placed = refl; passes = e; others = omega (arith, k) }
    go false e k ih =
        let r : Only p xs = ih k in
        record {
          before = x ∷ r.before;
          element = r.element;
          after = r.after;
          placed = ap (λ (l : List A). x ∷ l) r.placed;
          passes = r.passes;
          others = ap (λ (b : Bool). length (cond b (x ∷ select p (r.before ++ r.after)) (select p (r.before ++ r.after)))) e ∙ r.others;
        }

-- no element passes
none_pass : {A : Type 0} (p : A → Bool) (xs : List A) → length (select p xs) ≡ 0 → all (λ x. not (p x)) xs ≡ true
none_pass p [] h = refl
none_pass {A = A} p (x ∷ xs) h = go (p x) refl h (λ k. none_pass p xs k)
  where
    go : (b : Bool) → p x ≡ b → length (cond b (x ∷ select p xs) (select p xs)) ≡ 0 → (length (select p xs) ≡ 0 → all (λ x. not (p x)) xs ≡ true)
        → (not b && all (λ x. not (p x)) xs) ≡ true
    go true e k ih = absurd (omega (arith, k))
    go false e k ih = ih k

not-any : {A : Type 0} (p q : A → Bool) (xs : List A) → ((x : A) → p x ≡ false → q x ≡ false) → all (λ x. not (p x)) xs ≡ true → any q xs ≡ false
not-any p q [] f h = refl
not-any p q (x ∷ xs) f h =
    or-false-join (q x) (any q xs) (f x (off (p x) (and_left (not (p x)) (all (λ x. not (p x)) xs) h))) (not-any p q xs f (and_right (not (p x)) (all (λ x. not (p x)) xs) h))
  where
    off : (b : Bool) → not b ≡ true → b ≡ false
    off true e = absurd (false≢true e)
    off false e = refl

-- literals of n variables from a on, each once, that state the setting, are the setting's in some order
abbrev within : ℕ → ℕ → PropLiteral → Bool
within a n l = leb a l.number && ltb l.number (a + n)

in_order : (a : ℕ) (σ : List ℕ) (ls : List PropLiteral) → all (within a (length σ)) ls ≡ true
    → ((m : ℕ) → a ≤ m → m < a + length σ → length (literals_at m ls) ≡ 1)
    → ((i : ℕ) → i < length σ → say_yes ls (a + i) ≡ eqb (get_or σ i 0) 1)
    → Reordered (setting_literals a σ) ls
in_order a [] [] w c s = refl
in_order a [] (l ∷ ls) w c s =
    let here : within a 0 l ≡ true = and_left (within a 0 l) (all (within a 0) ls) w in
    let lo : a ≤ l.number = leb-true a l.number (and_left (leb a l.number) (ltb l.number (a + 0)) here) in
    let hi : l.number < a + 0 = ltb-true l.number (a + 0) (and_right (leb a l.number) (ltb l.number (a + 0)) here) in
    absurd (omega arith)
in_order a (b ∷ σ) ls w c s =
    let o : Only (is_at a) ls = only (is_at a) ls (c a (omega arith) (omega arith)) in
    let x : PropLiteral = o.element in
    let rest : List PropLiteral = o.before ++ o.after in
    let number : x.number ≡ a = eqb-true x.number a o.passes in
    let others : all (λ l. not (is_at a l)) rest ≡ true = none_pass (is_at a) rest o.others in
    let yes : (x.positive && eqb x.number a || say_yes rest a) ≡ eqb b 1 =
    sym (any-middle (yes_at a) x o.before o.after) ∙ ap (λ (l : List PropLiteral). say_yes l a) (sym o.placed) ∙ ap (say_yes ls) (plus-zero a) ∙ s 0 (omega arith) in
    let positive : x.positive ≡ eqb b 1 =
    sym (plain x.positive) ∙ ap (λ (q : Bool). x.positive && true || q) (sym (not-any (is_at a) (yes_at a) rest (λ l k. no l.positive (is_at a l) k) others))
    ∙ ap (λ (q : Bool). x.positive && q || say_yes rest a) (sym o.passes) ∙ yes in
    let z : x ≡ record { positive = eqb b 1; number = a } = ap₂ (λ (q : Bool) (n : ℕ). record { positive = q; number = n }) positive number in (
      o.before,
      o.after,
      o.placed ∙ ap (λ (y : PropLiteral). o.before ++ (y ∷ o.after)) z,
      in_order (suc a) σ rest
          (all-and-imply (within a (suc (length σ))) (λ l. not (is_at a l)) (within (suc a) (length σ)) rest (λ l h k. above l h k)
          (and_right (within a (suc (length σ)) x) (all (within a (suc (length σ))) rest) (sym (all_middle (within a (suc (length σ))) x o.before o.after) ∙ ap (all (within a (suc (length σ)))) (sym o.placed) ∙ w)) others)
          (λ m lo hi. let k : length (literals_at m ls) ≡ 1 = c m (omega arith) (omega arith) in
          let off : eqb x.number m ≡ false = eqb-false x.number m (λ y. omega arith) in
          sym (ap (λ (q : Bool). cond q 1 0 + length (literals_at m rest)) off ∙ omega arith)
          ∙ sym (count-middle (is_at m) x o.before o.after) ∙ ap (λ (l : List PropLiteral). length (literals_at m l)) (sym o.placed) ∙ k)
          (λ i lt. let e : suc a + i ≡ a + suc i = omega arith in
          let off : eqb x.number (suc a + i) ≡ false = eqb-false x.number (suc a + i) (λ y. omega arith) in
          sym (ap (λ (q : Bool). q || say_yes rest (suc a + i)) (no x.positive (eqb x.number (suc a + i)) off))
          ∙ sym (any-middle (yes_at (suc a + i)) x o.before o.after) ∙ ap (λ (l : List PropLiteral). say_yes l (suc a + i)) (sym o.placed)
          ∙ ap (say_yes ls) e ∙ s (suc i) (omega arith)),
    )
  where
    plus-zero : (n : ℕ) → n ≡ n + 0
    plus-zero n = omega arith

    plain : (q : Bool) → (q && true || false) ≡ q
    plain true = refl
    plain false = refl

    no : (p q : Bool) → q ≡ false → (p && q) ≡ false
    no true q e = e
    no false q e = refl

    above : (l : PropLiteral) → within a (suc (length σ)) l ≡ true → not (is_at a l) ≡ true → within (suc a) (length σ) l ≡ true
    above l h k =
        let lo : a ≤ l.number = leb-true a l.number (and_left (leb a l.number) (ltb l.number (a + suc (length σ))) h) in
        let hi : l.number < a + suc (length σ) = ltb-true l.number (a + suc (length σ)) (and_right (leb a l.number) (ltb l.number (a + suc (length σ))) h) in
        let ne : l.number ≢ a = λ e. false≢true (ap not (sym (eqb-of-≡ l.number a e)) ∙ k) in
        and-join (leb (suc a) l.number) (ltb l.number (suc a + length σ)) (leb-of-≤ (suc a) l.number (omega arith)) (ltb-of-< l.number (suc a + length σ) (omega arith))

    all-and-imply : (p q r : PropLiteral → Bool) (xs : List PropLiteral) → ((x : PropLiteral) → p x ≡ true → q x ≡ true → r x ≡ true) → all p xs ≡ true → all q xs ≡ true → all r xs ≡ true
    all-and-imply p q r [] f h k = refl
    all-and-imply p q r (x ∷ xs) f h k =
        and-join (r x) (all r xs) (f x (and_left (p x) (all p xs) h) (and_left (q x) (all q xs) k)) (all-and-imply p q r xs f (and_right (p x) (all p xs) h) (and_right (q x) (all q xs) k))

-- literals that have each variable once are those of the setting that they state
pub once-reordered : (v : ℕ) (ls : List PropLiteral) → all (λ (l : PropLiteral). leb 1 l.number) ls ≡ true → each_once v ls ≡ true → Reordered (setting_literals 1 (stated_setting v ls)) ls
unfolding each_once stated_setting
once-reordered v ls pos h =
    let σ : List ℕ = map (λ n. cond (say_yes ls n) 1 0) (up_from 1 v) in
    let size : length σ ≡ v = length-map (up_from 1 v) (λ n. cond (say_yes ls n) 1 0) ∙ length-up_from 1 v in
    let counts : all (λ n. eqb (length (literals_at n ls)) 1) (up_from 1 v) ≡ true = and_left (all (λ n. eqb (length (literals_at n ls)) 1) (up_from 1 v)) (all (λ (l : PropLiteral). leb l.number v) ls) h in
    let upper : all (λ (l : PropLiteral). leb l.number v) ls ≡ true = and_right (all (λ n. eqb (length (literals_at n ls)) 1) (up_from 1 v)) (all (λ (l : PropLiteral). leb l.number v) ls) h in
    in_order 1 σ ls (range size ls pos upper)
    (λ m lo hi. eqb-true (length (literals_at m ls)) 1 (all-up_from (λ n. eqb (length (literals_at n ls)) 1) 1 v counts m lo (omega arith)))
    (λ i lt. sym (ap (λ (b : ℕ). eqb b 1) (map_at (λ n. cond (say_yes ls n) 1 0) (up_from 1 v) i 0 0 (omega (arith, length-up_from 1 v)) ∙ ap (λ (n : ℕ). cond (say_yes ls n) 1 0) (get_d-up_from 1 v i (omega arith))) ∙ one (say_yes ls (1 + i))))
  where
    one : (q : Bool) → eqb (cond q 1 0) 1 ≡ q
    one true = refl
    one false = refl

    range : {n : ℕ} → n ≡ v → (xs : List PropLiteral) → all (λ (l : PropLiteral). leb 1 l.number) xs ≡ true → all (λ (l : PropLiteral). leb l.number v) xs ≡ true → all (within 1 n) xs ≡ true
    range e [] h k = refl
    range {n = n} e (l ∷ xs) h k =
        let hi : l.number ≤ v = leb-true l.number v (and_left (leb l.number v) (all (λ (l : PropLiteral). leb l.number v) xs) k) in
        and-join (within 1 n l) (all (within 1 n) xs)
        (and-join (leb 1 l.number) (ltb l.number (1 + n)) (and_left (leb 1 l.number) (all (λ (l : PropLiteral). leb 1 l.number) xs) h) (ltb-of-< l.number (1 + n) (omega arith)))
        (range e xs (and_right (leb 1 l.number) (all (λ (l : PropLiteral). leb 1 l.number) xs) h) (and_right (leb l.number v) (all (λ (l : PropLiteral). leb l.number v) xs) k))

-- what literals state is a setting of v bytes, 0 or 1
pub stated-setting : (v : ℕ) (ls : List PropLiteral) → (length (stated_setting v ls) ≡ v) × (all (λ b. ltb b 2) (stated_setting v ls) ≡ true)
unfolding stated_setting
stated-setting v ls = (
  length-map (up_from 1 v) (λ n. cond (say_yes ls n) 1 0) ∙ length-up_from 1 v,
  all_map (λ b. ltb b 2) (λ n. cond (say_yes ls n) 1 0) (up_from 1 v) ∙ all-every (λ n. ltb (cond (say_yes ls n) 1 0) 2) (up_from 1 v) (λ n. small (say_yes ls n)),
)
  where
    small : (q : Bool) → ltb (cond q 1 0) 2 ≡ true
    small true = refl
    small false = refl
