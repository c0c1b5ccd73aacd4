-- The weight of a clause says how many of its literals are not false, and which it is where there is one.
use mathlib.Core.Path.{◌≡◌, refl, ap, ◌∙◌}
use mathlib.Core.Bool.{Bool, true, false, cond}
use mathlib.Core.List.{List, [], ◌∷◌}
use Prim.Native.Nat.{ℕ, zero, suc, ◌+◌, ◌*◌, ◌/◌, ◌%◌, ◌≤◌, ◌<◌, ◌^◌}
use native.Mathlib.Nat.{not-suc-le-zero, le_of_suc-le-suc}
use native.Mathlib.Omega.{arith}
use lib.ListN.{length, get_or}
use Rattle.theory.specs.Lists.{elem}
use Rattle.propagation.specs.Clauses.{weight, holders, All}
use Rattle.propagation.specs.WorkArea.{live, Within, ShortClause}

total : List ℕ → ℕ
total [] = 0
total (x ∷ xs) = x + total xs

weight-live : (D c : List ℕ) → weight D c ≡ 64 * total (live D c) + length (live D c)
unfolding total
weight-live D [] = refl
weight-live D (x ∷ xs) = by (weight-live D xs) (elem x D) refl
  where
    by : weight D xs ≡ 64 * total (live D xs) + length (live D xs) → (b : Bool) → elem x D ≡ b
        → weight D (x ∷ xs) ≡ 64 * total (live D (x ∷ xs)) + length (live D (x ∷ xs))
    by again true e = rw e (omega (arith, again))
    by again false e = rw e (omega (arith, again))

live-short : (D c : List ℕ) → length (live D c) ≤ length c
live-short D [] = omega arith
live-short D (x ∷ xs) = by (live-short D xs) (elem x D) refl
  where
    by : length (live D xs) ≤ length xs → (b : Bool) → elem x D ≡ b → length (live D (x ∷ xs)) ≤ length (x ∷ xs)
    by again true e = rw e (omega (arith, again))
    by again false e = rw e (omega (arith, again))

pub live-within : (v : ℕ) (D c : List ℕ) → Within v c → Within v (live D c)
live-within v D [] h = tt
live-within v D (x ∷ xs) h = by (live-within v D xs h.1) (elem x D) refl
  where
    by : Within v (live D xs) → (b : Bool) → elem x D ≡ b → Within v (live D (x ∷ xs))
    by again true e = rw e again
    by again false e = rw e (h.0, again)

none : (l : List ℕ) → length l ≡ 0 → l ≡ []
none [] e = refl
none (x ∷ xs) e = absurd (omega (arith, e))

one : (l : List ℕ) → length l ≡ 1 → (u : ℕ) × (l ≡ u ∷ [])
one [] e = absurd (omega (arith, e))
one (x ∷ xs) e = (x, ap (λ (r : List ℕ). x ∷ r) (none xs (omega (arith, e))))

module _ (v : ℕ) (D c : List ℕ) (k : ShortClause v c) where
  left : weight D c % 64 ≡ length (live D c)
  left = omega (arith, weight-live D c, live-short D c, k.short)

  pub none_left : weight D c % 64 ≡ 0 → live D c ≡ []
  none_left e = none (live D c) (omega (arith, left))

  one-is : (u : ℕ) → live D c ≡ u ∷ [] → live D c ≡ weight D c / 64 ∷ []
  unfolding total
  one-is u s =
      let n = weight-live D c ∙ ap (λ (l : List ℕ). 64 * total l + length l) s in
      let q : u ≡ weight D c / 64 = omega (arith, n) in
      s ∙ ap (λ (z : ℕ). z ∷ []) q

  pub one_left : weight D c % 64 ≡ 1 → live D c ≡ weight D c / 64 ∷ []
  one_left e = let o = one (live D c) (omega (arith, left)) in one-is o.0 o.1

  pub one-names : weight D c % 64 ≡ 1 → weight D c / 64 / 2 < v
  one-names e = (rw (one_left e) at (live-within v D c k.within)).0

  pub left-none : live D c ≡ [] → weight D c % 64 ≡ 0
  left-none e = left ∙ ap length e

  pub left_one : (u : ℕ) → live D c ≡ u ∷ [] → weight D c % 64 ≡ 1
  left_one u e = left ∙ ap length e

part_small : (b : Bool) (x : ℕ) → x < 2 ^ 19 → cond b 0 (64 * x + 1) ≤ 33554432
part_small true x h = omega arith
part_small false x h = omega arith

-- a literal weighs at most 2 ^ 25
pub weight-small : (v : ℕ) (D c : List ℕ) → v < 2 ^ 18 → Within v c → weight D c ≤ 33554432 * length c
weight-small v D [] s w = omega arith
weight-small v D (x ∷ xs) s w =
    omega (arith, part_small (elem x D) x (omega (arith, w.0)), weight-small v D xs s w.1)

-- what holds of each clause holds of the clause at an index
pub all-at : (P : List ℕ → Type 0) (cs : List (List ℕ)) (i : ℕ) → All P cs → i < length cs → P (get_or cs i [])
all-at P [] i a h = absurd (not-suc-le-zero h)
all-at P (c ∷ cs) zero a h = a.0
all-at P (c ∷ cs) (suc i) a h = all-at P cs i a.1 (le_of_suc-le-suc h)

pub all_map : (P Q : List ℕ → Type 0) → ((c : List ℕ) → P c → Q c) → (cs : List (List ℕ)) → All P cs → All Q cs
all_map P Q f [] a = tt
all_map P Q f (c ∷ cs) a = (f c a.0, all_map P Q f cs a.1)

-- an address of the list is that of a clause that has x, where the first clause's is a
abbrev pub Holding : ℕ → List (List ℕ) → ℕ → ℕ → Type 0
Holding x cs a q = (c : ℕ) × (c < length cs) × (q ≡ a + c) × (elem x (get_or cs c []) ≡ true)

pub holder-at : (x : ℕ) (cs : List (List ℕ)) (a j : ℕ) → j < length (holders a x cs) → Holding x cs a (get_or (holders a x cs) j 0)
holder-at x [] a j h = absurd (not-suc-le-zero h)
holder-at x (k ∷ ks) a j h = by (holder-at x ks (suc a)) (elem x k) refl j h
  where
    later : (q : ℕ) → Holding x ks (suc a) q → Holding x (k ∷ ks) a q
    later q (c, b, e, p) = (suc c, omega arith, e ∙ omega arith, p)

    by : ((i : ℕ) → i < length (holders (suc a) x ks) → Holding x ks (suc a) (get_or (holders (suc a) x ks) i 0)) → (b : Bool) → elem x k ≡ b → (i : ℕ)
        → i < length (cond b (a ∷ holders (suc a) x ks) (holders (suc a) x ks))
        → Holding x (k ∷ ks) a (get_or (cond b (a ∷ holders (suc a) x ks) (holders (suc a) x ks)) i 0)
    by again true e zero l = (0, omega arith, omega arith, e)
    by again true e (suc i) l = later _ (again i (le_of_suc-le-suc l))
    by again false e i l = later _ (again i l)

-- and the addresses rise
pub holders-rise : (x : ℕ) (cs : List (List ℕ)) (a i j : ℕ) → i < j → j < length (holders a x cs) → get_or (holders a x cs) i 0 < get_or (holders a x cs) j 0
holders-rise x [] a i j h l = absurd (not-suc-le-zero l)
holders-rise x (k ∷ ks) a i j h l = by (holders-rise x ks (suc a)) (elem x k) i j h l
  where
    by : ((i j : ℕ) → i < j → j < length (holders (suc a) x ks) → get_or (holders (suc a) x ks) i 0 < get_or (holders (suc a) x ks) j 0) → (b : Bool) (i j : ℕ)
        → i < j → j < length (cond b (a ∷ holders (suc a) x ks) (holders (suc a) x ks))
        → get_or (cond b (a ∷ holders (suc a) x ks) (holders (suc a) x ks)) i 0 < get_or (cond b (a ∷ holders (suc a) x ks) (holders (suc a) x ks)) j 0
    by again true i zero h l = absurd (not-suc-le-zero h)
    by again true zero (suc j) h l = let (c, b, e, p) = holder-at x ks (suc a) j (le_of_suc-le-suc l) in omega (arith, e)
    by again true (suc i) (suc j) h l = again i j (le_of_suc-le-suc h) (le_of_suc-le-suc l)
    by again false i j h l = again i j h l
