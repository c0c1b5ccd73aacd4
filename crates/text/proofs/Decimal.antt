-- Laws of numbers in decimal: their last digit, the digits before it, how many there are.
use mathlib.Core.Path.{◌≡◌, refl, sym, ap, ◌∙◌}
use mathlib.Core.Bool.{Bool, true, false}
use mathlib.Core.List.{List, [], ◌∷◌, ◌++◌}
use Prim.Native.Nat.{ℕ, zero, suc, ◌+◌, ◌*◌, ◌^◌, ◌/◌, ◌%◌, ◌≤◌, ◌<◌}
use native.Mathlib.Nat.{pow-suc}
use native.Mathlib.Omega.{arith}
use lib.Dec.{ltb}
use lib.ListN.{length, get_or, take, length-append}
use lib.Seq.{get_or_at, take_at}
use borrow.Author.Tests.{lt-ltb, le-ltb, ltb-true, ltb-false}
use Rattle.std.specs.Prelude.{Option, Some, None, IfSome, IfNone, unwrap_or}
use Rattle.theory.specs.Bytes.{digits, decimal}

-- more digits than are needed change nothing
enough : (j k n : ℕ) → n < j → n < k → digits j n ≡ digits k n
enough zero k n h l = absurd (omega arith)
enough (suc j) zero n h l = absurd (omega arith)
enough (suc j) (suc k) n h l = go (ltb n 10) refl (λ a b. enough j k (n / 10) a b)
  where
    go : (b : Bool) → ltb n 10 ≡ b → (n / 10 < j → n / 10 < k → digits j (n / 10) ≡ digits k (n / 10))
        → ◌≡◌ {A = List ℕ} (elim b as (λ _. List ℕ) [ true ↦ (48 + n) ∷ [] | false ↦ digits j (n / 10) ++ ((48 + n % 10) ∷ []) ])
        (elim b as (λ _. List ℕ) [ true ↦ (48 + n) ∷ [] | false ↦ digits k (n / 10) ++ ((48 + n % 10) ∷ []) ])
    go true e ih = refl
    go false e ih =
        let big : 10 ≤ n = ltb-false n 10 e in
        ap (λ (l : List ℕ). l ++ ((48 + n % 10) ∷ [])) (ih (omega arith) (omega arith))

-- a number of one digit
pub decimal-small : (n : ℕ) → n < 10 → decimal n ≡ (48 + n) ∷ []
unfolding decimal
decimal-small n h = ap (λ (b : Bool). elim b as (λ _. List ℕ) [ true ↦ (48 + n) ∷ [] | false ↦ digits n (n / 10) ++ ((48 + n % 10) ∷ []) ]) (lt-ltb n 10 h)

-- a number of several digits
pub decimal-large : (n : ℕ) → 10 ≤ n → decimal n ≡ decimal (n / 10) ++ ((48 + n % 10) ∷ [])
unfolding decimal
decimal-large n h =
    ap (λ (b : Bool). elim b as (λ _. List ℕ) [ true ↦ (48 + n) ∷ [] | false ↦ digits n (n / 10) ++ ((48 + n % 10) ∷ []) ]) (le-ltb n 10 h)
    ∙ ap (λ (l : List ℕ). l ++ ((48 + n % 10) ∷ [])) (enough n (suc (n / 10)) (n / 10) (omega arith) (omega arith))

pub decimal-length-small : (n : ℕ) → n < 10 → length (decimal n) ≡ 1
decimal-length-small n h = ap length (decimal-small n h)

pub decimal-length-large : (n : ℕ) → 10 ≤ n → length (decimal n) ≡ suc (length (decimal (n / 10)))
decimal-length-large n h = ap length (decimal-large n h) ∙ length-append (decimal (n / 10)) ((48 + n % 10) ∷ []) ∙ omega arith

-- a number from 10 ^ k on and below 10 ^ (k + 1) has k + 1 digits
pub decimal-length : (k n : ℕ) → 10 ^ suc k ≤ n → n < 10 ^ suc (suc k) → suc (suc k) ≡ length (decimal n)
decimal-length zero n lo hi =
    omega (arith, pow-suc 10 0, pow-suc 10 1, decimal-length-large n (omega (arith, pow-suc 10 0)), decimal-length-small (n / 10) (omega (arith, pow-suc 10 0, pow-suc 10 1)))
decimal-length (suc k) n lo hi =
    let big : 10 ≤ n = omega (arith, pow-suc 10 (suc k), pow-positive k) in
    omega (arith, decimal-length-large n big, decimal-length k (n / 10) (omega (arith, pow-suc 10 (suc k))) (omega (arith, pow-suc 10 (suc (suc k)))))
  where
    pow-positive : (k : ℕ) → 1 ≤ 10 ^ suc k
    pow-positive zero = omega (arith, pow-suc 10 0)
    pow-positive (suc k) = omega (arith, pow-suc 10 (suc k), pow-positive k)

-- a number whose logarithm to ten is k has k + 1 digits
decimal-log : (k n : ℕ) → 10 ^ k ≤ n → n < 10 * 10 ^ k → k + 1 ≡ length (decimal n)
decimal-log zero n lo hi = omega (arith, decimal-length-small n (omega arith))
decimal-log (suc k) n lo hi = omega (arith, decimal-length k n lo (omega (arith, pow-suc 10 (suc k))))

-- the digits by what a logarithm in base ten tells, none being that of 0
pub log-length : (n : ℕ) (r : Option ℕ) → IfNone r (n ≡ 0) → IfSome r (λ k. 10 ^ k ≤ n) → IfSome r (λ k. n < 10 * 10 ^ k) → unwrap_or r 0 + 1 ≡ length (decimal n)
log-length n None z lo hi = omega (arith, decimal-length-small n (omega (arith, z)))
log-length n (Some k) z lo hi = decimal-log k n lo hi

-- the last digit
pub last-digit : (k n : ℕ) → length (decimal n) ≡ suc k → get_or (decimal n) k 0 ≡ 48 + n % 10
last-digit k n e = go (ltb n 10) refl
  where
    go : (b : Bool) → ltb n 10 ≡ b → get_or (decimal n) k 0 ≡ 48 + n % 10
    go true h =
        let small : n < 10 = ltb-true n 10 h in
        let z : k ≡ 0 = omega (arith, decimal-length-small n small) in
        ap (λ (i : ℕ). get_or (decimal n) i 0) z ∙ ap (λ (l : List ℕ). get_or l 0 0) (decimal-small n small) ∙ omega arith
    go false h =
        let big : 10 ≤ n = ltb-false n 10 h in
        ap (λ (l : List ℕ). get_or l k 0) (decimal-large n big)
        ∙ get_or_at (decimal (n / 10)) (48 + n % 10) [] 0 k (omega (arith, decimal-length-large n big))

-- the digits before the last
pub front-digits : (k n : ℕ) → length (decimal n) ≡ suc (suc k) → decimal (n / 10) ≡ take (suc k) (decimal n)
front-digits k n e = go (ltb n 10) refl
  where
    go : (b : Bool) → ltb n 10 ≡ b → decimal (n / 10) ≡ take (suc k) (decimal n)
    go true h = absurd (omega (arith, decimal-length-small n (ltb-true n 10 h)))
    go false h =
        let big : 10 ≤ n = ltb-false n 10 h in
        sym (ap (take (suc k)) (decimal-large n big) ∙ take_at (decimal (n / 10)) ((48 + n % 10) ∷ []) (suc k) (omega (arith, decimal-length-large n big)))

-- a number of at most k + 1 digits
pub decimal-within : (k n : ℕ) → n < 10 ^ suc k → length (decimal n) ≤ suc k
decimal-within zero n h = omega (arith, pow-suc 10 0, decimal-length-small n (omega (arith, pow-suc 10 0)))
decimal-within (suc k) n h = go (ltb n 10) refl (decimal-within k (n / 10) (omega (arith, pow-suc 10 (suc k))))
  where
    go : (b : Bool) → ltb n 10 ≡ b → length (decimal (n / 10)) ≤ suc k → length (decimal n) ≤ suc (suc k)
    go true e l = omega (arith, decimal-length-small n (ltb-true n 10 e))
    go false e l = omega (arith, decimal-length-large n (ltb-false n 10 e))
