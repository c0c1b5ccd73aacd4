-- What is left to do, as a number that falls with each move of the search.
use mathlib.Core.Path.{◌≡◌, ap, ◌∙◌}
use mathlib.Core.Bool.{cond}
use mathlib.Core.List.{List, [], ◌∷◌}
use Prim.Native.Nat.{ℕ, suc, ◌+◌, ◌-◌, ◌*◌, ◌/◌, ◌%◌, ◌≤◌, ◌<◌, ◌^◌}
use native.Mathlib.Omega.{arith}
use native.Mathlib.Nat.{pow-suc, one-le-pow, pow-le-pow_right}
use borrow.Author.Tests.{eq-eqb, ne_eqb}
use lib.Dec.{eqb}
use lib.ListN.{length}
use Rattle.propagation.specs.WorkArea.{negated}
use Rattle.propagation.specs.Forcing.{Forces, no_more, one_more}
use Rattle.search.specs.Moves.{BackTo, flips, pops}

-- a power of 3 for each open choice
abbrev opens : ℕ → List ℕ → ℕ
opens v [] = 0
opens v (t ∷ ts) = cond (eqb (t % 2) 1) (3 ^ (v - length (t ∷ ts))) 0 + opens v ts

-- and one for the trail's free places
abbrev pub potential : ℕ → List ℕ → ℕ
potential v ts = 3 ^ (v - length ts) + opens v ts

-- the potential falls
module _ (v : ℕ) where
  pub forced-falls : {cs : List (List ℕ)} {ts us : List ℕ} → Forces v cs ts us → potential v us ≤ potential v ts
  forced-falls no_more = omega arith
  forced-falls (one_more {ts' = ts'} i t g is even l named unset) =
      let p : 3 ^ (v - length (t ∷ ts')) ≤ 3 ^ (v - length ts') = pow-le-pow_right (omega arith) (omega arith) in
      rw (ne_eqb (t % 2) 1 (λ z. omega (arith, z, even))) (omega (arith, p, forced-falls g))

  pub choice-falls : (u : ℕ) (us : List ℕ) → length us < v → potential v ((2 * u + 1) ∷ us) < potential v us
  choice-falls u us h =
      let m = v - length ((2 * u + 1) ∷ us) in
      let n : v - length us ≡ suc m = omega arith in
      let p : 3 ^ (v - length us) ≡ 3 ^ m * 3 = ap (λ (k : ℕ). 3 ^ k) n ∙ pow-suc 3 m in
      let q : 0 < 3 ^ m = one-le-pow m 3 (omega arith) in
      rw (eq-eqb ((2 * u + 1) % 2) 1 (omega arith)) (omega (arith, p, q))

  back-opens : {ts us : List ℕ} → BackTo ts us → potential v us ≤ opens v ts
  back-opens (flips {ts} t e) =
      rw (eq-eqb (t % 2) 1 e, ne_eqb ((2 * negated (t / 2) + 0) % 2) 1 (λ z. omega (arith, z))) (omega arith)
  back-opens (pops {ts} t e b) = omega (arith, back-opens b)

  pub back-falls : {ts us : List ℕ} → BackTo ts us → potential v us < potential v ts
  back-falls {ts} b = omega (arith, back-opens b, one-le-pow (v - length ts) 3 (omega arith))
