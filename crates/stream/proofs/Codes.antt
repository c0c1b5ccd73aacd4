-- Laws of literals and clauses as codes: there and back.
use Prim.Native.Nat.{ℕ, zero, suc, pred, ◌+◌, ◌*◌, ◌/◌, ◌%◌}
use mathlib.Core.Path.{◌≡◌, refl, ap₂}
use mathlib.Core.Bool.{Bool, true, false, cond}
use mathlib.Core.List.{List, [], ◌∷◌}
use native.Mathlib.Omega.{arith}
use borrow.Author.Tests.{eq-eqb, ne_eqb, eqb-true}
use lib.Dec.{eqb, leb}
use Rattle.theory.specs.Lists.{all}
use Rattle.theory.specs.Claims.Counts.{is_numbered}
use Rattle.theory.proofs.Tests.{and_left, and_right, leb-true, eqb-ne}
use Rattle.propagation.specs.Clauses.{code, codes}
use Rattle.loading.specs.Loading.{InRange}
use Rattle.stream.specs.Literals.{literal_of, prop_clause_of}

-- the literal of a variable counted from 0
pub literal_of-code : (x : ℕ) (b : Bool) → literal_of (2 * x + cond b 0 1) ≡ record { positive = b; number = 1 + x }
literal_of-code x true =
    let r : (2 * x + 0) % 2 ≡ 0 = omega arith in
    let q : (2 * x + 0) / 2 + 1 ≡ 1 + x = omega arith in
    ap₂ (λ (b : Bool) (n : ℕ). record { positive = b; number = n }) (eq-eqb ((2 * x + 0) % 2) 0 r) q
literal_of-code x false =
    let r : (2 * x + 1) % 2 ≡ 1 = omega arith in
    let q : (2 * x + 1) / 2 + 1 ≡ 1 + x = omega arith in
    ap₂ (λ (b : Bool) (n : ℕ). record { positive = b; number = n }) (ne_eqb ((2 * x + 1) % 2) 0 (λ e. absurd (omega arith))) q

-- codes are those of their literals
pub code-literal_of : (u : ℕ) → code (literal_of u) ≡ u
code-literal_of u = go (eqb (u % 2) 0) refl
  where
    go : (b : Bool) → eqb (u % 2) 0 ≡ b → 2 * pred (u / 2 + 1) + cond b 0 1 ≡ u
    go true e = let r : u % 2 ≡ 0 = eqb-true (u % 2) 0 e in omega arith
    go false e = omega (arith, eqb-ne (u % 2) 0 e)

pub codes-clause_of : (us : List ℕ) → codes (prop_clause_of us) ≡ us
codes-clause_of [] = refl
codes-clause_of (u ∷ us) = ap₂ (λ (x : ℕ) (l : List ℕ). x ∷ l) (code-literal_of u) (codes-clause_of us)

-- numbered literals have codes in range
pub numbered-in-range : (v : ℕ) (us : List ℕ) → all (is_numbered v) (prop_clause_of us) ≡ true → InRange v us
numbered-in-range v [] h i l = absurd (omega arith)
numbered-in-range v (u ∷ us) h zero l =
    let n = leb-true (u / 2 + 1) v (and_right (leb 1 (u / 2 + 1)) (leb (u / 2 + 1) v) (and_left (is_numbered v (literal_of u)) (all (is_numbered v) (prop_clause_of us)) h)) in
    omega arith
numbered-in-range v (u ∷ us) h (suc i) l = numbered-in-range v us (and_right (is_numbered v (literal_of u)) (all (is_numbered v) (prop_clause_of us)) h) i (omega arith)
