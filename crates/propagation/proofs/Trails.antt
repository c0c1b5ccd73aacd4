-- Laws of trails: lengths, parts, and that an unset variable's literals are not among the false ones.
use mathlib.Core.Path.{◌≡◌, refl, sym, ap, ◌∙◌}
use mathlib.Core.Bool.{Bool, true, false, cond, false≢true}
use mathlib.Core.List.{List, [], ◌∷◌}
use Prim.Native.Nat.{ℕ, zero, suc, ◌+◌, ◌-◌, ◌/◌, ◌%◌, ◌≤◌, ◌<◌}
use native.Mathlib.Omega.{arith}
use borrow.Author.Tests.{eqb-true, eqb-false, leb-true, leb-false}
use lib.Dec.{eqb, leb}
use lib.ListN.{length, get_or, set, replicate, length-set, length-replicate}
use lib.Seq.{get_or-set_same, get_or-set_other}
use Rattle.theory.proofs.Tests.{not-true}
use Rattle.theory.specs.Lists.{elem}
use Rattle.propagation.specs.Units.{set_count}
use Rattle.propagation.proofs.Visited.{count_set}
use Rattle.propagation.specs.WorkArea.{negated, trail, values, Fresh, falses}

negated-by : (u : ℕ) (b : Bool) → eqb (u % 2) 0 ≡ b → (cond b (u + 1) (u - 1) / 2 ≡ u / 2) × (cond b (u + 1) (u - 1) % 2 ≡ 1 - u % 2)
negated-by u true e = let h = eqb-true (u % 2) 0 e in (omega (arith, h), omega (arith, h))
negated-by u false e = let h = eqb-false (u % 2) 0 e in (omega (arith, h), omega (arith, h))

pub negated-half : (u : ℕ) → negated u / 2 ≡ u / 2
negated-half u = (negated-by u (eqb (u % 2) 0) refl).0

pub negated-sign : (u : ℕ) → negated u % 2 ≡ 1 - u % 2
negated-sign u = (negated-by u (eqb (u % 2) 0) refl).1

pub values_length : (v : ℕ) (ts : List ℕ) → length (values v ts) ≡ v
values_length v [] = length-replicate v 0
values_length v (t ∷ ts) = length-set (values v ts) (t / 2 / 2) (1 + t / 2 % 2) ∙ values_length v ts

pub fresh-down : (v : ℕ) (w : List ℕ) (n len : ℕ) → n ≤ len → Fresh v (trail w v len) → Fresh v (trail w v n)
fresh-down v w n zero h f = let e : n ≡ 0 = omega arith in rw e tt
fresh-down v w n (suc m) h f = by (λ l. fresh-down v w n m l f.2) (leb (suc m) n) refl
  where
    by : (n ≤ m → Fresh v (trail w v n)) → (b : Bool) → leb (suc m) n ≡ b → Fresh v (trail w v n)
    by again true e = let same : n ≡ suc m = omega (arith, leb-true (suc m) n e) in rw same f
    by again false e = again (omega (arith, leb-false (suc m) n e))

-- a store of a number that is not 0 makes no number 0
pub set-nonzero : (l : List ℕ) (k z j : ℕ) → k < length l → 0 < z → (get_or l j 0 ≡ 0 → ⊥) → get_or (set l k z) j 0 ≡ 0 → ⊥
set-nonzero l k z j h p n e = by (eqb j k) refl
  where
    by : (b : Bool) → eqb j k ≡ b → ⊥
    by true q =
        let s : get_or (set l k z) j 0 ≡ z = rw (eqb-true j k q) (get_or-set_same l k z 0 h) in
        omega (arith, s, e)
    by false q = n (sym (get_or-set_other l k j z 0 (eqb-false j k q)) ∙ e)

-- what is false belongs to a set variable
pub false-set : (v u : ℕ) (ts : List ℕ) → Fresh v ts → elem (negated u) (falses ts) ≡ true → get_or (values v ts) (u / 2) 0 ≡ 0 → ⊥
false-set v u [] f h e = false≢true h
false-set v u (t ∷ ts) f h e = by (false-set v u ts f.2) (eqb (negated u) (negated (t / 2))) refl
  where
    long : t / 2 / 2 < length (values v ts)
    long = omega (arith, values_length v ts, f.0)

    by : (elem (negated u) (falses ts) ≡ true → get_or (values v ts) (u / 2) 0 ≡ 0 → ⊥) → (b : Bool) → eqb (negated u) (negated (t / 2)) ≡ b → ⊥
    by again true q =
        let same : u / 2 ≡ t / 2 / 2 = sym (negated-half u) ∙ ap (λ (n : ℕ). n / 2) (eqb-true (negated u) (negated (t / 2)) q) ∙ negated-half (t / 2) in
        let s = get_or-set_same (values v ts) (t / 2 / 2) (1 + t / 2 % 2) 0 long in
        omega (arith, s, rw same at e)
    by again false q =
        let h' : elem (negated u) (falses ts) ≡ true = rw q at h in
        set-nonzero (values v ts) (t / 2 / 2) (1 + t / 2 % 2) (u / 2) long (omega arith) (again h') e

-- the literal that a new entry makes false was not false
pub fresh-new : (v t : ℕ) (ts : List ℕ) → Fresh v (t ∷ ts) → elem (negated (t / 2)) (falses ts) ≡ false
fresh-new v t ts f = not-true _ (λ h. false-set v (t / 2) ts f.2 h f.1)

zeros-count : (v : ℕ) → set_count (replicate v 0) ≡ 0
zeros-count zero = refl
zeros-count (suc v) = omega (arith, zeros-count v)

-- as many values are set as the trail has entries
pub values-count : (v : ℕ) (ts : List ℕ) → Fresh v ts → set_count (values v ts) ≡ length ts
values-count v [] f = zeros-count v
values-count v (t ∷ ts) f =
    count_set (values v ts) (t / 2 / 2) (1 + t / 2 % 2) (omega (arith, values_length v ts, f.0)) f.1 (omega arith)
    ∙ omega (arith, values-count v ts f.2)
