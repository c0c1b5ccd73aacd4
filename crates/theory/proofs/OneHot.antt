-- One-hot bytes: exactly one byte is 1, the others are 0. So a valuation gives a function's cell its result.
use Prim.Native.Nat.{ℕ, zero, suc, ◌<◌}
use mathlib.Core.Path.{◌≡◌, refl, sym, ap, ◌∙◌}
use mathlib.Core.Bool.{Bool, true, false, cond, true≢false, false≢true}
use mathlib.Core.List.{List, [], ◌∷◌}
use native.Mathlib.Omega.{arith}
use lib.Dec.{eqb, ltb, eqb-zero-suc, eqb-suc-zero, eqb-suc-suc}
use lib.ListN.{length, get_or, replicate, length-replicate, get_or-replicate}
use lib.Seq.{ext_get_or}
use Rattle.theory.specs.Lists.{all, select}
use Rattle.theory.specs.Syntax.{function}
use Rattle.theory.specs.Valuation.{has_value, first_one, one_hot}
use Rattle.theory.proofs.Tests.{eqb-true, ltb-true, and_left}
use Rattle.theory.proofs.Lists.{all_get_d}

-- every byte is 0 or 1
abbrev pub are_bits : List ℕ → Bool
are_bits bs = all (λ b. ltb b 2) bs

pub length-one_hot : (n d : ℕ) → length (one_hot n d) ≡ n
length-one_hot zero d = refl
length-one_hot (suc n) zero = ap suc (length-replicate n 0)
length-one_hot (suc n) (suc d) = ap suc (length-one_hot n d)

-- byte e: 1 for e itself
pub one_hot-byte : (n d e : ℕ) → e < n → get_or (one_hot n d) e 0 ≡ cond (eqb d e) 1 0
one_hot-byte zero d e h = absurd (omega arith)
one_hot-byte (suc n) zero zero h = refl
one_hot-byte (suc n) zero (suc e) h = get_or-replicate n e 0 0 (omega arith) ∙ ap (λ (b : Bool). cond b 1 0) (sym (eqb-zero-suc e))
one_hot-byte (suc n) (suc d) zero h = ap (λ (b : Bool). cond b 1 0) (sym (eqb-suc-zero d))
one_hot-byte (suc n) (suc d) (suc e) h = one_hot-byte n d e (omega arith) ∙ ap (λ (b : Bool). cond b 1 0) (sym (eqb-suc-suc d e))

pub one_hot-at : (n d e : ℕ) → e < n → eqb (get_or (one_hot n d) e 0) 1 ≡ eqb d e
one_hot-at n d e h = ap (λ (b : ℕ). eqb b 1) (one_hot-byte n d e h) ∙ is_one (eqb d e)
  where
    is_one : (b : Bool) → eqb (cond b 1 0) 1 ≡ b
    is_one true = refl
    is_one false = refl

zeros-are-bits : (n : ℕ) → are_bits (replicate n 0) ≡ true
zeros-are-bits zero = refl
zeros-are-bits (suc n) = zeros-are-bits n

pub one_hot-are_bits : (n d : ℕ) → are_bits (one_hot n d) ≡ true
one_hot-are_bits zero d = refl
one_hot-are_bits (suc n) zero = zeros-are-bits n
one_hot-are_bits (suc n) (suc d) = one_hot-are_bits n d

-- the ones of a list of bytes
abbrev ones : List ℕ → List ℕ
ones bs = select (eqb 1) bs

ones-zeros : (n : ℕ) → ones (replicate n 0) ≡ []
ones-zeros zero = refl
ones-zeros (suc n) = ones-zeros n

ones-one_hot : (n d : ℕ) → d < n → ones (one_hot n d) ≡ 1 ∷ []
ones-one_hot zero d h = absurd (omega arith)
ones-one_hot (suc n) zero h = ap (λ (l : List ℕ). 1 ∷ l) (ones-zeros n)
ones-one_hot (suc n) (suc d) h = ones-one_hot n d (omega arith)

pub one_hot-has_value : (n d : ℕ) → d < n → has_value function (one_hot n d) ≡ true
one_hot-has_value n d h = ap (λ (l : List ℕ). eqb (length l) 1) (ones-one_hot n d h)

pub first_one-one_hot : (n d : ℕ) → d < n → first_one (one_hot n d) ≡ d
first_one-one_hot zero d h = absurd (omega arith)
first_one-one_hot (suc n) zero h = refl
first_one-one_hot (suc n) (suc d) h = ap suc (first_one-one_hot n d (omega arith))

no-byte-above : {A : Type 0} (b : ℕ) (bs : List ℕ) → are_bits (suc (suc b) ∷ bs) ≡ true → A
no-byte-above b bs h = let lt : suc (suc b) < 2 = ltb-true (suc (suc b)) 2 (and_left (ltb (suc (suc b)) 2) (are_bits bs) h) in absurd (omega arith)

no_ones : (bs : List ℕ) → are_bits bs ≡ true → length (ones bs) ≡ 0 → bs ≡ replicate (length bs) 0
no_ones [] h e = refl
no_ones (zero ∷ bs) h e = ap (λ (l : List ℕ). 0 ∷ l) (no_ones bs h e)
no_ones (suc zero ∷ bs) h e = absurd (omega arith)
no_ones (suc (suc b) ∷ bs) h e = no-byte-above b bs h

-- bytes with exactly one 1 are one-hot
pub has_value→one_hot : (bs : List ℕ) → are_bits bs ≡ true → has_value function bs ≡ true → (bs ≡ one_hot (length bs) (first_one bs)) × (first_one bs < length bs)
has_value→one_hot [] h e = absurd (false≢true e)
has_value→one_hot (zero ∷ bs) h e = let r = has_value→one_hot bs h e in (ap (λ (l : List ℕ). 0 ∷ l) r.0, omega (arith, r.1))
has_value→one_hot (suc zero ∷ bs) h e =
    let n : suc (length (ones bs)) ≡ 1 = eqb-true (suc (length (ones bs))) 1 e in
    (ap (λ (l : List ℕ). 1 ∷ l) (no_ones bs h (omega arith)), omega arith)
has_value→one_hot (suc (suc b) ∷ bs) h e = no-byte-above b bs h

-- exactly one number below n passes the test
pub record One (n : ℕ) (q : ℕ → Bool) : Type 0 where
  pub at : ℕ
  pub below : at < n
  pub only : (d : ℕ) → d < n → q d ≡ eqb at d

same_bit : (a b : ℕ) → a < 2 → b < 2 → eqb a 1 ≡ eqb b 1 → a ≡ b
same_bit zero zero h k e = refl
same_bit zero (suc zero) h k e = absurd (false≢true e)
same_bit (suc zero) zero h k e = absurd (true≢false e)
same_bit (suc zero) (suc zero) h k e = refl
same_bit zero (suc (suc b)) h k e = absurd (omega arith)
same_bit (suc zero) (suc (suc b)) h k e = absurd (omega arith)
same_bit (suc (suc a)) b h k e = absurd (omega arith)

same_bits : (bs cs : List ℕ) → are_bits bs ≡ true → are_bits cs ≡ true → length bs ≡ length cs
    → ((d : ℕ) → d < length bs → eqb (get_or bs d 0) 1 ≡ eqb (get_or cs d 0) 1) → bs ≡ cs
same_bits bs cs h k e same =
    ext_get_or 0 bs cs e (λ d lt. same_bit (get_or bs d 0) (get_or cs d 0) (byte bs h d lt) (byte cs k d (omega arith)) (same d lt))
  where
    byte : (l : List ℕ) → are_bits l ≡ true → (d : ℕ) → d < length l → get_or l d 0 < 2
    byte l a d lt = ltb-true (get_or l d 0) 2 (all_get_d (λ b. ltb b 2) l d a lt)

-- a function's cell has a value exactly if one of its bytes is 1
pub has_value→One : (bs : List ℕ) → are_bits bs ≡ true → has_value function bs ≡ true → One (length bs) (λ d. eqb (get_or bs d 0) 1)
has_value→One bs h e =
    let r = has_value→one_hot bs h e in
    record {
      at = first_one bs;
      below = r.1;
      only = λ d lt. ap (λ (l : List ℕ). eqb (get_or l d 0) 1) r.0 ∙ one_hot-at (length bs) (first_one bs) d lt;
    }

pub One→has_value : (bs : List ℕ) → are_bits bs ≡ true → One (length bs) (λ d. eqb (get_or bs d 0) 1) → has_value function bs ≡ true
One→has_value bs h o =
    let n : ℕ = length bs in
    let e : bs ≡ one_hot n o.at =
    same_bits bs (one_hot n o.at) h (one_hot-are_bits n o.at) (sym (length-one_hot n o.at)) (λ d lt. o.only d lt ∙ sym (one_hot-at n o.at d lt)) in
    ap (has_value function) e ∙ one_hot-has_value n o.at o.below
