-- A number written from its last digit to its first.
use mathlib.Core.Path.{◌≡◌, refl, sym, ap, ◌∙◌}
use mathlib.Core.List.{List, ◌∷◌}
use Prim.Native.Nat.{ℕ, zero, suc, ◌+◌, ◌-◌, ◌/◌, ◌%◌, ◌≤◌, ◌<◌}
use native.Mathlib.Omega.{arith}
use lib.ListN.{length, get_or, set, take, drop, length-set}
use lib.Seq.{drop-cons, drop-length, take-length, get_or-take, length-take-le, take-take}
use Rattle.theory.specs.Bytes.{decimal}
use Rattle.text.specs.Put.{put, put-none, put_front}
use Rattle.text.proofs.Decimal.{last-digit, front-digits}

-- the digits of n from place i on are written, and `left` has those before it
pub record Backwards (l : List ℕ) (at n : ℕ) (l' : List ℕ) (left i : ℕ) : Type 0 where
  pub within : i ≤ length (decimal n)
  pub kept : length l' ≡ length l
  pub written : l' ≡ put l (at + i) (drop i (decimal n))
  pub rest : 0 < i → decimal left ≡ take i (decimal n)

module _ (l : List ℕ) (at n : ℕ) where
  pub begins : (k : ℕ) → k ≡ length (decimal n) → Backwards l at n l n k
  begins k e = record {
    within = omega arith;
    kept = refl;
    written = sym (ap (put l (at + k)) (ap (λ (i : ℕ). drop i (decimal n)) e ∙ drop-length (decimal n)) ∙ put-none l (at + k));
    rest = λ _. sym (ap (λ (i : ℕ). take i (decimal n)) e ∙ take-length (decimal n));
  }

  pub turn : (l' : List ℕ) (left i : ℕ) → at + length (decimal n) ≤ length l → 0 < i → Backwards l at n l' left i
      → Backwards l at n (set l' (at + (i - 1)) (48 + left % 10)) (left / 10) (i - 1)
  turn l' left i room h b = step (i - 1) (omega arith)
    where
      step : (j : ℕ) → i ≡ suc j → Backwards l at n (set l' (at + j) (48 + left % 10)) (left / 10) j
      step j e =
          let within : i ≤ length (decimal n) = b.within in
          let rest : decimal left ≡ take (suc j) (decimal n) = b.rest h ∙ ap (λ (k : ℕ). take k (decimal n)) e in
          let count : length (decimal left) ≡ suc j = ap length rest ∙ length-take-le (suc j) (decimal n) (omega arith) in
          let place : at + i ≡ suc (at + j) = omega arith in
          let digit : get_or (decimal n) j 0 ≡ 48 + left % 10 =
          sym (get_or-take (suc j) (decimal n) j 0 (omega arith)) ∙ ap (λ (k : List ℕ). get_or k j 0) (sym rest) ∙ last-digit j left count ∙ omega arith in
          let front : drop j (decimal n) ≡ (48 + left % 10) ∷ drop i (decimal n) =
          drop-cons (decimal n) j 0 (omega arith) ∙ ap (λ (x : ℕ). x ∷ drop (suc j) (decimal n)) digit ∙ ap (λ (k : ℕ). (48 + left % 10) ∷ drop k (decimal n)) (sym e) in
          record {
            within = omega arith;
            kept = length-set l' (at + j) (48 + left % 10) ∙ b.kept;
            written = ap (λ (k : List ℕ). set k (at + j) (48 + left % 10)) (b.written ∙ ap (λ (k : ℕ). put l k (drop i (decimal n))) place)
                ∙ put_front l (at + j) (drop i (decimal n)) (48 + left % 10) (omega arith)
                ∙ ap (put l (at + j)) (sym front);
            rest = λ k. before left j rest count k;
          }
        where
          before : (left j : ℕ) → decimal left ≡ take (suc j) (decimal n) → length (decimal left) ≡ suc j → 0 < j → decimal (left / 10) ≡ take j (decimal n)
          before left zero r k h = absurd (omega arith)
          before left (suc j) r k h = front-digits j left k ∙ ap (take (suc j)) r ∙ take-take (suc j) (suc (suc j)) (decimal n) (omega arith)

  pub ends : (l' : List ℕ) (left i : ℕ) → i ≤ 0 → Backwards l at n l' left i → l' ≡ put l at (decimal n)
  ends l' left i h b =
      let e : i ≡ 0 = omega arith in
      let p : at + i ≡ at = omega arith in
      b.written ∙ ap (λ (k : ℕ). put l (at + i) (drop k (decimal n))) e ∙ ap (λ (k : ℕ). put l k (decimal n)) p
