-- Numbers without plus sign, minus zero or leading zero: the text of a literal is read as that literal, and no other text is.
use Prim.Native.Nat.{ℕ, zero, suc, ◌+◌, ◌*◌, ◌-◌, ◌/◌, ◌%◌, ◌≤◌, ◌<◌}
use mathlib.Core.Path.{◌≡◌, refl, sym, ap, ◌∙◌}
use mathlib.Core.Bool.{Bool, true, false, cond, ◌&&◌}
use mathlib.Core.Option.{Option, none, some, some-injective}
use mathlib.Core.List.{List, [], ◌∷◌, ◌++◌, append_assoc, append-nil}
use native.Mathlib.Omega.{arith}
use lib.Dec.{eqb, ltb, leb}
use Rattle.theory.specs.Lists.{all}
use Rattle.theory.specs.Bytes.{is_digit, decimal}
use Rattle.theory.specs.Propositional.{PropLiteral}
use Rattle.theory.specs.Dimacs.{minus, literal_text}
use Rattle.theory.proofs.Tests.{eqb-true, eqb-false, eqb-ne, ltb-true, ltb-false, ltb-of-<, leb-true, leb-of-≤, and_left, and_right, and-join}
use Rattle.theory.proofs.Lists.{all_append}
use Rattle.text.proofs.Decimal.{decimal-small, decimal-large}
use Rattle.solver.specs.SolverLines.{with_digits, read_positive, with_sign, read_literal}
use Rattle.solver.proofs.Options.{none≢some, cond-some}

-- what holds of numbers of one digit, and of a number if it holds of its tenth, holds of all
by-tenths : (P : ℕ → Type 0) → ((n : ℕ) → n < 10 → P n) → ((n : ℕ) → 10 ≤ n → P (n / 10) → P n) → (n : ℕ) → P n
by-tenths P small large n = go (suc n) n (omega arith)
  where
    go : (k n : ℕ) → n < k → P n
    go zero n h = absurd (omega arith)
    go (suc k) n h = by (ltb n 10) refl (λ (l : n / 10 < k). go k (n / 10) l)
      where
        by : (q : Bool) → ltb n 10 ≡ q → (n / 10 < k → P (n / 10)) → P n
        by true e ih = small n (ltb-true n 10 e)
        by false e ih = let ge : 10 ≤ n = ltb-false n 10 e in large n ge (ih (omega arith))

-- one digit more
decimal-push : (a d : ℕ) → 1 ≤ a → d < 10 → decimal (a * 10 + d) ≡ decimal a ++ ((48 + d) ∷ [])
decimal-push a d h lt =
    let n : ℕ = a * 10 + d in
    let q : n / 10 ≡ a = omega arith in
    let r : n % 10 ≡ d = omega arith in
    decimal-large n (omega arith) ∙ ap (λ (m : ℕ). decimal m ++ ((48 + n % 10) ∷ [])) q ∙ ap (λ (m : ℕ). decimal a ++ ((48 + m) ∷ [])) r

is_digit-is : (d : ℕ) → d < 10 → is_digit (48 + d) ≡ true
is_digit-is d h = and-join (leb 48 (48 + d)) (ltb (48 + d) 58) (leb-of-≤ 48 (48 + d) (omega arith)) (ltb-of-< (48 + d) 58 (omega arith))

pub digit-is : (b : ℕ) → is_digit b ≡ true → (48 ≤ b) × (b < 58)
digit-is b h = (leb-true 48 b (and_left (leb 48 b) (ltb b 58) h), ltb-true b 58 (and_right (leb 48 b) (ltb b 58) h))

read-digit : (n d : ℕ) (bs : List ℕ) → d < 10 → with_digits n ((48 + d) ∷ bs) ≡ with_digits (n * 10 + d) bs
read-digit n d bs h =
    let e : 48 + d - 48 ≡ d = omega arith in
    ap (λ (q : Bool). cond q (with_digits (n * 10 + (48 + d - 48)) bs) none) (is_digit-is d h) ∙ ap (λ (m : ℕ). with_digits (n * 10 + m) bs) e

-- a number's digits are read as it
read-digits : (n : ℕ) (bs : List ℕ) → with_digits 0 (decimal n ++ bs) ≡ with_digits n bs
read-digits n = by-tenths (λ n. (bs : List ℕ) → with_digits 0 (decimal n ++ bs) ≡ with_digits n bs) small large n
  where
    small : (n : ℕ) → n < 10 → (bs : List ℕ) → with_digits 0 (decimal n ++ bs) ≡ with_digits n bs
    small n h bs =
        let z : 0 * 10 + n ≡ n = omega arith in
        ap (λ (l : List ℕ). with_digits 0 (l ++ bs)) (decimal-small n h) ∙ read-digit 0 n bs h ∙ ap (λ (m : ℕ). with_digits m bs) z

    large : (n : ℕ) → 10 ≤ n → ((bs : List ℕ) → with_digits 0 (decimal (n / 10) ++ bs) ≡ with_digits (n / 10) bs) → (bs : List ℕ) → with_digits 0 (decimal n ++ bs) ≡ with_digits n bs
    large n h ih bs =
        let m : n / 10 * 10 + n % 10 ≡ n = omega arith in
        ap (λ (l : List ℕ). with_digits 0 (l ++ bs)) (decimal-large n h)
        ∙ ap (with_digits 0) (append_assoc (decimal (n / 10)) ((48 + n % 10) ∷ []) bs)
        ∙ ih ((48 + n % 10) ∷ bs)
        ∙ read-digit (n / 10) (n % 10) bs (omega arith)
        ∙ ap (λ (m : ℕ). with_digits m bs) m

-- a number of at least 1 begins with a digit that is not 0
abbrev Leading : ℕ → Type 0
Leading n = (b : ℕ) × (bs : List ℕ) × (decimal n ≡ b ∷ bs) × (49 ≤ b)

first-digit : (n : ℕ) → 1 ≤ n → Leading n
first-digit n = by-tenths (λ n. 1 ≤ n → Leading n) small large n
  where
    small : (n : ℕ) → n < 10 → 1 ≤ n → Leading n
    small n h pos = (48 + n, [], decimal-small n h, omega arith)

    large : (n : ℕ) → 10 ≤ n → (1 ≤ n / 10 → Leading (n / 10)) → 1 ≤ n → Leading n
    large n h ih pos =
        let r = ih (omega arith) in
        (r.0, r.1 ++ ((48 + n % 10) ∷ []), decimal-large n h ∙ ap (λ (l : List ℕ). l ++ ((48 + n % 10) ∷ [])) r.2, r.3)

read-decimal : (n : ℕ) → 1 ≤ n → (b : ℕ) × (bs : List ℕ) × (decimal n ≡ b ∷ bs) × (49 ≤ b) × (read_positive (b ∷ bs) ≡ some n)
unfolding read_positive
read-decimal n h =
    let r = first-digit n h in
    let b : ℕ = r.0 in
    let bs : List ℕ = r.1 in
    let big : 49 ≤ b = r.3 in (
      b,
      bs,
      r.2,
      big,
      ap (λ (q : Bool). cond q none (with_digits 0 (b ∷ bs))) (eqb-false b 48 (λ e. omega arith))
          ∙ ap (with_digits 0) (sym r.2 ∙ sym (append-nil (decimal n)))
          ∙ read-digits n [],
    )

-- more digits make no smaller number
pub with_digits-≤ : (n : ℕ) (bs : List ℕ) (m : ℕ) → with_digits n bs ≡ some m → n ≤ m
with_digits-≤ n [] m e = let z : n ≡ m = some-injective n m e in omega arith
with_digits-≤ n (b ∷ bs) m e =
    let c = cond-some (is_digit b) (with_digits (n * 10 + (b - 48)) bs) m e in
    omega (arith, with_digits-≤ (n * 10 + (b - 48)) bs m c.1)

-- digits after a number of at least 1 are read as no other number than theirs
only-digits : (n : ℕ) → 1 ≤ n → (bs : List ℕ) (m : ℕ) → with_digits n bs ≡ some m → (decimal m ≡ decimal n ++ bs) × (1 ≤ m)
only-digits n h [] m e =
    let z : n ≡ m = some-injective n m e in
    (ap decimal (sym z) ∙ sym (append-nil (decimal n)), omega arith)
only-digits n h (b ∷ bs) m e =
    let c = cond-some (is_digit b) (with_digits (n * 10 + (b - 48)) bs) m e in
    let lo : 48 ≤ b = (digit-is b c.0).0 in
    let hi : b < 58 = (digit-is b c.0).1 in
    let d : ℕ = b - 48 in
    let z : 48 + d ≡ b = omega arith in
    let r = only-digits (n * 10 + d) (omega arith) bs m c.1 in (
      r.0 ∙ ap (λ (l : List ℕ). l ++ bs) (decimal-push n d h (omega arith)) ∙ append_assoc (decimal n) ((48 + d) ∷ []) bs
          ∙ ap (λ (c : ℕ). decimal n ++ (c ∷ bs)) z,
      r.1,
    )

only-decimal : (w : List ℕ) (m : ℕ) → read_positive w ≡ some m → (decimal m ≡ w) × (1 ≤ m)
unfolding read_positive
only-decimal [] m e = absurd (none≢some m e)
only-decimal (b ∷ bs) m e = go (eqb b 48) refl e
  where
    go : (q : Bool) → eqb b 48 ≡ q → cond q none (with_digits 0 (b ∷ bs)) ≡ some m → (decimal m ≡ b ∷ bs) × (1 ≤ m)
    go true h e = absurd (none≢some m e)
    go false h e =
        let ne : b ≡ 48 → ⊥ = eqb-ne b 48 h in
        let c = cond-some (is_digit b) (with_digits (0 * 10 + (b - 48)) bs) m e in
        let lo : 48 ≤ b = (digit-is b c.0).0 in
        let hi : b < 58 = (digit-is b c.0).1 in
        let d : ℕ = 0 * 10 + (b - 48) in
        let z : 48 + d ≡ b = omega arith in
        let r = only-digits d (omega arith) bs m c.1 in
        (r.0 ∙ ap (λ (l : List ℕ). l ++ bs) (decimal-small d (omega arith)) ∙ ap (λ (c : ℕ). c ∷ bs) z, r.1)

-- the text of a literal is read as that literal
pub read-literal : (l : PropLiteral) → 1 ≤ l.number → read_literal (literal_text l) ≡ some l
unfolding read_literal literal_text
read-literal l h = go l.positive refl
  where
    r : (b : ℕ) × (bs : List ℕ) × (decimal l.number ≡ b ∷ bs) × (49 ≤ b) × (read_positive (b ∷ bs) ≡ some l.number)
    r = read-decimal l.number h

    go : (q : Bool) → l.positive ≡ q → read_literal (cond q [] (minus ∷ []) ++ decimal l.number) ≡ some l
    go true e =
        let b : ℕ = r.0 in
        let big : 49 ≤ b = r.3 in
        ap read_literal r.2
        ∙ ap (λ (q : Bool). cond q (with_sign false (read_positive r.1)) (with_sign true (read_positive (b ∷ r.1)))) (eqb-false b 45 (λ z. omega arith))
        ∙ ap (with_sign true) r.4
        ∙ ap (λ (q : Bool). some (record { positive = q; number = l.number })) (sym e)
    go false e =
        ap (λ (w : List ℕ). with_sign false (read_positive w)) r.2
        ∙ ap (with_sign false) r.4
        ∙ ap (λ (q : Bool). some (record { positive = q; number = l.number })) (sym e)

with_sign-some : (b : Bool) (o : Option ℕ) (l : PropLiteral) → with_sign b o ≡ some l → (b ≡ l.positive) × (o ≡ some l.number)
with_sign-some b none l e = absurd (none≢some l e)
with_sign-some b (some n) l e =
    let z : record { positive = b; number = n } ≡ l = some-injective (record { positive = b; number = n }) l e in
    (ap (λ (l : PropLiteral). l.positive) z, ap (λ (l : PropLiteral). some l.number) z)

-- and no other text is
pub only-literal : (w : List ℕ) (l : PropLiteral) → read_literal w ≡ some l → (literal_text l ≡ w) × (1 ≤ l.number)
unfolding read_literal literal_text
only-literal [] l e = absurd (none≢some l e)
only-literal (b ∷ bs) l e = go (eqb b minus) refl e
  where
    go : (q : Bool) → eqb b minus ≡ q → cond q (with_sign false (read_positive bs)) (with_sign true (read_positive (b ∷ bs))) ≡ some l
        → (cond l.positive [] (minus ∷ []) ++ decimal l.number ≡ b ∷ bs) × (1 ≤ l.number)
    go true h e =
        let s = with_sign-some false (read_positive bs) l e in
        let r = only-decimal bs l.number s.1 in (
          ap (λ (q : Bool). cond q [] (minus ∷ []) ++ decimal l.number) (sym s.0) ∙ ap (λ (w : List ℕ). minus ∷ w) r.0
              ∙ ap (λ (c : ℕ). c ∷ bs) (sym (eqb-true b minus h)),
          r.1,
        )
    go false h e =
        let s = with_sign-some true (read_positive (b ∷ bs)) l e in
        let r = only-decimal (b ∷ bs) l.number s.1 in
        (ap (λ (q : Bool). cond q [] (minus ∷ []) ++ decimal l.number) (sym s.0) ∙ r.0, r.1)

-- the bytes of a literal's text are digits and a minus sign
pub literal-bytes : (p : ℕ → Bool) → p 45 ≡ true → ((d : ℕ) → d < 10 → p (48 + d) ≡ true) → (l : PropLiteral) → all p (literal_text l) ≡ true
unfolding literal_text
literal-bytes p m f l = all_append p (cond l.positive [] (minus ∷ [])) (decimal l.number)
    ∙ and-join (all p (cond l.positive [] (minus ∷ []))) (all p (decimal l.number)) (sign l.positive) (by-tenths (λ n. all p (decimal n) ≡ true) small large l.number)
  where
    sign : (q : Bool) → all p (cond q [] (minus ∷ [])) ≡ true
    sign true = refl
    sign false = and-join (p 45) true m refl

    small : (n : ℕ) → n < 10 → all p (decimal n) ≡ true
    small n h = ap (all p) (decimal-small n h) ∙ and-join (p (48 + n)) true (f n h) refl

    large : (n : ℕ) → 10 ≤ n → all p (decimal (n / 10)) ≡ true → all p (decimal n) ≡ true
    large n h ih =
        ap (all p) (decimal-large n h)
        ∙ all_append p (decimal (n / 10)) ((48 + n % 10) ∷ [])
        ∙ and-join (all p (decimal (n / 10))) (p (48 + n % 10) && true) ih (and-join (p (48 + n % 10)) true (f (n % 10) (omega arith)) refl)
