-- The partial valuation that a trail gives, and the truth of literals under it.
use mathlib.Core.Path.{◌≡◌, refl, sym, ap, ◌∙◌}
use mathlib.Core.Bool.{Bool, true, false, cond}
use mathlib.Core.Option.{none, some}
use mathlib.Core.List.{List, [], ◌∷◌, map}
use Prim.Native.Nat.{ℕ, zero, suc, ◌+◌, ◌-◌, ◌/◌, ◌%◌, ◌≤◌, ◌<◌}
use native.Mathlib.Omega.{arith}
use lib.Dec.{eqb, leb}
use lib.ListN.{get_or, set, replicate}
use Rattle.theory.specs.Lists.{elem}
use Rattle.theory.specs.Propositional.{PropLiteral}
use Rattle.theory.specs.Claims.Counts.{is_numbered}
use Rattle.theory.specs.Walk.{Partial, lookup, is_unset, is_set_to, literal_is_true, literal_is_unset, bytes_of}
use Rattle.theory.specs.Valuation.{setting_of}
use Rattle.theory.proofs.Tests.{eqb-true, eqb-false, eqb-of-≡, iff→≡, and_left, and_right, leb-true}
use Rattle.theory.proofs.Lists.{map_at}
use Rattle.theory.proofs.Propagation.{with_literal}
use Rattle.propagation.specs.Clauses.{code}
use Rattle.propagation.specs.WorkArea.{values, Fresh, falses}
use Rattle.propagation.proofs.Trails.{values_length}
use Rattle.propagation.proofs.Truths.{false-value, value-false, value-small}
use Rattle.search.specs.Search.{partial_value, partial_of}

-- the partial valuation that a trail gives
abbrev pub partial : ℕ → List ℕ → Partial
partial v ts = partial_of (values v ts)

-- the literal of a code
abbrev pub literal_of : ℕ → PropLiteral
literal_of u = record { positive = eqb (u % 2) 0; number = suc (u / 2) }

map-set : {A B : Type 0} (f : A → B) (l : List A) (i : ℕ) (y : A) → map f (set l i y) ≡ set (map f l) i (f y)
map-set f [] i y = refl
map-set f (x ∷ xs) zero y = refl
map-set f (x ∷ xs) (suc i) y = ap (λ l. f x ∷ l) (map-set f xs i y)

value-sign : (u : ℕ) → partial_value (1 + u % 2) ≡ some (eqb (u % 2) 0)
value-sign u = by (u % 2) (omega arith)
  where
    by : (r : ℕ) → r < 2 → partial_value (1 + r) ≡ some (eqb r 0)
    by zero h = refl
    by (suc zero) h = refl
    by (suc (suc r)) h = absurd (omega arith)

-- one entry more makes its literal true
pub partial-push : (v t : ℕ) (ts : List ℕ) → partial v (t ∷ ts) ≡ with_literal (partial v ts) (literal_of (t / 2))
partial-push v t ts =
    map-set partial_value (values v ts) (t / 2 / 2) (1 + t / 2 % 2) ∙ ap (set (partial v ts) (t / 2 / 2)) (value-sign (t / 2))

pub partial-none : (v : ℕ) → partial v [] ≡ replicate v none
partial-none zero = refl
partial-none (suc v) = ap (λ (π : Partial). none ∷ π) (partial-none v)

-- the bytes of the values
pub partial-bytes : (zs : List ℕ) → bytes_of (partial_of zs) ≡ setting_of zs
partial-bytes [] = refl
partial-bytes (z ∷ zs) = by z (partial-bytes zs)
  where
    by : (z : ℕ) → bytes_of (partial_of zs) ≡ setting_of zs → bytes_of (partial_of (z ∷ zs)) ≡ setting_of (z ∷ zs)
    by zero e = ap (λ (l : List ℕ). 0 ∷ l) e
    by (suc zero) e = ap (λ (l : List ℕ). 1 ∷ l) e
    by (suc (suc z)) e =
        ap (λ (b : Bool). cond b 1 0 ∷ bytes_of (partial_of zs)) (sym (eqb-false (suc (suc z)) 1 (λ e. omega (arith, e)))) ∙ ap (λ (l : List ℕ). cond (eqb (suc (suc z)) 1) 1 0 ∷ l) e

pub sign-≤ : (b : Bool) → cond b 0 1 ≤ 1
sign-≤ true = omega arith
sign-≤ false = omega arith

module _ (v : ℕ) (l : PropLiteral) (numbered : is_numbered v l ≡ true) where
  low : 1 ≤ l.number
  low = leb-true 1 l.number (and_left (leb 1 l.number) (leb l.number v) numbered)

  high : l.number ≤ v
  high = leb-true l.number v (and_right (leb 1 l.number) (leb l.number v) numbered)

  pub code-half : suc (code l / 2) ≡ l.number
  code-half = omega (arith, low, sign-≤ l.positive)

  pub code-sign : code l % 2 ≡ cond l.positive 0 1
  code-sign = omega (arith, sign-≤ l.positive)

  pub code-variable : code l / 2 < v
  code-variable = omega (arith, code-half, high)

  -- the literal of its code is the literal
  pub literal-code : literal_of (code l) ≡ l
  literal-code =
      ap (λ (b : Bool). record { positive = b; number = suc (code l / 2) }) (ap (λ (r : ℕ). eqb r 0) code-sign ∙ sign l.positive)
      ∙ ap (λ (n : ℕ). record { positive = l.positive; number = n }) code-half
    where
      sign : (b : Bool) → eqb (cond b 0 1) 0 ≡ b
      sign true = refl
      sign false = refl

  module _ (ts : List ℕ) (fresh : Fresh v ts) where
    -- the value of the literal's variable
    abbrev pub value : ℕ
    value = get_or (values v ts) (code l / 2) 0

    found : lookup (partial v ts) l.number ≡ partial_value value
    found =
        ap (lookup (partial v ts)) (sym code-half)
        ∙ map_at partial_value (values v ts) (code l / 2) 0 (some false) (omega (arith, values_length v ts, code-variable))

    -- the literal is unset, true or false by that value
    pub unset-value : literal_is_unset (partial v ts) l ≡ eqb value 0
    unset-value = ap is_unset found ∙ by value
      where
        by : (z : ℕ) → is_unset (partial_value z) ≡ eqb z 0
        by zero = refl
        by (suc zero) = refl
        by (suc (suc z)) = sym (eqb-false (suc (suc z)) 0 (λ e. omega (arith, e)))

    pub true-value : literal_is_true (partial v ts) l ≡ eqb value (1 + code l % 2)
    true-value = ap (is_set_to l.positive) found ∙ by value l.positive (value-small v ts (code l / 2) fresh) ∙ ap (λ (r : ℕ). eqb value (1 + r)) (sym code-sign)
      where
        by : (z : ℕ) (b : Bool) → z ≤ 2 → is_set_to b (partial_value z) ≡ eqb z (1 + cond b 0 1)
        by zero true h = refl
        by zero false h = refl
        by (suc zero) true h = refl
        by (suc zero) false h = refl
        by (suc (suc zero)) true h = refl
        by (suc (suc zero)) false h = refl
        by (suc (suc (suc z))) b h = absurd (omega arith)

    pub elem-value : elem (code l) (falses ts) ≡ eqb value (2 - code l % 2)
    elem-value =
        iff→≡ (elem (code l) (falses ts)) (eqb value (2 - code l % 2))
        (λ e. eqb-of-≡ value (2 - code l % 2) (false-value v (code l) ts fresh e))
        (λ e. value-false v (code l) ts fresh (eqb-true value (2 - code l % 2) e))
