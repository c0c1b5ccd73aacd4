-- The lowest unset variable: as the theory has it, by the values, and as the code answers it.
use mathlib.Core.Path.{◌≡◌, refl, sym, ap, ◌∙◌}
use mathlib.Core.Bool.{Bool, true, false, not, false≢true}
use mathlib.Core.Option.{Option, none, some}
use mathlib.Core.List.{List, [], ◌∷◌}
use Prim.Native.Nat.{ℕ, zero, suc, ◌<◌}
use native.Mathlib.Nat.{not-suc-le-zero, le_of_suc-le-suc}
use native.Mathlib.Omega.{arith}
use lib.ListN.{length, get_or, length-map}
use Rattle.theory.specs.Lists.{place_at}
use Rattle.theory.specs.Walk.{is_unset, lowest}
use Rattle.theory.proofs.Finding.{place_that-some}
use Rattle.theory.proofs.Lists.{map_at}
use Rattle.indices.specs.declared.PropVar.{PropVar}
use Rattle.std.specs.Prelude.{Some, None, cond, eqb, ltb}
use Rattle.std.specs.List.{position, position_or_len}
use Rattle.std.proofs.lemmas.List.Sums.{fails_before_first, passes_at_first, prefix_len-le-length}
use Rattle.theory.proofs.Tests.{eqb-true, eqb-of-≡, ltb-true, ltb-false}
use Rattle.search.specs.Search.{partial_value, partial_of, lowest_of, lowest_unset}

pub lowest-at : (zs : List ℕ) (x : ℕ) → x < length zs → get_or zs x 0 ≡ 0 → ((y : ℕ) → y < x → get_or zs y 0 ≡ 0 → ⊥) → lowest (partial_of zs) ≡ some x
lowest-at [] x h e b = absurd (not-suc-le-zero h)
lowest-at (zero ∷ zs) zero h e b = refl
lowest-at (suc z ∷ zs) zero h e b = absurd (omega (arith, e))
lowest-at (zero ∷ zs) (suc x) h e b = absurd (b zero (omega arith) refl)
lowest-at (suc zero ∷ zs) (suc x) h e b = ap (place_at false) (lowest-at zs x (le_of_suc-le-suc h) e (λ y k. b (suc y) (omega arith)))
lowest-at (suc (suc z) ∷ zs) (suc x) h e b = ap (place_at false) (lowest-at zs x (le_of_suc-le-suc h) e (λ y k. b (suc y) (omega arith)))

pub lowest-none : (zs : List ℕ) → ((y : ℕ) → y < length zs → get_or zs y 0 ≡ 0 → ⊥) → lowest (partial_of zs) ≡ none
lowest-none [] b = refl
lowest-none (zero ∷ zs) b = absurd (b zero (omega arith) refl)
lowest-none (suc zero ∷ zs) b = ap (place_at false) (lowest-none zs (λ y k. b (suc y) (omega arith)))
lowest-none (suc (suc z) ∷ zs) b = ap (place_at false) (lowest-none zs (λ y k. b (suc y) (omega arith)))

-- the lowest unset variable is one of those, and has no value
pub lowest-is : (zs : List ℕ) (x : ℕ) → lowest (partial_of zs) ≡ some x → (x < length zs) × (get_or zs x 0 ≡ 0)
lowest-is zs x e =
    let p = place_that-some is_unset (partial_of zs) x (some false) e in
    let h : x < length zs = omega (arith, p.0, length-map zs partial_value) in
    (h, by (get_or zs x 0) (ap is_unset (sym (map_at partial_value zs x 0 (some false) h)) ∙ p.1))
  where
    by : (z : ℕ) → is_unset (partial_value z) ≡ true → z ≡ 0
    by zero k = refl
    by (suc zero) k = absurd (false≢true k)
    by (suc (suc z)) k = absurd (false≢true k)

-- the place of the first number that is 0 is that of the lowest unset variable
module _ (zs : List ℕ) where
  abbrev is_zero : ℕ → Bool
  is_zero z = eqb z 0

  abbrev place : ℕ
  place = position_or_len is_zero zs

  before : (x : ℕ) → x ≡ place → (y : ℕ) → y < x → get_or zs y 0 ≡ 0 → ⊥
  before x e y h k = false≢true (sym (fails_before_first is_zero zs y 0 (omega (arith, e, h))) ∙ eqb-of-≡ (get_or zs y 0) 0 k)

  pub first-unset : (x : ℕ) → position (λ z. eqb z 0) zs ≡ Some x → lowest_unset zs ≡ Some (record { 0 = x })
  first-unset x e = go (ltb place (length zs)) refl e
    where
      go : (b : Bool) → ltb place (length zs) ≡ b → cond b (Some place) None ≡ Some x → lowest_unset zs ≡ Some (record { 0 = x })
      go false k e = let z : ◌≡◌ {A = ℕ} 0 1 = cc in absurd (omega arith)
      go true k e =
          let same : x ≡ place = cc in
          let h : place < length zs = ltb-true place (length zs) k in
          let zero_there : get_or zs x 0 ≡ 0 = ap (λ (i : ℕ). get_or zs i 0) same ∙ eqb-true (get_or zs place 0) 0 (passes_at_first is_zero zs 0 h) in
          ap lowest_of (lowest-at zs x (omega (arith, h, same)) zero_there (before x same))

  pub none-unset : position (λ z. eqb z 0) zs ≡ None → lowest_unset zs ≡ None
  none-unset e = go (ltb place (length zs)) refl e
    where
      go : (b : Bool) → ltb place (length zs) ≡ b → cond b (Some place) None ≡ None → lowest_unset zs ≡ None
      go true k e = let z : ◌≡◌ {A = ℕ} 0 1 = cc in absurd (omega arith)
      go false k e =
          ap lowest_of (lowest-none zs (λ y h. before place refl y (omega (arith, h, ltb-false place (length zs) k, prefix_len-le-length (λ z. not (is_zero z)) zs))))

-- what the code's answer says
pub all_set : (o : Option ℕ) → lowest_of o ≡ None → o ≡ none
all_set none e = refl
all_set (some x) e = let z : ◌≡◌ {A = ℕ} 0 1 = cc in absurd (omega arith)

pub variable-is : (o : Option ℕ) (y : PropVar) → lowest_of o ≡ Some y → o ≡ some y.0
variable-is none y e = let z : ◌≡◌ {A = ℕ} 0 1 = cc in absurd (omega arith)
variable-is (some x) y e =
    let same : ◌≡◌ {A = PropVar} (record { 0 = x }) y = cc in
    ap (λ (z : PropVar). some z.0) same
