-- The unset variables of a partial valuation: how many there are, and the lowest.
use Prim.Native.Nat.{ℕ, zero, suc, pred}
use mathlib.Core.Path.{◌≡◌, refl, ap, ◌∙◌}
use mathlib.Core.Bool.{Bool, true, false, false≢true}
use mathlib.Core.Option.{Option, none, some}
use mathlib.Core.List.{[], ◌∷◌}
use native.Mathlib.Omega.{arith}
use lib.ListN.{get_or, set, replicate}
use Rattle.theory.specs.Lists.{place_at}
use Rattle.theory.specs.Propositional.{PropLiteral}
use Rattle.theory.specs.Walk.{Partial, lookup, is_unset, literal_is_unset, lowest}
use Rattle.theory.proofs.Finding.{place_that-some}
use Rattle.theory.proofs.Propagation.{with_literal}

-- the number of unset variables
abbrev pub unset_count : Partial → ℕ
unset_count [] = 0
unset_count (none ∷ π) = suc (unset_count π)
unset_count (some b ∷ π) = unset_count π

pub unset_count-replicate : (n : ℕ) → unset_count (replicate n none) ≡ n
unset_count-replicate zero = refl
unset_count-replicate (suc n) = ap suc (unset_count-replicate n)

-- setting an unset variable leaves one less
pub unset_count-set : (π : Partial) (i : ℕ) (b : Bool) → get_or π i (some false) ≡ none → suc (unset_count (set π i (some b))) ≡ unset_count π
unset_count-set [] i b e = let q : ◌≡◌ {A = ℕ} 0 1 = cc in absurd (omega arith)
unset_count-set (none ∷ π) zero b e = refl
unset_count-set (some v ∷ π) zero b e = let q : ◌≡◌ {A = ℕ} 0 1 = cc in absurd (omega arith)
unset_count-set (none ∷ π) (suc i) b e = ap suc (unset_count-set π i b e)
unset_count-set (some v ∷ π) (suc i) b e = unset_count-set π i b e

is_unset-none : (o : Option Bool) → is_unset o ≡ true → o ≡ none
is_unset-none none e = refl
is_unset-none (some b) e = absurd (false≢true e)

-- an unset literal is that of an unset place
pub literal-place : (π : Partial) (l : PropLiteral) → literal_is_unset π l ≡ true → (i : ℕ) × (l.number ≡ suc i) × (get_or π i (some false) ≡ none)
literal-place π l u = go l.number refl u
  where
    go : (n : ℕ) → l.number ≡ n → is_unset (lookup π n) ≡ true → (i : ℕ) × (l.number ≡ suc i) × (get_or π i (some false) ≡ none)
    go zero h k = absurd (false≢true k)
    go (suc i) h k = (i, h, is_unset-none (get_or π i (some false)) k)

pub unset_count-with_literal : (π : Partial) (l : PropLiteral) → literal_is_unset π l ≡ true → suc (unset_count (with_literal π l)) ≡ unset_count π
unset_count-with_literal π l u =
    let r = literal-place π l u in
    ap (λ (n : ℕ). suc (unset_count (set π (pred n) (some l.positive)))) r.1 ∙ unset_count-set π r.0 l.positive r.2

-- the lowest unset variable is unset
pub lowest-unset : (π : Partial) (i : ℕ) → lowest π ≡ some i → get_or π i (some false) ≡ none
lowest-unset π i e = is_unset-none (get_or π i (some false)) (place_that-some is_unset π i (some false) e).1

-- if there is none, every variable is set
lowest-none : (π : Partial) → lowest π ≡ none → (i : ℕ) → is_unset (get_or π i (some false)) ≡ false
lowest-none [] e i = refl
lowest-none (none ∷ π) e i = let q : ◌≡◌ {A = ℕ} 0 1 = cc in absurd (omega arith)
lowest-none (some b ∷ π) e zero = refl
lowest-none (some b ∷ π) e (suc i) = lowest-none π (lowest-tail b π e) i
  where
    lowest-tail : (b : Bool) (π : Partial) → lowest (some b ∷ π) ≡ none → lowest π ≡ none
    lowest-tail b π e = go (lowest π) e
      where
        go : (o : Option ℕ) → place_at false o ≡ none → o ≡ none
        go none h = refl
        go (some j) h = let q : ◌≡◌ {A = ℕ} 0 1 = cc in absurd (omega arith)

pub all_set : (π : Partial) → lowest π ≡ none → (l : PropLiteral) → literal_is_unset π l ≡ false
all_set π e l = go l.number
  where
    go : (n : ℕ) → is_unset (lookup π n) ≡ false
    go zero = refl
    go (suc i) = lowest-none π e i
