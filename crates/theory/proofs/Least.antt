-- The least model of a size is the first in value order, and the smallest model that of the smallest size: the theorem Least.
use Prim.Native.Nat.{ℕ, suc, ◌-◌, ◌≤◌, ◌<◌}
use mathlib.Core.Path.{◌≡◌, refl, sym, ap, ◌∙◌}
use mathlib.Core.Bool.{Bool, true, false≢true}
use mathlib.Core.Option.{Option, none, some, some-injective}
use mathlib.Core.List.{List, [], ◌∷◌, map}
use native.Mathlib.Omega.{arith}
use lib.Dec.{ltb}
use Rattle.theory.specs.Lists.{elem, up_from, up_to}
use Rattle.theory.specs.Syntax.{Kind}
use Rattle.theory.specs.Cells.{cell_kinds, value_count, in_range, is_interpretation, is_model}
use Rattle.theory.specs.Problem.{Problem}
use Rattle.theory.specs.CaseText.{Case}
use Rattle.theory.specs.Least.{candidates, least_model, with_size, smallest_model}
use Rattle.theory.specs.Claims.Least.{NotAfter, ModelCells, LeastHolds}
use Rattle.theory.proofs.Tests.{both_false, and_left, and_right, and-join, ltb-true, ltb-of-<}
use Rattle.theory.proofs.Lists.{elem-up_from, up_from-elem}
use Rattle.theory.proofs.First.{In, Ordered, none-first_of, first_of-least, first_some, none_first, first-least}

-- the values of cells of these kinds, the least first
abbrev pub values : ℕ → List Kind → List (List ℕ)
values s ks = map (λ k. up_to (value_count s k)) ks

-- a list in range has at each cell one of its values
pub in_range-in : (s : ℕ) (ks : List Kind) (v : List ℕ) → in_range s ks v ≡ true → In v (values s ks)
in_range-in s [] [] h = tt
in_range-in s [] (d ∷ v) h = absurd (false≢true h)
in_range-in s (k ∷ ks) [] h = absurd (false≢true h)
in_range-in s (k ∷ ks) (d ∷ v) h =
    let lt : d < value_count s k = ltb-true d (value_count s k) (and_left (ltb d (value_count s k)) (in_range s ks v) h) in
    (up_from-elem d 0 (value_count s k) (omega arith) (omega arith), in_range-in s ks v (and_right (ltb d (value_count s k)) (in_range s ks v) h))

pub in-in_range : (s : ℕ) (ks : List Kind) (v : List ℕ) → In v (values s ks) → in_range s ks v ≡ true
in-in_range s [] [] m = refl
in-in_range s [] (d ∷ v) m = absurd m
in-in_range s (k ∷ ks) [] m = absurd m
in-in_range s (k ∷ ks) (d ∷ v) m =
    let r = elem-up_from d 0 (value_count s k) m.0 in
    and-join (ltb d (value_count s k)) (in_range s ks v) (ltb-of-< d (value_count s k) (omega (arith, r.1))) (in-in_range s ks v m.1)

pub ordered : (s : ℕ) (ks : List Kind) → Ordered (values s ks)
ordered s [] = tt
ordered s (k ∷ ks) = ((value_count s k, refl), ordered s ks)

pub with_size-some : (s : ℕ) (o : Option (List ℕ)) (k : Case) → with_size s o ≡ some k → (s ≡ k.size) × (o ≡ some k.values)
with_size-some s none k e = let q : ◌≡◌ {A = ℕ} 0 1 = cc in absurd (omega arith)
with_size-some s (some v) k e =
    let q : record { size = s; values = v } ≡ k = some-injective (record { size = s; values = v }) k e in
    (ap (λ (k : Case). k.size) q, ap (λ (k : Case). some k.values) q)

pub with_size-none : (s : ℕ) (o : Option (List ℕ)) → with_size s o ≡ none → o ≡ none
with_size-none s none e = refl
with_size-none s (some v) e = cc

module _ (p : Problem) where
  model_in : (s : ℕ) (u : List ℕ) → ModelCells p s u → In u (candidates s p.symbols)
  unfolding is_interpretation
  model_in s u m = in_range-in s (cell_kinds s p.symbols) u m.interpretation

  in-model : (s : ℕ) (u : List ℕ) → In u (candidates s p.symbols) → is_model s p.symbols p.clauses u ≡ true → ModelCells p s u
  unfolding is_interpretation
  in-model s u i m = record { interpretation = in-in_range s (cell_kinds s p.symbols) u i; model = m }

  least-is : (s : ℕ) (v : List ℕ) → least_model s p ≡ some v → ModelCells p s v × ((u : List ℕ) → ModelCells p s u → NotAfter v u)
  unfolding least_model
  least-is s v e =
      let test : List ℕ → Bool = is_model s p.symbols p.clauses in
      let r = first_some (candidates s p.symbols) test v e in
      (in-model s v r.0 r.1, λ u m. first-least (candidates s p.symbols) test v (ordered s (cell_kinds s p.symbols)) e u (model_in s u m) m.model)

  no-least : (s : ℕ) → least_model s p ≡ none → (u : List ℕ) → ModelCells p s u → ⊥
  unfolding least_model
  no-least s e u m = both_false m.model (none_first (candidates s p.symbols) (is_model s p.symbols p.clauses) e u (model_in s u m))

  abbrev at_size : ℕ → Option Case
  at_size s = with_size s (least_model s p)

  smallest-is : (low high : ℕ) (k : Case) → smallest_model p low high ≡ some k
      → (low ≤ k.size) × (k.size ≤ high) × (least_model k.size p ≡ some k.values) × ((s : ℕ) (u : List ℕ) → low ≤ s → s < k.size → ModelCells p s u → ⊥)
  unfolding smallest_model
  smallest-is low high k e =
      let r = first_of-least at_size low (suc high - low) k e in
      let w = with_size-some r.0 (least_model r.0 p) k r.3 in
      let z : r.0 ≡ k.size = w.0 in (
        omega (arith, r.1),
        omega (arith, r.1, r.2),
        ap (λ (s : ℕ). least_model s p) (sym z) ∙ w.1,
        λ s u lo hi m. no-least s (with_size-none s (least_model s p) (r.4 s lo (omega arith))) u m,
      )

  no-smallest : (low high : ℕ) → smallest_model p low high ≡ none → (s : ℕ) (u : List ℕ) → low ≤ s → s ≤ high → ModelCells p s u → ⊥
  unfolding smallest_model
  no-smallest low high e s u lo hi m =
      let i : elem s (up_from low (suc high - low)) ≡ true = up_from-elem s low (suc high - low) lo (omega arith) in
      no-least s (with_size-none s (least_model s p) (none-first_of at_size (up_from low (suc high - low)) e s i)) u m

  if-no-model : (s : ℕ) → ((u : List ℕ) → ModelCells p s u → ⊥) → least_model s p ≡ none
  if-no-model s h = go (least_model s p) refl
    where
      go : (o : Option (List ℕ)) → least_model s p ≡ o → least_model s p ≡ none
      go none e = e
      go (some v) e = absurd (h v (least-is s v e).0)

  if-no-size : (low high : ℕ) → ((s : ℕ) (u : List ℕ) → low ≤ s → s ≤ high → ModelCells p s u → ⊥) → smallest_model p low high ≡ none
  if-no-size low high h = go (smallest_model p low high) refl
    where
      go : (o : Option Case) → smallest_model p low high ≡ o → smallest_model p low high ≡ none
      go none e = e
      go (some k) e = let m = smallest-is low high k e in absurd (h k.size k.values m.0 m.1 (least-is k.size k.values m.2).0)

-- the theorem
pub least : LeastHolds
least p =
    record {
      is_least = least-is p;
      no_least = λ s. (no-least p s, if-no-model p s);
      smallest = smallest-is p;
      no_smallest = λ low high. (no-smallest p low high, if-no-size p low high);
    }
