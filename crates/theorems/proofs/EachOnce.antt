-- A list that Renumber takes is each of 1 to the size once, and every such list is taken.
use Prim.Native.Nat.{ℕ, suc, ◌-◌, ◌≤◌, ◌<◌}
use mathlib.Core.Path.{◌≡◌, refl, sym, ap, ◌∙◌}
use mathlib.Core.Bool.{Bool, true, ◌&&◌}
use mathlib.Core.List.{List, [], ◌∷◌}
use native.Mathlib.Omega.{arith}
use lib.Dec.{eqb, ltb}
use lib.ListN.{length, get_or, length-map}
use Rattle.theory.specs.Lists.{all, elem, up_to}
use Rattle.theory.proofs.Tests.{and_left, and-join, eqb-of-≡, ltb-true, ltb-of-<}
use Rattle.theory.proofs.Lists.{all_get_d, up_to-all, get_d_map}
use Rattle.renumbering.specs.Rearrangements.{is_rearrangement, becomes, comes_from}
use Rattle.renumbering.proofs.Places.{elem_at}
use Rattle.renumbering.proofs.Rearrangements.{Rearranged, is_rearrangement→}
use Rattle.renumbered_cases.specs.RenumberedCases.{entries_of, is_listed}
use Rattle.renumbered_cases.proofs.RenumberedCases.{rearranges}
use Rattle.theorems.specs.Renumbers.{EachOnce}

-- every element passes where each place does
all-places : (p : ℕ → Bool) (xs : List ℕ) → ((i : ℕ) → i < length xs → p (get_or xs i 0) ≡ true) → all p xs ≡ true
all-places p [] h = refl
all-places p (x ∷ xs) h = and-join (p x) (all p xs) (h 0 (omega arith)) (all-places p xs (λ i k. h (suc i) (omega (arith, k))))

module _ (s : ℕ) (list : List ℕ) where
  -- the entry at a place
  entry : (i : ℕ) → i < length list → becomes (entries_of list) i ≡ get_or list i 0 - 1
  entry i h = get_d_map (λ b. b - 1) list i h

  positive : is_listed s list ≡ true → (i : ℕ) → i < length list → 1 ≤ get_or list i 0
  unfolding is_listed
  positive h i k = ltb-true 0 (get_or list i 0) (all_get_d (λ b. ltb 0 b) list i (and_left (all (λ b. ltb 0 b) list) (is_rearrangement s (entries_of list)) h) k)

  pub each-once : is_listed s list ≡ true → EachOnce s list
  each-once h =
      let r : Rearranged s (entries_of list) = is_rearrangement→ s (entries_of list) (rearranges s list h) in
      let l : length list ≡ s = sym (length-map list (λ (b : ℕ). b - 1)) ∙ r.sized in
      let at : (i : ℕ) → i < s → (1 ≤ get_or list i 0) × (becomes (entries_of list) i ≡ get_or list i 0 - 1) = λ i k. (positive h i (omega (arith, l, k)), entry i (omega (arith, l, k))) in
      record {
        long = l;
        among = λ i k. let a = at i k in (a.0, omega (arith, a.0, a.1, r.below i k));
        there = λ b one most.
            let e : b - 1 < s = omega (arith, one, most) in
            let i : ℕ = comes_from (entries_of list) (b - 1) in
            let k : i < s = r.from_below (b - 1) e in
            let a = at i k in
            (i, k, omega (arith, a.0, a.1, r.there (b - 1) e, one));
        once = λ i j hi hj q.
            let a = at i hi in
            let b = at j hj in
            let same : becomes (entries_of list) i ≡ becomes (entries_of list) j = a.1 ∙ ap (λ (n : ℕ). n - 1) q ∙ sym b.1 in
            sym (r.back i hi) ∙ ap (comes_from (entries_of list)) same ∙ r.back j hj;
      }

  pub once-listed : EachOnce s list → is_listed s list ≡ true
  unfolding is_listed is_rearrangement
  once-listed o =
      let p : List ℕ = entries_of list in
      let l : length p ≡ s = length-map list (λ (b : ℕ). b - 1) ∙ o.long in
      and-join (all (λ b. ltb 0 b) list) (eqb (length p) s && all (λ d. elem d p) (up_to s))
      (all-places (λ b. ltb 0 b) list (λ i k. ltb-of-< 0 (get_or list i 0) (omega (arith, (o.among i (omega (arith, o.long, k))).0))))
      (and-join (eqb (length p) s) (all (λ d. elem d p) (up_to s)) (eqb-of-≡ (length p) s l)
      (up_to-all (λ d. elem d p) s
      (λ e k.
      let t = o.there (suc e) (omega arith) (omega (arith, k)) in
      let i : t.0 < length list = omega (arith, o.long, t.1) in
      let q : becomes p t.0 ≡ e = entry t.0 i ∙ back e (get_or list t.0 0) t.2 in
      ap (λ (x : ℕ). elem x p) (sym q) ∙ elem_at p t.0 (omega (arith, l, t.1)))))
    where
      back : (e n : ℕ) → n ≡ suc e → n - 1 ≡ e
      back e n h = omega (arith, h)
