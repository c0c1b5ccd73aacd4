-- Allowance: the search over the sizes with an allowance.
use Prim.Native.Nat.{ℕ, zero, suc, ◌+◌, ◌-◌, ◌≤◌, ◌<◌}
use mathlib.Core.Path.{◌≡◌, refl, sym, ap, ◌∙◌}
use mathlib.Core.Logic.{◌⊎◌, inl, inr}
use mathlib.Core.Bool.{Bool, true}
use mathlib.Core.Option.{Option, none, some}
use mathlib.Core.List.{List, [], ◌∷◌}
use native.Mathlib.Omega.{arith}
use Rattle.theory.specs.Lists.{all, up_from}
use Rattle.theory.specs.Syntax.{clause_ok}
use Rattle.theory.specs.Problem.{Problem}
use Rattle.theory.specs.CaseText.{Case}
use Rattle.theory.specs.Least.{or_else, first_of, with_size}
use Rattle.theory.specs.Claims.Walk.{read_back_found}
use Rattle.theory.proofs.Tests.{lt-or-eq-or-gt}
use Rattle.symmetry.specs.Obeying.{least_with, smallest_with, searched_with}
use Rattle.symmetry.proofs.ConstantClauses.{constant_clauses}
use Rattle.allowance.specs.AllowedWalk.{WalkEnd, ended, searched_within}
use Rattle.allowance.specs.AllowedSearch.{sizes, Counted, counted_size, counted_sizes, counted_search, Allowed, answered, stopped_at, before, size_within, sizes_within, search_within}
use Rattle.allowance.specs.Claims.Allowance.{choices_from, UsedUp, AllowanceHolds}
use Rattle.allowance.proofs.AllowedWalk.{cut-enough, cut-stopped, at-most-or-more, searched-within}

module _ (used : Bool) (p : Problem) where
  -- the search without an allowance finds the first least model
  plain-first : (ok : all (clause_ok p.symbols) p.clauses ≡ true) (low n : ℕ) → zero < low
      → (counted_sizes used p (up_from low n)).case ≡ first_of (λ s. with_size s (least_with used s p)) (up_from low n)
  plain-first ok low zero pos = refl
  plain-first ok low (suc n) pos =
      go (searched_with used low p).answer (constant_clauses.walk used low p pos ok) ∙ ap (or_else (with_size low (least_with used low p))) (plain-first ok (suc low) n (omega arith))
    where
      others : Counted
      others = counted_sizes used p (up_from (suc low) n)

      go : (o : Option (List ℕ)) → read_back_found low p o ≡ least_with used low p
          → (counted_size low p o (searched_with used low p).choices others).case ≡ or_else (with_size low (least_with used low p)) others.case
      go none e = ap (λ (o : Option (List ℕ)). or_else (with_size low o) others.case) e
      go (some σ) e = ap (λ (o : Option (List ℕ)). or_else (with_size low o) others.case) e

  -- at one size: enough choices are left, or not
  pub size-enough : (s left : ℕ) (others : ℕ → Allowed) → (searched_with used s p).choices ≤ left
      → size_within s p left (searched_within used s p left) others ≡ size_within s p left (ended (searched_with used s p).answer (searched_with used s p).choices) others
  size-enough s left others h = ap (λ (e : WalkEnd). size_within s p left e others) (searched-within used s p left ∙ cut-enough left (searched_with used s p) h)

  pub size-stopped : (s left : ℕ) (others : ℕ → Allowed) → left < (searched_with used s p).choices → size_within s p left (searched_within used s p left) others ≡ stopped_at s
  size-stopped s left others h = ap (λ (e : WalkEnd). size_within s p left e others) (searched-within used s p left ∙ cut-stopped left (searched_with used s p) h)

  -- over sizes
  sizes-enough : (ss : List ℕ) (left : ℕ) → (counted_sizes used p ss).choices ≤ left → sizes_within used p ss left ≡ answered (counted_sizes used p ss).case (counted_sizes used p ss).choices
  sizes-enough [] left h = refl
  sizes-enough (s ∷ ss) left h = go (searched_with used s p).answer refl h (λ l k. sizes-enough ss l k)
    where
      n : ℕ
      n = (searched_with used s p).choices

      others : Counted
      others = counted_sizes used p ss

      go : (o : Option (List ℕ)) → (searched_with used s p).answer ≡ o → (counted_size s p o n others).choices ≤ left
          → ((l : ℕ) → others.choices ≤ l → sizes_within used p ss l ≡ answered others.case others.choices)
          → size_within s p left (searched_within used s p left) (sizes_within used p ss) ≡ answered (counted_size s p o n others).case (counted_size s p o n others).choices
      go (some σ) e k ih = size-enough s left (sizes_within used p ss) k ∙ ap (λ (o : Option (List ℕ)). size_within s p left (ended o n) (sizes_within used p ss)) e
      go none e k ih =
          size-enough s left (sizes_within used p ss) (omega arith) ∙ ap (λ (o : Option (List ℕ)). size_within s p left (ended o n) (sizes_within used p ss)) e
          ∙ ap (before n) (ih (left - n) (omega arith))

  -- where the search over m sizes from low on is stopped
  record Stops (low m left s : ℕ) : Type 0 where
    within : sizes_within used p (up_from low m) left ≡ stopped_at s
    from : low ≤ s
    to : s < low + m
    nothing : (t : ℕ) → low ≤ t → t < s → (searched_with used t p).answer ≡ none
    allowed : choices_from used p low (s - low) ≤ left
    needed : left < choices_from used p low (suc s - low)

  sizes-stopped : (low m left : ℕ) → left < (counted_sizes used p (up_from low m)).choices → (s : ℕ) × Stops low m left s
  sizes-stopped low zero left h = absurd (omega arith)
  sizes-stopped low (suc m) left h = go (searched_with used low p).answer refl h (λ l k. sizes-stopped (suc low) m l k) (at-most-or-more (searched_with used low p).choices left)
    where
      n : ℕ
      n = (searched_with used low p).choices

      others : Counted
      others = counted_sizes used p (up_from (suc low) m)

      here : left < n → (s : ℕ) × Stops low (suc m) left s
      here more =
          let zero-sizes : low - low ≡ 0 = omega arith in
          let one_size : suc low - low ≡ 1 = omega arith in
          let e₀ : choices_from used p low (low - low) ≡ 0 = ap (choices_from used p low) zero-sizes in
          let e₁ : choices_from used p low (suc low - low) ≡ n + 0 = ap (choices_from used p low) one_size in (
            low,
            record {
              within = size-stopped low left (sizes_within used p (up_from (suc low) m)) more;
              from = omega arith;
              to = omega arith;
              nothing = λ t lo hi. absurd (omega arith);
              allowed = omega (arith, e₀);
              needed = omega (arith, e₁);
            },
          )

      go : (o : Option (List ℕ)) → (searched_with used low p).answer ≡ o → left < (counted_size low p o n others).choices
          → ((l : ℕ) → l < others.choices → (s : ℕ) × Stops (suc low) m l s) → (n ≤ left) ⊎ (left < n) → (s : ℕ) × Stops low (suc m) left s
      go o e k ih (inr more) = here more
      go (some σ) e k ih (inl enough) = absurd (omega arith)
      go none e k ih (inl enough) =
          let r = ih (left - n) (omega arith) in
          let s : ℕ = r.0 in
          let lo : suc low ≤ s = r.1.from in
          let f₀ : s - low ≡ suc (s - suc low) = omega arith in
          let f₁ : suc s - low ≡ suc (suc s - suc low) = omega arith in
          let e₀ : choices_from used p low (s - low) ≡ n + choices_from used p (suc low) (s - suc low) = ap (choices_from used p low) f₀ in
          let e₁ : choices_from used p low (suc s - low) ≡ n + choices_from used p (suc low) (suc s - suc low) = ap (choices_from used p low) f₁ in
          let a₀ : choices_from used p (suc low) (s - suc low) ≤ left - n = r.1.allowed in
          let a₁ : left - n < choices_from used p (suc low) (suc s - suc low) = r.1.needed in (
            s,
            record {
              within = size-enough low left (sizes_within used p (up_from (suc low) m)) enough
                  ∙ ap (λ (o : Option (List ℕ)). size_within low p left (ended o n) (sizes_within used p (up_from (suc low) m))) e
                  ∙ ap (before n) r.1.within;
              from = omega arith;
              to = omega (arith, r.1.to);
              nothing = λ t lo hi. earlier t (lt-or-eq-or-gt low t) lo hi r.1.nothing;
              allowed = omega (arith, e₀, a₀);
              needed = omega (arith, e₁, a₁);
            },
          )
        where
          earlier : {s : ℕ} (t : ℕ) → (low < t) ⊎ ((low ≡ t) ⊎ (t < low)) → low ≤ t → t < s → ((t : ℕ) → suc low ≤ t → t < s → (searched_with used t p).answer ≡ none) → (searched_with used t p).answer ≡ none
          earlier t (inl z) lo hi h = h t z hi
          earlier t (inr (inl z)) lo hi h = ap (λ (t : ℕ). (searched_with used t p).answer) (sym z) ∙ e
          earlier t (inr (inr z)) lo hi h = absurd (omega arith)

module _ (used : Bool) (p : Problem) (low high : ℕ) where
  abbrev n : ℕ
  n = (counted_search used p low high).choices

  plain : zero < low → all (clause_ok p.symbols) p.clauses ≡ true → (counted_search used p low high).case ≡ smallest_with used p low high
  unfolding counted_search smallest_with
  plain pos ok = plain-first used p ok low (suc high - low) pos

  enough : (a : ℕ) → n ≤ a → search_within used p low high a ≡ answered (counted_search used p low high).case n
  unfolding counted_search search_within
  enough a h = sizes-enough used p (sizes low high) a h

  too_few : (a : ℕ) → a < n → (s : ℕ) × (search_within used p low high a ≡ stopped_at s) × UsedUp used p low high a s
  unfolding counted_search search_within
  too_few a h =
      let r = sizes-stopped used p low (suc high - low) a h in
      let t : Stops used p low (suc high - low) a r.0 = r.1 in (
        r.0,
        t.within,
        record {
          from = t.from;
          to = let hi : r.0 < low + (suc high - low) = t.to in let lo : low ≤ r.0 = t.from in omega arith;
          before = t.nothing;
          allowed = t.allowed;
          needed = t.needed;
        },
      )

  answered-inj : (o q : Option Case) (m k : ℕ) → answered o m ≡ answered q k → (o ≡ q) × (m ≡ k)
  answered-inj o q m k e = (cc, cc)

  stopped≢answered : (s : ℕ) (o : Option Case) (m : ℕ) → stopped_at s ≡ answered o m → ⊥
  stopped≢answered s o m e = let z : ◌≡◌ {A = ℕ} 0 1 = cc in omega arith

  only : (a : ℕ) (o : Option Case) (m : ℕ) → search_within used p low high a ≡ answered o m → (o ≡ (counted_search used p low high).case) × (m ≡ n) × (m ≤ a)
  only a o m e = go (at-most-or-more n a)
    where
      go : (n ≤ a) ⊎ (a < n) → (o ≡ (counted_search used p low high).case) × (m ≡ n) × (m ≤ a)
      go (inl h) =
          let r = answered-inj o (counted_search used p low high).case m n (sym e ∙ enough a h) in
          let z : m ≡ n = r.1 in
          (r.0, z, omega arith)
      go (inr h) = let r = too_few a h in absurd (stopped≢answered r.0 o m (sym r.1 ∙ e))

  larger : (a b : ℕ) (o : Option Case) (m : ℕ) → a ≤ b → search_within used p low high a ≡ answered o m → search_within used p low high b ≡ answered o m
  larger a b o m h e =
      let r = only a o m e in
      let z : m ≡ n = r.1 in
      let le : m ≤ a = r.2 in
      enough b (omega arith) ∙ ap (λ (o : Option Case). answered o n) (sym r.0) ∙ ap (answered o) (sym z)

-- the theorem
pub allowance : AllowanceHolds
allowance used p low high = record { plain = plain used p low high; enough = enough used p low high; too_few = too_few used p low high; only = only used p low high; larger = larger used p low high }
