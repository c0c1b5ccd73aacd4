-- Cell clauses: a valuation satisfies the clauses of the function cells exactly if each function cell has one result.
use Prim.Native.Nat.{ℕ, suc, ◌+◌, ◌*◌, ◌-◌, ◌<◌}
use mathlib.Core.Path.{◌≡◌, refl, sym, ap, ◌∙◌}
use mathlib.Core.Logic.{◌⊎◌, inl, inr}
use mathlib.Core.Bool.{Bool, true, false, ◌||◌, beq, false≢true}
use mathlib.Core.List.{List, map}
use native.Mathlib.Omega.{arith}
use lib.Dec.{eqb}
use lib.ListN.{length, get_or}
use Rattle.theory.specs.Lists.{any, all, up_from, up_to}
use Rattle.theory.specs.Syntax.{Kind, function, predicate, Signature, symbol_at}
use Rattle.theory.specs.Cells.{table_size, cell_base, cell_kinds}
use Rattle.theory.specs.Propositional.{PropClause, width, prop_base}
use Rattle.theory.specs.PropClauses.{some_result, not_both, not_two, cell_clauses}
use Rattle.theory.specs.Valuation.{says, satisfies_literal, satisfies_clause, satisfies, is_valuation, has_value, all_have_values, is_functional}
use Rattle.theory.proofs.Tests.{iff→≡, eqb-true, eqb_same, eqb-of-≡, and_left, and_right, and-join, lt-or-eq-or-gt, beq-true}
use Rattle.theory.proofs.Lists.{any-map, any-cong, any-up_from, up_from-any, all_map, all-concat_map, all-up_from, up_from-all, all-up_to, up_to-all}
use Rattle.theory.proofs.Parts.{tables, tables→, tables←}
use Rattle.theory.proofs.Numbering.{offset, length-cell_kinds, cell-found, kind-at-row, offset-at-row, row_within}
use Rattle.theory.proofs.OneHot.{One, has_value→One, One→has_value}
use Rattle.theory.proofs.Valuations.{chunk, length-chunk, chunk-are_bits, says-chunk, each-has-value, all-have-values, is_valuation→}

-- not d or not e, for each e > d
abbrev pub pairs : ℕ → ℕ → ℕ → List PropClause
pairs s n d = map (λ e. not_both n d e) (up_from (suc d) (s - suc d))

-- the s variables from n on
module _ (s : ℕ) (σ : List ℕ) (n : ℕ) where
  -- the valuation says yes to result d
  abbrev yes-to : ℕ → Bool
  yes-to d = says σ (n + d)

  -- no two results
  abbrev NotTwo : Type 0
  NotTwo = (d e : ℕ) → d < e → e < s → yes-to d ≡ true → yes-to e ≡ true → ⊥

  some_result-is : satisfies_clause σ (some_result s n) ≡ any yes-to (up_to s)
  some_result-is =
      any-map (satisfies_literal σ) (λ d. record { positive = true; number = n + d }) (up_to s)
      ∙ any-cong (λ d. beq true (yes-to d)) yes-to (up_to s) (λ d. beq-true (yes-to d))

  not-both→ : (a b : Bool) → (beq false a || (beq false b || false)) ≡ true → a ≡ true → b ≡ true → ⊥
  not-both→ true true h p q = false≢true h
  not-both→ true false h p q = false≢true q
  not-both→ false b h p q = false≢true p

  not-both← : (a b : Bool) → (a ≡ true → b ≡ true → ⊥) → (beq false a || (beq false b || false)) ≡ true
  not-both← true true h = absurd (h refl refl)
  not-both← true false h = refl
  not-both← false b h = refl

  not-two→ : all (satisfies_clause σ) (not_two s n) ≡ true → NotTwo
  not-two→ h d e lt hi =
      let row : all (satisfies_clause σ) (pairs s n d) ≡ true =
      all-up_to (λ d. all (satisfies_clause σ) (pairs s n d)) s (sym (all-concat_map (satisfies_clause σ) (pairs s n) (up_to s)) ∙ h) d (omega arith) in
      let pair : satisfies_clause σ (not_both n d e) ≡ true =
      all-up_from (λ e. satisfies_clause σ (not_both n d e)) (suc d) (s - suc d)
      (sym (all_map (satisfies_clause σ) (λ e. not_both n d e) (up_from (suc d) (s - suc d))) ∙ row) e (omega arith) (omega arith) in
      not-both→ (yes-to d) (yes-to e) pair

  not-two← : NotTwo → all (satisfies_clause σ) (not_two s n) ≡ true
  not-two← h =
      all-concat_map (satisfies_clause σ) (pairs s n) (up_to s)
      ∙ up_to-all (λ d. all (satisfies_clause σ) (pairs s n d)) s
      (λ d hd. all_map (satisfies_clause σ) (λ e. not_both n d e) (up_from (suc d) (s - suc d))
      ∙ up_from-all (λ e. satisfies_clause σ (not_both n d e)) (suc d) (s - suc d)
      (λ e lo hi. not-both← (yes-to d) (yes-to e) (h d e (omega arith) (omega arith))))

  -- the cell clauses are satisfied exactly if the valuation says yes to one result
  satisfied→One : all (satisfies_clause σ) (cell_clauses s n) ≡ true → One s yes-to
  satisfied→One h =
      let some : Bool = satisfies_clause σ (some_result s n) in
      let two : Bool = all (satisfies_clause σ) (not_two s n) in
      let r = any-up_from yes-to 0 s (sym some_result-is ∙ and_left some two h) in
      let lt : r.0 < s = omega (arith, r.2) in
      record {
        at = r.0;
        below = lt;
        only = λ d hd.
            iff→≡ (yes-to d) (eqb r.0 d) (λ t. same r.0 d (not-two→ (and_right some two h)) lt hd r.3 t) (λ t. ap yes-to (sym (eqb-true r.0 d t)) ∙ r.3);
      }
    where
      same : (a d : ℕ) → NotTwo → a < s → d < s → yes-to a ≡ true → yes-to d ≡ true → eqb a d ≡ true
      same a d two ha hd p t = go (lt-or-eq-or-gt a d)
        where
          go : (a < d) ⊎ ((a ≡ d) ⊎ (d < a)) → eqb a d ≡ true
          go (inl k) = absurd (two a d k hd p t)
          go (inr (inl k)) = eqb-of-≡ a d k
          go (inr (inr k)) = absurd (two d a k ha t p)

  One→satisfied : One s yes-to → all (satisfies_clause σ) (cell_clauses s n) ≡ true
  One→satisfied o =
      and-join (satisfies_clause σ (some_result s n)) (all (satisfies_clause σ) (not_two s n))
      (some_result-is ∙ up_from-any yes-to 0 s o.at (omega arith) (omega (arith, o.below)) (o.only o.at o.below ∙ eqb_same o.at))
      (not-two← (λ d e lt hi p t. twice d e lt (sym (o.only d (omega arith)) ∙ p) (sym (o.only e hi) ∙ t)))
    where
      twice : (d e : ℕ) → d < e → eqb o.at d ≡ true → eqb o.at e ≡ true → ⊥
      twice d e lt p t = let a : o.at ≡ d = eqb-true o.at d p in let b : o.at ≡ e = eqb-true o.at e t in omega arith

One-cong : (n m : ℕ) (p q : ℕ → Bool) → n ≡ m → ((d : ℕ) → d < n → p d ≡ q d) → One n p → One m q
One-cong n m p q e h o = record { at = o.at; below = omega (arith, o.below); only = λ d lt. sym (h d (omega arith)) ∙ o.only d (omega arith) }

module _ (s : ℕ) (g : Signature) (σ : List ℕ) (h : is_valuation s g σ ≡ true) where
  abbrev ks : List Kind
  ks = cell_kinds s g

  -- row r of the table of the function at place i
  module _ (i r : ℕ) (hi : i < length g) (hr : r < table_size s (symbol_at g i)) (e : (symbol_at g i).kind ≡ function) where
    abbrev c : ℕ
    c = cell_base s g i + r

    within : c < length ks
    within = omega (arith, length-cell_kinds s g, row_within s g i r hi hr)

    kind : get_or ks c predicate ≡ function
    kind = kind-at-row s g i r hi hr ∙ e

    sized : length (chunk s ks c σ) ≡ s
    sized = length-chunk s ks c σ (is_valuation→ s g σ h).0 within ∙ ap (width s) kind

    -- the variables of the row are the bytes of its cell
    variables : (d : ℕ) → d < s → says σ (1 + (prop_base s g i + r * s) + d) ≡ eqb (get_or (chunk s ks c σ) d 0) 1
    variables d lt =
        let o : offset s ks c ≡ prop_base s g i + r * s = offset-at-row s g i r hi hr ∙ ap (λ (k : Kind). prop_base s g i + r * width s k) e in
        let v : 1 + (prop_base s g i + r * s) + d ≡ 1 + (offset s ks c + d) = omega arith in
        ap (says σ) v ∙ says-chunk s ks c d σ (omega (arith, ap (width s) kind))

    row-satisfied : all (satisfies_clause σ) (cell_clauses s (1 + (prop_base s g i + r * s))) ≡ has_value (get_or ks c predicate) (chunk s ks c σ)
    row-satisfied =
        let n : ℕ = 1 + (prop_base s g i + r * s) in
        let bs : List ℕ = chunk s ks c σ in
        let byte : ℕ → Bool = λ d. eqb (get_or bs d 0) 1 in
        let bits = chunk-are_bits s ks c σ (is_valuation→ s g σ h).1 in
        iff→≡ (all (satisfies_clause σ) (cell_clauses s n)) (has_value function bs)
        (λ t. One→has_value bs bits (One-cong s (length bs) (yes-to s σ n) byte (sym sized) variables (satisfied→One s σ n t)))
        (λ t. One→satisfied s σ n (One-cong (length bs) s byte (yes-to s σ n) sized (λ d lt. sym (variables d (omega (arith, sized)))) (has_value→One bs bits t)))
        ∙ ap (λ (k : Kind). has_value k bs) (sym kind)

  -- cell c has a value
  abbrev valued : ℕ → Bool
  valued c = has_value (get_or ks c predicate) (chunk s ks c σ)

  tables→valued : all (satisfies_clause σ) (tables s g) ≡ true → (c : ℕ) → c < length ks → valued c ≡ true
  tables→valued t c lt =
      let f = cell-found s g c (omega (arith, length-cell_kinds s g)) in
      go f.0 f.1 f.2 f.3 f.4 (symbol_at g f.0).kind refl
    where
      go : (i r : ℕ) → i < length g → r < table_size s (symbol_at g i) → c ≡ cell_base s g i + r → (k : Kind) → (symbol_at g i).kind ≡ k → valued c ≡ true
      go i r hi hr at function e = ap valued at ∙ sym (row-satisfied i r hi hr e) ∙ tables→ s g (satisfies_clause σ) t i r hi e hr
      go i r hi hr at predicate e =
          ap (λ (k : Kind). has_value k (chunk s ks c σ)) (ap (λ (n : ℕ). get_or ks n predicate) at ∙ kind-at-row s g i r hi hr ∙ e)

  -- all function cells
  pub tables-satisfied : satisfies σ (tables s g) ≡ is_functional s g σ
  unfolding satisfies is_functional
  tables-satisfied =
      iff→≡ (all (satisfies_clause σ) (tables s g)) (all_have_values s ks σ) (λ t. all-have-values s ks σ (tables→valued t))
      (λ t. tables← s g (satisfies_clause σ) (λ i r hi e hr.
      row-satisfied i r hi hr e ∙ each-has-value s ks σ t (cell_base s g i + r) (within i r hi hr e)))
