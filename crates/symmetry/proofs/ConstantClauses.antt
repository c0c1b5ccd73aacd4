-- The constant clauses: a valuation satisfies them exactly if the constants' values in the interpretation read back obey; the theorem ConstantClauses.
use Prim.Native.Nat.{ℕ, zero, suc, ◌-◌, ◌≤◌, ◌<◌, max}
use mathlib.Core.Path.{◌≡◌, refl, sym, ap, ◌∙◌, subst}
use mathlib.Core.Logic.{◌⊎◌, inl, inr}
use mathlib.Core.Bool.{Bool, true, false, not, ◌&&◌, ◌||◌, and_comm, false≢true}
use mathlib.Core.Option
use mathlib.Core.List.{List, [], ◌∷◌, ◌++◌, map, map-append}
use native.Mathlib.Omega.{arith}
use lib.Dec.{eqb, ltb, leb}
use lib.ListN.{length, get_or, length-append}
use Rattle.theory.specs.Lists.{any, all, concat_map, up_to, elem}
use Rattle.theory.specs.Syntax.{Kind, Signature, Clause, clause_ok}
use Rattle.theory.specs.Flattening.{flatten}
use Rattle.theory.specs.Cells.{cell, cell_kinds, value_count, is_model}
use Rattle.theory.specs.Propositional.{PropClause, prop_count, prop_variable}
use Rattle.theory.specs.Instances.{instances}
use Rattle.theory.specs.PropClauses.{Part, function_part, clause_part, function_places, parts, prop_clauses}
use Rattle.theory.specs.Valuation.{says, satisfies_literal, satisfies_clause, satisfies, is_valuation, is_functional, read_back}
use Rattle.theory.specs.Problem.{Problem}
use Rattle.theory.specs.Least.{first_list}
use Rattle.theory.specs.Walk.{Walked, walked, yes_first, searched}
use Rattle.theory.specs.Claims.Walk.{read_back_found}
use Rattle.theory.specs.Claims.Counts.{is_numbered}
use Rattle.theory.proofs.Tests.{iff→≡, true-or-false, both_false, and_left, and_right, and-join, or_cases, or_left, or_right, eqb-true, eqb-of-≡, eqb-sym, ltb-true, ltb-of-<, leb-true, leb-of-≤, beq-true, beq-not, false_of_not, ltb-false, ltb-of-≤}
use Rattle.theory.proofs.Lists.{all_append, all_map, all-concat_map, all-up_to, up_to-all, any-map, any-up_from, up_from-any, elem-append, concat_map-append, concat_map-map}
use Rattle.theory.proofs.Numbering.{length-cell_kinds, cell_below, kind-at-cell, prop_variable-offset}
use Rattle.theory.proofs.Valuations.{says-result, functional, read_back-is_interpretation}
use Rattle.theory.proofs.Parts.{tables, all-prop_clauses}
use Rattle.theory.proofs.CellClauses.{tables-satisfied}
use Rattle.theory.proofs.Walking.{walked-first}
use Rattle.theory.proofs.Walk.{read_back_found-map, walk-order, tried-is-valuation, walk}
use Rattle.theory.proofs.Chunks.{chunks-first}
use Rattle.theory.proofs.Encoding.{encoding}
use Rattle.theory.proofs.ClauseCounts.{numbers-within}
use Rattle.symmetry.specs.ConstantClauses.{constant_places, constant_is, range_clause, only_after, range_of, constant_part, constant_parts_after, constant_parts, parts_with, prop_clauses_with}
use Rattle.symmetry.specs.Obeying.{stepwise, obeys, least_obeying, least_with, searched_with}
use Rattle.symmetry.specs.Claims.ConstantClauses as claims
use Rattle.renumbering.proofs.Renumbering.{value_in}
use Rattle.symmetry.proofs.ConstantCounts.{clause-counts, literal-counts, clauses-with, literals-with, numbers-constants, instances-grow, work-grows}
use Rattle.symmetry.proofs.Constants.{constant_at, constant_at→, constant_places-are}

-- a valuation in which each function cell has one result
module _ (s : ℕ) (g : Signature) (σ : List ℕ) (h : is_valuation s g σ ≡ true) (v : is_functional s g σ ≡ true) where
  -- the constant's value in the interpretation read back
  abbrev result : ℕ → ℕ
  result c = get_or (read_back s g σ) (cell s g c []) 0

  result-below : (c : ℕ) → constant_at g c ≡ true → result c < s
  result-below c t =
      let d = constant_at→ g c t in
      subst (λ (k : Kind). result c < value_count s k) d.kind (value_in s g (read_back s g σ) (read_back-is_interpretation s g σ h v) c [] d.below d.arity tt)

  says-constant : (c d : ℕ) → constant_at g c ≡ true → d < s → says σ (prop_variable s g c [] d) ≡ eqb (result c) d
  unfolding read_back
  says-constant c d t lt =
      let k = constant_at→ g c t in
      let ks : List Kind = cell_kinds s g in
      ap (says σ) (prop_variable-offset s g c [] k.below k.arity tt d)
      ∙ says-result s ks σ (functional s g σ h v) (cell s g c []) (omega (arith, length-cell_kinds s g, cell_below s g c [] k.below k.arity tt))
      (kind-at-cell s g c [] k.below k.arity tt ∙ k.kind) d lt

  -- the range clause
  range-true : (n c : ℕ) → n ≤ s → constant_at g c ≡ true → satisfies_clause σ (range_clause s g n c) ≡ ltb (result c) n
  range-true n c le t =
      let q : ℕ → Bool = λ d. satisfies_literal σ (constant_is s g c d) in
      any-map (satisfies_literal σ) (constant_is s g c) (up_to n)
      ∙ iff→≡ (any q (up_to n)) (ltb (result c) n)
      (λ k. let r = any-up_from q 0 n k in
      let z : result c ≡ r.0 = eqb-true (result c) r.0 (sym (says-constant c r.0 t (omega (arith, r.2))) ∙ sym (beq-true (says σ (prop_variable s g c [] r.0))) ∙ r.3) in
      ltb-of-< (result c) n (omega (arith, r.2)))
      (λ k. let l : result c < n = ltb-true (result c) n k in
      up_from-any q 0 n (result c) (omega arith) (omega arith)
      (beq-true (says σ (prop_variable s g c [] (result c))) ∙ says-constant c (result c) t (result-below c t) ∙ eqb-of-≡ (result c) (result c) refl))

  -- some earlier constant has the result d
  earlier-true : (d : ℕ) (earlier : List ℕ) → d < s → all (constant_at g) earlier ≡ true → any (satisfies_literal σ) (map (λ a. constant_is s g a d) earlier) ≡ elem d (map result earlier)
  earlier-true d [] lt t = refl
  earlier-true d (a ∷ earlier) lt t =
      ap (λ (b : Bool). b || any (satisfies_literal σ) (map (λ a. constant_is s g a d) earlier))
      (beq-true (says σ (prop_variable s g a [] d)) ∙ says-constant a d (and_left (constant_at g a) (all (constant_at g) earlier) t) lt ∙ eqb-sym (result a) d)
      ∙ ap (λ (b : Bool). eqb d (result a) || b) (earlier-true d earlier lt (and_right (constant_at g a) (all (constant_at g) earlier) t))

  after-true : (earlier : List ℕ) (c d : ℕ) → suc d < s → all (constant_at g) earlier ≡ true → constant_at g c ≡ true
      → satisfies_clause σ (only_after s g earlier c d) ≡ (not (eqb (result c) (suc d)) || elem d (map result earlier))
  after-true earlier c d lt ts t =
      ap (λ (b : Bool). b || any (satisfies_literal σ) (map (λ a. constant_is s g a d) earlier))
      (beq-not (says σ (prop_variable s g c [] (suc d))) ∙ ap not (says-constant c (suc d) t lt))
      ∙ ap (λ (b : Bool). not (eqb (result c) (suc d)) || b) (earlier-true d earlier (omega arith) ts)

  -- the earlier constants have the values 0 to m - 1, all of them
  record Filled (earlier : List ℕ) (m : ℕ) : Type 0 where
    constants : all (constant_at g) earlier ≡ true
    values : (d : ℕ) → elem d (map result earlier) ≡ ltb d m
    at_most : m ≤ length earlier

  module _ (earlier : List ℕ) (m c : ℕ) (f : Filled earlier m) (t : constant_at g c ≡ true) where
    abbrev n : ℕ
    n = range_of s earlier

    abbrev after : ℕ → Bool
    after d = satisfies_clause σ (only_after s g earlier c d)

    part→ : all (satisfies_clause σ) (constant_part s g earlier c).clauses ≡ true → result c ≤ m
    unfolding constant_part
    part→ k =
        let rest : Bool = all (satisfies_clause σ) (map (only_after s g earlier c) (up_to (n - 1))) in
        let first : Bool = satisfies_clause σ (range_clause s g n c) in
        let l : result c < n = ltb-true (result c) n (sym (range-true n c (omega arith) t) ∙ and_left first rest k) in
        go (result c) refl l (all-up_to after (n - 1) (sym (all_map (satisfies_clause σ) (only_after s g earlier c) (up_to (n - 1))) ∙ and_right first rest k))
      where
        was : (d : ℕ) → result c ≡ suc d → (not (eqb (result c) (suc d)) ≡ true) ⊎ (elem d (map result earlier) ≡ true) → d < m
        was d e (inl b) = absurd (both_false (eqb-of-≡ (result c) (suc d) e) (false_of_not (eqb (result c) (suc d)) b))
        was d e (inr b) = ltb-true d m (sym (f.values d) ∙ b)

        go : (r : ℕ) → result c ≡ r → r < range_of s earlier → ((d : ℕ) → d < range_of s earlier - 1 → after d ≡ true) → r ≤ m
        go zero e l a = omega arith
        go (suc d) e l a =
            was d e (or_cases (not (eqb (result c) (suc d))) (elem d (map result earlier)) (sym (after-true earlier c d (omega arith) f.constants t) ∙ a d (omega arith)))

    part← : result c ≤ m → all (satisfies_clause σ) (constant_part s g earlier c).clauses ≡ true
    unfolding constant_part
    part← le =
        let rest : List PropClause = map (only_after s g earlier c) (up_to (n - 1)) in
        and-join (satisfies_clause σ (range_clause s g n c)) (all (satisfies_clause σ) rest)
        (range-true n c (omega arith) t ∙ ltb-of-< (result c) n (omega (arith, result-below c t, f.at_most)))
        (all_map (satisfies_clause σ) (only_after s g earlier c) (up_to (n - 1))
        ∙ up_to-all after (n - 1) (λ d lt. after-true earlier c d (omega arith) f.constants t ∙ go d (true-or-false (eqb (result c) (suc d)))))
      where
        go : (d : ℕ) → (eqb (result c) (suc d) ≡ true) ⊎ (eqb (result c) (suc d) ≡ false) → (not (eqb (result c) (suc d)) || elem d (map result earlier)) ≡ true
        go d (inl b) =
            let e : result c ≡ suc d = eqb-true (result c) (suc d) b in
            or_right (not (eqb (result c) (suc d))) (elem d (map result earlier)) (f.values d ∙ ltb-of-< d m (omega arith))
        go d (inr b) = or_left (not (eqb (result c) (suc d))) (elem d (map result earlier)) (ap not b)

    part-true : all (satisfies_clause σ) (constant_part s g earlier c).clauses ≡ leb (result c) m
    part-true = iff→≡ (all (satisfies_clause σ) (constant_part s g earlier c).clauses) (leb (result c) m) (λ k. leb-of-≤ (result c) m (part→ k)) (λ k. part← (leb-true (result c) m k))

    filled_more : result c ≤ m → Filled (earlier ++ (c ∷ [])) (max m (suc (result c)))
    filled_more le =
        record {
          constants = all_append (constant_at g) earlier (c ∷ []) ∙ and-join (all (constant_at g) earlier) (constant_at g c && true) f.constants (and-join (constant_at g c) true t refl);
          values = λ d.
              ap (elem d) (map-append result earlier (c ∷ []))
              ∙ elem-append d (map result earlier) (result c ∷ [])
              ∙ ap (λ (b : Bool). b || (eqb d (result c) || false)) (f.values d)
              ∙ iff→≡ (ltb d m || (eqb d (result c) || false)) (ltb d (max m (suc (result c))))
              (λ k. here d (or_cases (ltb d m) (eqb d (result c) || false) k))
              (λ k. there d (ltb-true d (max m (suc (result c))) k) (true-or-false (ltb d m)));
          at_most = omega (arith, f.at_most, length-append earlier (c ∷ []));
        }
      where
        same : (d : ℕ) → (eqb d (result c) ≡ true) ⊎ (false ≡ true) → d ≡ result c
        same d (inl b) = eqb-true d (result c) b
        same d (inr b) = absurd (false≢true b)

        here : (d : ℕ) → (ltb d m ≡ true) ⊎ ((eqb d (result c) || false) ≡ true) → ltb d (max m (suc (result c))) ≡ true
        here d (inl b) = ltb-of-< d (max m (suc (result c))) (omega (arith, ltb-true d m b))
        here d (inr b) = let e : d ≡ result c = same d (or_cases (eqb d (result c)) false b) in ltb-of-< d (max m (suc (result c))) (omega arith)

        there : (d : ℕ) → d < max m (suc (result c)) → (ltb d m ≡ true) ⊎ (ltb d m ≡ false) → (ltb d m || (eqb d (result c) || false)) ≡ true
        there d lt (inl b) = or_left (ltb d m) (eqb d (result c) || false) b
        there d lt (inr b) =
            let e : d ≡ result c = omega (arith, ltb-false d m b) in
            or_right (ltb d m) (eqb d (result c) || false) (or_left (eqb d (result c)) false (eqb-of-≡ d (result c) e))

  -- the parts of the further constants
  abbrev satisfied : List Part → Bool
  satisfied ps = all (satisfies_clause σ) (concat_map (λ (p : Part). p.clauses) ps)

  parts-true : (cs earlier : List ℕ) (m : ℕ) → Filled earlier m → all (constant_at g) cs ≡ true → satisfied (constant_parts_after s g earlier cs) ≡ stepwise m (map result cs)
  parts-true [] earlier m f ts = refl
  parts-true (c ∷ cs) earlier m f ts =
      let t : constant_at g c ≡ true = and_left (constant_at g c) (all (constant_at g) cs) ts in
      all_append (satisfies_clause σ) (constant_part s g earlier c).clauses (concat_map (λ (p : Part). p.clauses) (constant_parts_after s g (earlier ++ (c ∷ [])) cs))
      ∙ ap (λ (b : Bool). b && satisfied (constant_parts_after s g (earlier ++ (c ∷ [])) cs)) (part-true earlier m c f t)
      ∙ go (leb (result c) m) refl
      (λ k. parts-true cs (earlier ++ (c ∷ [])) (max m (suc (result c))) (filled_more earlier m c f t (leb-true (result c) m k)) (and_right (constant_at g c) (all (constant_at g) cs) ts))
    where
      go : (b : Bool) → leb (result c) m ≡ b → (leb (result c) m ≡ true → satisfied (constant_parts_after s g (earlier ++ (c ∷ [])) cs) ≡ stepwise (max m (suc (result c))) (map result cs))
          → (b && satisfied (constant_parts_after s g (earlier ++ (c ∷ [])) cs)) ≡ (b && stepwise (max m (suc (result c))) (map result cs))
      go true e ih = ih e
      go false e ih = refl

  pub constants-satisfied : satisfied (constant_parts s g) ≡ obeys s g (read_back s g σ)
  unfolding constant_parts obeys
  constants-satisfied = parts-true (constant_places g) [] 0 (record { constants = refl; values = λ d. sym (nothing d); at_most = omega arith }) (constant_places-are g)
    where
      nothing : (d : ℕ) → ltb d 0 ≡ false
      nothing d = ltb-of-≤ d 0 (omega arith)

not-used : (s : ℕ) (g : Signature) (cs : List Clause) → prop_clauses_with false s g cs ≡ prop_clauses s g cs
unfolding prop_clauses_with parts_with prop_clauses parts
not-used s g cs = refl

module _ (s : ℕ) (g : Signature) (cs : List Clause) where
  -- a test on all clauses with the constants'
  pub all-with : (q : PropClause → Bool) → all q (prop_clauses_with true s g cs)
      ≡ (all q (tables s g) && (all q (concat_map (λ (p : Part). p.clauses) (constant_parts s g)) && all (λ c. all q (instances s g (flatten c))) cs))
  unfolding prop_clauses_with parts_with clause_part
  all-with q =
      let clauses : Part → List PropClause = λ p. p.clauses in
      let rest : List Part = map (clause_part s g) cs in
      ap (all q) (concat_map-append clauses (map (function_part s g) (function_places g)) (constant_parts s g ++ rest))
      ∙ all_append q (tables s g) (concat_map clauses (constant_parts s g ++ rest))
      ∙ ap (λ (b : Bool). all q (tables s g) && b)
      (ap (all q) (concat_map-append clauses (constant_parts s g) rest)
      ∙ all_append q (concat_map clauses (constant_parts s g)) (concat_map clauses rest)
      ∙ ap (λ (b : Bool). all q (concat_map clauses (constant_parts s g)) && b) (ap (all q) (concat_map-map clauses (clause_part s g) cs) ∙ all-concat_map q (λ c. instances s g (flatten c)) cs))

  used : zero < s → all (clause_ok g) cs ≡ true → (σ : List ℕ) → is_valuation s g σ ≡ true
      → satisfies σ (prop_clauses_with true s g cs) ≡ (is_functional s g σ && (is_model s g cs (read_back s g σ) && obeys s g (read_back s g σ)))
  unfolding satisfies
  used pos ok σ h =
      all-with (satisfies_clause σ) ∙ ap (λ (b : Bool). b && (C && I)) (tables-satisfied s g σ h) ∙ go (is_functional s g σ) refl plain
    where
      C : Bool
      C = all (satisfies_clause σ) (concat_map (λ (p : Part). p.clauses) (constant_parts s g))

      I : Bool
      I = all (λ c. all (satisfies_clause σ) (instances s g (flatten c))) cs

      plain : (is_functional s g σ && I) ≡ (is_functional s g σ && is_model s g cs (read_back s g σ))
      plain = ap (λ (b : Bool). b && I) (sym (tables-satisfied s g σ h)) ∙ sym (all-prop_clauses s g (satisfies_clause σ) cs) ∙ (encoding s g cs pos ok).satisfying σ h

      go : (b : Bool) → is_functional s g σ ≡ b → (b && I) ≡ (b && is_model s g cs (read_back s g σ)) → (b && (C && I)) ≡ (b && (is_model s g cs (read_back s g σ) && obeys s g (read_back s g σ)))
      go true v e = ap (λ (b : Bool). b && I) (constants-satisfied s g σ h v) ∙ ap (λ (b : Bool). obeys s g (read_back s g σ) && b) e ∙ and_comm (obeys s g (read_back s g σ)) (is_model s g cs (read_back s g σ))
      go false v e = refl

  -- every number is within V
  numbers-with : zero < s → all (clause_ok g) cs ≡ true → all (all (is_numbered (prop_count s g))) (prop_clauses_with true s g cs) ≡ true
  numbers-with pos ok =
      let q : PropClause → Bool = all (is_numbered (prop_count s g)) in
      let A : Bool = all q (tables s g) in
      let C : Bool = all q (concat_map (λ (p : Part). p.clauses) (constant_parts s g)) in
      let I : Bool = all (λ c. all q (instances s g (flatten c))) cs in
      let plain : (A && I) ≡ true = sym (all-prop_clauses s g q cs) ∙ numbers-within s g cs pos ok in
      all-with q ∙ and-join A (C && I) (and_left A I plain) (and-join C I (numbers-constants s g) (and_right A I plain))

-- the walk over the clauses with the constants'
walk-used : (s : ℕ) (p : Problem) → zero < s → all (clause_ok p.symbols) p.clauses ≡ true → read_back_found s p (searched_with true s p).answer ≡ least_obeying s p
unfolding searched_with least_obeying read_back is_functional
walk-used s p pos ok =
    let g : Signature = p.symbols in
    let cs = prop_clauses_with true s g p.clauses in
    read_back_found-map s p (searched_with true s p).answer
    ∙ ap (Option.map (read_back s g)) (walked-first cs (yes_first s g) (prop_count s g) ∙ ap (λ (dss : List (List ℕ)). first_list dss (λ σ. satisfies σ cs)) (walk-order s g))
    ∙ chunks-first s (cell_kinds s g) (λ σ. satisfies σ cs) (λ vs. is_model s g p.clauses vs && obeys s g vs)
    (λ σ m. used s g p.clauses pos ok σ (tried-is-valuation s g σ m))

walk-not-used : (s : ℕ) (p : Problem) → searched_with false s p ≡ searched s p
unfolding searched_with searched
walk-not-used s p = ap (λ (cs : List PropClause). walked (prop_count s p.symbols) cs (yes_first s p.symbols)) (not-used s p.symbols p.clauses)

walk-least : (b : Bool) (s : ℕ) (p : Problem) → zero < s → all (clause_ok p.symbols) p.clauses ≡ true → read_back_found s p (searched_with b s p).answer ≡ least_with b s p
walk-least true s p pos ok = walk-used s p pos ok
walk-least false s p pos ok = ap (λ (w : Walked). read_back_found s p w.answer) (walk-not-used s p) ∙ walk.least s p pos ok

-- the theorem
pub constant_clauses : claims.ConstantClauses
constant_clauses =
    record {
      not_used = not-used;
      used = used;
      clause_counts = clause-counts;
      literal_counts = literal-counts;
      clauses = λ s g cs pos. clauses-with s g pos cs;
      literals = λ s g cs pos. literals-with s g pos cs;
      numbers = numbers-with;
      walk = walk-least;
      instances_grow = λ b s t g cs h. instances-grow s t g cs h b;
      work_grows = λ b s t g cs h. work-grows s t g cs h b;
    }
