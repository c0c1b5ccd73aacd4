-- The constant clauses counted: what they add to I and L, and that they are so many; their numbers are within V.
use Prim.Native.Nat.{ℕ, zero, suc, ◌+◌, ◌-◌, ◌*◌, ◌≤◌, ◌<◌, min}
use mathlib.Core.Path.{◌≡◌, refl, sym, ap, ◌∙◌}
use mathlib.Core.Bool.{Bool, true, false, ◌&&◌}
use mathlib.Core.List.{List, [], ◌∷◌, ◌++◌, map}
use native.Mathlib.Nat.{zero-mul, suc-mul, le_refl, mul-le-mul}
use native.Mathlib.Omega.{arith}
use lib.Dec.{leb}
use lib.ListN.{length, length-append, length-map}
use Rattle.theory.specs.Lists.{all, concat_map, up_from, up_to, sum}
use Rattle.theory.specs.Syntax.{Signature, Clause}
use Rattle.theory.specs.Propositional.{width, PropClause, prop_count, prop_variable}
use Rattle.theory.specs.PropClauses.{Part, function_part, clause_part, function_places, parts, prop_clauses, instance_count, literal_count}
use Rattle.theory.specs.Claims.Counts.{is_numbered}
use Rattle.theory.proofs.Tests.{and_left, and_right, and-join, leb-of-≤}
use Rattle.theory.proofs.Lists.{all_append, all_map, all-imply, up_to-all, concat_map-append, length-up_from, sum-map-append}
use Rattle.theory.proofs.Numbering.{prop_variable-within}
use Rattle.theory.proofs.ClauseCounts.{clauses-within, literals-within}
use Rattle.theory.proofs.Monotone.{sum-grows, prop_count-grows, instance_count-grows, literal_count-grows}
use Rattle.symmetry.specs.ConstantClauses.{constant_places, constant_is, constant_is_not, range_clause, only_after, range_of, constant_part, constant_parts_after, constant_parts, parts_with, prop_clauses_with, instance_count_with, literal_count_with, work_needed_with}
use Rattle.symmetry.specs.Claims.ConstantClauses.{constant_numbers}
use Rattle.symmetry.proofs.Constants.{constant_at, constant_at→, constant_places-are}

abbrev clauses_of : List Part → List PropClause
clauses_of ps = concat_map (λ (p : Part). p.clauses) ps

-- the constants' parts add to what the others have
module _ (s : ℕ) (g : Signature) (cs : List Clause) where
  added : (f : Part → ℕ) → sum (map f (parts_with true s g cs)) ≡ sum (map f (parts s g cs)) + sum (map f (constant_parts s g))
  unfolding parts_with parts
  added f =
      let a : List Part = map (function_part s g) (function_places g) in
      let b : List Part = constant_parts s g in
      let c : List Part = map (clause_part s g) cs in
      omega (arith, sum-map-append f a (b ++ c), sum-map-append f b c, sum-map-append f a c)

  -- a measure of clauses that adds up over lists
  module _ (m : List PropClause → ℕ) (join : (x y : List PropClause) → m (x ++ y) ≡ m x + m y) where
    measured : m (prop_clauses_with true s g cs) ≡ m (prop_clauses s g cs) + m (clauses_of (constant_parts s g))
    unfolding prop_clauses_with parts_with prop_clauses parts
    measured =
        let a : List Part = map (function_part s g) (function_places g) in
        let b : List Part = constant_parts s g in
        let c : List Part = map (clause_part s g) cs in
        let l : m (clauses_of (a ++ (b ++ c))) ≡ m (clauses_of a) + m (clauses_of (b ++ c)) = ap m (concat_map-append (λ (p : Part). p.clauses) a (b ++ c)) ∙ join (clauses_of a) (clauses_of (b ++ c)) in
        let r : m (clauses_of (b ++ c)) ≡ m (clauses_of b) + m (clauses_of c) = ap m (concat_map-append (λ (p : Part). p.clauses) b c) ∙ join (clauses_of b) (clauses_of c) in
        let n : m (clauses_of (a ++ c)) ≡ m (clauses_of a) + m (clauses_of c) = ap m (concat_map-append (λ (p : Part). p.clauses) a c) ∙ join (clauses_of a) (clauses_of c) in
        omega (arith, l, r, n)

abbrev literals : List PropClause → ℕ
literals cs = sum (map length cs)

-- the counts of the constants' parts by the constants' numbers, from the one after the earlier ones on
module _ (s : ℕ) (g : Signature) where
  counted : (f : Part → ℕ) (h : ℕ → ℕ) → ((earlier : List ℕ) (c : ℕ) → f (constant_part s g earlier c) ≡ h (suc (length earlier))) → (cs earlier : List ℕ) (n : ℕ) → suc (length earlier) ≡ n
      → sum (map f (constant_parts_after s g earlier cs)) ≡ sum (map h (up_from n (length cs)))
  counted f h e [] earlier n k = refl
  counted f h e (c ∷ cs) earlier n k =
      omega (arith, e earlier c, ap h k, counted f h e cs (earlier ++ (c ∷ [])) (suc n) (ap suc (length-append earlier (c ∷ [])) ∙ omega arith))

  clause-count : (earlier : List ℕ) (c : ℕ) → (constant_part s g earlier c).clause_count ≡ min (suc (length earlier)) s
  unfolding constant_part
  clause-count earlier c = refl

  literal-count : (earlier : List ℕ) (c : ℕ) → (constant_part s g earlier c).literal_count ≡ min (suc (length earlier)) s + (min (suc (length earlier)) s - 1) * suc (length earlier)
  unfolding constant_part
  literal-count earlier c = refl

  -- what they add to I and L
  pub clauses-added : sum (map (λ (p : Part). p.clause_count) (constant_parts s g)) ≡ sum (map (λ i. min i s) (constant_numbers g))
  unfolding constant_parts
  clauses-added = counted (λ (p : Part). p.clause_count) (λ i. min i s) clause-count (constant_places g) [] 1 refl

  pub literals-added : sum (map (λ (p : Part). p.literal_count) (constant_parts s g)) ≡ sum (map (λ i. min i s + (min i s - 1) * i) (constant_numbers g))
  unfolding constant_parts
  literals-added = counted (λ (p : Part). p.literal_count) (λ i. min i s + (min i s - 1) * i) literal-count (constant_places g) [] 1 refl

  pub clause-counts : (cs : List Clause) → instance_count_with true s g cs ≡ instance_count s g cs + sum (map (λ i. min i s) (constant_numbers g))
  unfolding instance_count_with instance_count
  clause-counts cs = omega (arith, added s g cs (λ (p : Part). p.clause_count), clauses-added)

  pub literal-counts : (cs : List Clause) → literal_count_with true s g cs ≡ literal_count s g cs + sum (map (λ i. min i s + (min i s - 1) * i) (constant_numbers g))
  unfolding literal_count_with literal_count
  literal-counts cs = omega (arith, added s g cs (λ (p : Part). p.literal_count), literals-added)

  -- so many clauses and literals are written
  module _ (pos : zero < s) where
    part-clauses : (earlier : List ℕ) (c : ℕ) → length (constant_part s g earlier c).clauses ≡ (constant_part s g earlier c).clause_count
    unfolding constant_part
    part-clauses earlier c =
        let n : ℕ = range_of s earlier in
        omega (arith, length-map (up_to (n - 1)) (only_after s g earlier c), length-up_from 0 (n - 1))

    after-literals : (earlier : List ℕ) (c : ℕ) (ds : List ℕ) → literals (map (only_after s g earlier c) ds) ≡ length ds * suc (length earlier)
    after-literals earlier c [] = sym (zero-mul (suc (length earlier)))
    after-literals earlier c (d ∷ ds) =
        omega (arith, length-map earlier (λ a. constant_is s g a d), after-literals earlier c ds, suc-mul (length ds) (suc (length earlier)))

    part-literals : (earlier : List ℕ) (c : ℕ) → literals (constant_part s g earlier c).clauses ≡ (constant_part s g earlier c).literal_count
    unfolding constant_part
    part-literals earlier c =
        let n : ℕ = range_of s earlier in
        let k : ℕ = suc (length earlier) in
        omega (
          arith,
          length-map (up_to n) (constant_is s g c),
          length-up_from 0 n,
          after-literals earlier c (up_to (n - 1)),
          ap (λ (m : ℕ). m * k) (length-up_from 0 (n - 1)),
        )

    literals-append : (x y : List PropClause) → literals (x ++ y) ≡ literals x + literals y
    literals-append x y = sum-map-append length x y

    parts-measured : (m : List PropClause → ℕ) → m [] ≡ 0 → ((x y : List PropClause) → m (x ++ y) ≡ m x + m y) → (f : Part → ℕ)
        → ((earlier : List ℕ) (c : ℕ) → m (constant_part s g earlier c).clauses ≡ f (constant_part s g earlier c)) → (cs earlier : List ℕ)
        → m (clauses_of (constant_parts_after s g earlier cs)) ≡ sum (map f (constant_parts_after s g earlier cs))
    parts-measured m z join f e [] earlier = z
    parts-measured m z join f e (c ∷ cs) earlier =
        omega (
          arith,
          join (constant_part s g earlier c).clauses (clauses_of (constant_parts_after s g (earlier ++ (c ∷ [])) cs)),
          e earlier c,
          parts-measured m z join f e cs (earlier ++ (c ∷ [])),
        )

    pub clauses-with : (cs : List Clause) → length (prop_clauses_with true s g cs) ≤ instance_count_with true s g cs
    unfolding instance_count_with instance_count constant_parts
    clauses-with cs =
        omega (
          arith,
          measured s g cs length length-append,
          added s g cs (λ (p : Part). p.clause_count),
          clauses-within s g cs,
          parts-measured length refl length-append (λ (p : Part). p.clause_count) part-clauses (constant_places g) [],
        )

    pub literals-with : (cs : List Clause) → sum (map length (prop_clauses_with true s g cs)) ≤ literal_count_with true s g cs
    unfolding literal_count_with literal_count constant_parts
    literals-with cs =
        omega (
          arith,
          measured s g cs literals literals-append,
          added s g cs (λ (p : Part). p.literal_count),
          literals-within s g cs,
          parts-measured literals refl literals-append (λ (p : Part). p.literal_count) part-literals (constant_places g) [],
        )

  -- their numbers are within V
  abbrev numbered : PropClause → Bool
  numbered = all (is_numbered (prop_count s g))

  variable-numbered : (b : Bool) (c d : ℕ) → constant_at g c ≡ true → d < s → is_numbered (prop_count s g) (record { positive = b; number = prop_variable s g c [] d }) ≡ true
  variable-numbered b c d t lt =
      let k = constant_at→ g c t in
      let n : ℕ = prop_variable s g c [] d in
      and-join (leb 1 n) (leb n (prop_count s g)) (leb-of-≤ 1 n (omega arith))
      (leb-of-≤ n (prop_count s g) (prop_variable-within s g c [] k.below k.arity tt d (omega (arith, ap (width s) k.kind))))

  part-numbered : (earlier : List ℕ) (c : ℕ) → all (constant_at g) earlier ≡ true → constant_at g c ≡ true → all numbered (constant_part s g earlier c).clauses ≡ true
  unfolding constant_part
  part-numbered earlier c ts t =
      let n : ℕ = range_of s earlier in
      let v : ℕ = prop_count s g in
      and-join (numbered (range_clause s g n c)) (all numbered (map (only_after s g earlier c) (up_to (n - 1))))
      (all_map (is_numbered v) (constant_is s g c) (up_to n) ∙ up_to-all (λ d. is_numbered v (constant_is s g c d)) n (λ d lt. variable-numbered true c d t (omega arith)))
      (all_map numbered (only_after s g earlier c) (up_to (n - 1))
      ∙ up_to-all (λ d. numbered (only_after s g earlier c d)) (n - 1) (λ d lt.
      and-join (is_numbered v (constant_is_not s g c (suc d))) (all (is_numbered v) (map (λ a. constant_is s g a d) earlier)) (variable-numbered false c (suc d) t (omega arith))
      (all_map (is_numbered v) (λ a. constant_is s g a d) earlier
      ∙ all-imply (constant_at g) (λ a. is_numbered v (constant_is s g a d)) earlier (λ a k. variable-numbered true a d k (omega arith)) ts)))

  parts-numbered : (cs earlier : List ℕ) → all (constant_at g) earlier ≡ true → all (constant_at g) cs ≡ true → all numbered (clauses_of (constant_parts_after s g earlier cs)) ≡ true
  parts-numbered [] earlier es ts = refl
  parts-numbered (c ∷ cs) earlier es ts =
      let t : constant_at g c ≡ true = and_left (constant_at g c) (all (constant_at g) cs) ts in
      let x : List PropClause = (constant_part s g earlier c).clauses in
      let y : List PropClause = clauses_of (constant_parts_after s g (earlier ++ (c ∷ [])) cs) in
      all_append numbered x y
      ∙ and-join (all numbered x) (all numbered y) (part-numbered earlier c es t)
      (parts-numbered cs (earlier ++ (c ∷ []))
      (all_append (constant_at g) earlier (c ∷ []) ∙ and-join (all (constant_at g) earlier) (constant_at g c && true) es (and-join (constant_at g c) true t refl))
      (and_right (constant_at g c) (all (constant_at g) cs) ts))

  pub numbers-constants : all numbered (clauses_of (constant_parts s g)) ≡ true
  unfolding constant_parts
  numbers-constants = parts-numbered (constant_places g) [] refl (constant_places-are g)

-- a larger size needs no less
pub not-used-clauses : (s : ℕ) (g : Signature) (cs : List Clause) → instance_count_with false s g cs ≡ instance_count s g cs
unfolding instance_count_with instance_count parts_with parts
not-used-clauses s g cs = refl

pub not-used-literals : (s : ℕ) (g : Signature) (cs : List Clause) → literal_count_with false s g cs ≡ literal_count s g cs
unfolding literal_count_with literal_count parts_with parts
not-used-literals s g cs = refl

module _ (s t : ℕ) (g : Signature) (cs : List Clause) (h : s ≤ t) where
  pub instances-grow : (b : Bool) → instance_count_with b s g cs ≤ instance_count_with b t g cs
  instances-grow true =
      omega (arith, clause-counts s g cs, clause-counts t g cs, instance_count-grows s t h g cs, sum-grows (λ i. min i s) (λ i. min i t) (λ i. omega arith) (constant_numbers g))
  instances-grow false = omega (arith, not-used-clauses s g cs, not-used-clauses t g cs, instance_count-grows s t h g cs)

  literals-grow : (b : Bool) → literal_count_with b s g cs ≤ literal_count_with b t g cs
  literals-grow true =
      omega (
        arith,
        literal-counts s g cs,
        literal-counts t g cs,
        literal_count-grows s t h g cs,
        sum-grows (λ i. min i s + (min i s - 1) * i) (λ i. min i t + (min i t - 1) * i) each (constant_numbers g),
      )
    where
      each : (i : ℕ) → min i s + (min i s - 1) * i ≤ min i t + (min i t - 1) * i
      each i = let le : (min i s - 1) * i ≤ (min i t - 1) * i = mul-le-mul (omega arith) (le_refl i) in omega arith
  literals-grow false = omega (arith, not-used-literals s g cs, not-used-literals t g cs, literal_count-grows s t h g cs)

  pub work-grows : (b : Bool) → work_needed_with b s g cs ≤ work_needed_with b t g cs
  unfolding work_needed_with
  work-grows b = omega (arith, instances-grow b, literals-grow b, prop_count-grows s t h g)

-- with the constant clauses no less is needed
module _ (s : ℕ) (g : Signature) (cs : List Clause) where
  pub instances-more : instance_count_with false s g cs ≤ instance_count_with true s g cs
  instances-more = omega (arith, not-used-clauses s g cs, clause-counts s g cs)

  pub work-more : work_needed_with false s g cs ≤ work_needed_with true s g cs
  unfolding work_needed_with
  work-more = omega (arith, instances-more, not-used-literals s g cs, literal-counts s g cs)

-- each constant clause is short: a range has at most s literals, another clause one for each constant up to its own
module _ (s m : ℕ) (g : Signature) (le : s ≤ m) where
  abbrev is_within : PropClause → Bool
  is_within c = leb (length c) m

  part-short : (earlier : List ℕ) (c : ℕ) → suc (length earlier) ≤ m → all is_within (constant_part s g earlier c).clauses ≡ true
  unfolding constant_part
  part-short earlier c h =
      let n : ℕ = range_of s earlier in
      and-join (is_within (range_clause s g n c)) (all is_within (map (only_after s g earlier c) (up_to (n - 1))))
      (leb-of-≤ (length (range_clause s g n c)) m (omega (arith, length-map (up_to n) (constant_is s g c), length-up_from 0 n)))
      (all_map is_within (only_after s g earlier c) (up_to (n - 1))
      ∙ up_to-all (λ d. is_within (only_after s g earlier c d)) (n - 1) (λ d lt.
      leb-of-≤ (length (only_after s g earlier c d)) m (omega (arith, length-map earlier (λ a. constant_is s g a d)))))

  parts-short : (cs earlier : List ℕ) → length earlier + length cs ≤ m → all is_within (clauses_of (constant_parts_after s g earlier cs)) ≡ true
  parts-short [] earlier h = refl
  parts-short (c ∷ cs) earlier h =
      let x : List PropClause = (constant_part s g earlier c).clauses in
      let y : List PropClause = clauses_of (constant_parts_after s g (earlier ++ (c ∷ [])) cs) in
      all_append is_within x y
      ∙ and-join (all is_within x) (all is_within y) (part-short earlier c (omega arith)) (parts-short cs (earlier ++ (c ∷ [])) (omega (arith, length-append earlier (c ∷ []))))

  pub constants-short : length (constant_places g) ≤ m → all is_within (clauses_of (constant_parts s g)) ≡ true
  unfolding constant_parts
  constants-short h = parts-short (constant_places g) [] (omega arith)
