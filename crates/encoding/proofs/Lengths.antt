-- No written clause has more than 26 literals, and so clauses of few variables have short texts.
use Prim.Native.Nat.{ℕ, zero, suc, ◌+◌, ◌-◌, ◌*◌, ◌/◌, ◌%◌, ◌≤◌}
use mathlib.Core.Path.{◌≡◌, refl, ◌∙◌}
use mathlib.Core.Bool.{Bool, true, false, cond, beq}
use mathlib.Core.Option.{Option, none, some}
use mathlib.Core.List.{List, [], ◌∷◌, ◌++◌}
use native.Mathlib.Omega.{arith}
use lib.Dec.{leb, ltb}
use lib.ListN.{length, length-append, length-map}
use Rattle.theory.specs.Lists.{all, concat_map, up_from, up_to}
use Rattle.theory.specs.Vectors.{vectors}
use Rattle.theory.specs.Bytes.{digits, decimal, space}
use Rattle.theory.specs.Syntax.{Signature, Clause}
use Rattle.theory.specs.Flattening.{FlatVariable, FlatLiteral, FlatClause, flatten, variable_count}
use Rattle.theory.specs.Propositional.{PropLiteral, PropClause, prop_base}
use Rattle.theory.specs.Instances.{flat_value, Ground, known, variable, ground, add_literal, instance, kept, instances}
use Rattle.theory.specs.PropClauses.{some_result, not_both, not_two, cell_clauses, prop_clauses}
use Rattle.theory.specs.Dimacs.{minus, literal_text, clause_text}
use Rattle.theory.specs.Claims.Counts.{is_numbered}
use Rattle.theory.proofs.Tests.{and_left, and_right, and-join, leb-true, leb-of-≤}
use Rattle.theory.proofs.Lists.{all_map, all-concat_map, all-every, length-up_from}
use Rattle.theory.proofs.Parts.{tables, tables←, all-prop_clauses}
use Rattle.theory.proofs.CellClauses.{pairs}
use Rattle.propagation.specs.Clauses.{code}
use Rattle.loading.specs.Filling.{literals}
use Rattle.stream.specs.Literals.{all_codes}
use Rattle.stream.specs.Consuming.{texts}
use Rattle.valuations.specs.Numbers.{max_prop_vars}

-- at most 26 literals
abbrev pub is_short : PropClause → Bool
is_short c = leb (length c) 26

-- the clauses of a cell
cell-short : (s n : ℕ) → s ≤ 8 → all is_short (cell_clauses s n) ≡ true
cell-short s n h =
    let long : length (some_result s n) ≡ s = length-map (up_to s) (λ d. record { positive = true; number = n + d }) ∙ length-up_from 0 s in
    and-join (is_short (some_result s n)) (all is_short (not_two s n))
    (leb-of-≤ (length (some_result s n)) 26 (omega arith))
    (all-concat_map is_short (pairs s n) (up_to s)
    ∙ all-every (λ d. all is_short (pairs s n d)) (up_to s) (λ d.
    all_map is_short (λ e. not_both n d e) (up_from (suc d) (s - suc d))
    ∙ all-every (λ e. is_short (not_both n d e)) (up_from (suc d) (s - suc d)) (λ e. refl)))

-- an instance has no more literals than the flattened clause
abbrev length_or : Option PropClause → ℕ
length_or none = 0
length_or (some c) = length c

instance-length : (s : ℕ) (g : Signature) (ν : FlatVariable → ℕ) (ls : List FlatLiteral) → length_or (instance s g ν ls) ≤ length ls
instance-length s g ν [] = omega arith
instance-length s g ν (l ∷ ls) = go (ground s g ν l.atom) (instance s g ν ls) (instance-length s g ν ls)
  where
    go : (a : Ground) (o : Option PropClause) → length_or o ≤ length ls → length_or (add_literal l.sign a o) ≤ suc (length ls)
    go (known b) o h = dropped (beq l.sign b)
      where
        dropped : (q : Bool) → length_or (cond q none o) ≤ suc (length ls)
        dropped true = omega arith
        dropped false = omega arith
    go (variable n) none h = omega arith
    go (variable n) (some c) h = omega arith

kept-short : (o : Option PropClause) → length_or o ≤ 26 → all is_short (kept o) ≡ true
kept-short none h = refl
kept-short (some c) h = and-join (is_short c) true (leb-of-≤ (length c) 26 h) refl

pub instances-short : (s : ℕ) (g : Signature) (c : FlatClause) → length c.literals ≤ 26 → all is_short (instances s g c) ≡ true
unfolding instances
instances-short s g c h =
    let one : List ℕ → List PropClause = λ v. kept (instance s g (flat_value c.owns v) c.literals) in
    all-concat_map is_short one (vectors s (variable_count c))
    ∙ all-every (λ v. all is_short (one v)) (vectors s (variable_count c)) (λ v.
    kept-short (instance s g (flat_value c.owns v) c.literals) (omega (arith, instance-length s g (flat_value c.owns v) c.literals)))

-- all written clauses
pub all_short : (s : ℕ) (g : Signature) (cs : List Clause) → s ≤ 8 → all (λ c. all is_short (instances s g (flatten c))) cs ≡ true → all is_short (prop_clauses s g cs) ≡ true
all_short s g cs h e =
    all-prop_clauses s g is_short cs
    ∙ and-join (all is_short (tables s g)) (all (λ c. all is_short (instances s g (flatten c))) cs)
    (tables← s g is_short (λ i r _ _ _. cell-short s (1 + (prop_base s g i + r * s)) h)) e

-- short clauses have few literals
pub short-literals : (cs : List PropClause) → all is_short cs ≡ true → literals (all_codes cs) ≤ 26 * length cs
short-literals [] h = omega arith
short-literals (c ∷ cs) h =
    omega (
      arith,
      length-map c code,
      leb-true (length c) 26 (and_left (is_short c) (all is_short cs) h),
      short-literals cs (and_right (is_short c) (all is_short cs) h),
    )

-- a number has no more digits than it may have
digits-length : (k n : ℕ) → length (digits k n) ≤ k
digits-length zero n = omega arith
digits-length (suc k) n = go (ltb n 10) (digits-length k (n / 10))
  where
    go : (b : Bool) → length (digits k (n / 10)) ≤ k → length {A = ℕ} (elim b as (λ _. List ℕ) [ true ↦ (48 + n) ∷ [] | false ↦ digits k (n / 10) ++ ((48 + n % 10) ∷ []) ]) ≤ suc k
    go true h = omega arith
    go false h = omega (arith, length-append (digits k (n / 10)) ((48 + n % 10) ∷ []))

decimal-length : (n : ℕ) → length (decimal n) ≤ suc n
unfolding decimal
decimal-length n = digits-length (suc n) n

-- The texts of clauses of few variables.
module _ (v : ℕ) (h : v ≤ max_prop_vars) where
  literal-length : (l : PropLiteral) → is_numbered v l ≡ true → length (literal_text l ++ (space ∷ [])) ≤ 229379
  unfolding literal_text
  literal-length l e =
      omega (
        arith,
        leb-true l.number v (and_right (leb 1 l.number) (leb l.number v) e),
        decimal-length l.number,
        length-append (cond l.positive [] (minus ∷ []) ++ decimal l.number) (space ∷ []),
        length-append (cond l.positive [] (minus ∷ [])) (decimal l.number),
        sign l.positive,
      )
    where
      sign : (b : Bool) → length (cond b [] (minus ∷ [])) ≤ 1
      sign true = omega arith
      sign false = omega arith

  literals-length : (c : PropClause) → all (is_numbered v) c ≡ true → length (concat_map (λ l. literal_text l ++ (space ∷ [])) c) ≤ 229379 * length c
  literals-length [] e = omega arith
  literals-length (l ∷ c) e =
      omega (
        arith,
        length-append (literal_text l ++ (space ∷ [])) (concat_map (λ l. literal_text l ++ (space ∷ [])) c),
        literal-length l (and_left (is_numbered v l) (all (is_numbered v) c) e),
        literals-length c (and_right (is_numbered v l) (all (is_numbered v) c) e),
      )

  clause-length : (c : PropClause) → is_short c ≡ true → all (is_numbered v) c ≡ true → length (clause_text c) ≤ 5963856
  unfolding clause_text
  clause-length c k e =
      omega (
        arith,
        length-append (concat_map (λ l. literal_text l ++ (space ∷ [])) c) (48 ∷ 10 ∷ []),
        literals-length c e,
        leb-true (length c) 26 k,
      )

  pub texts-length : (cs : List PropClause) → all is_short cs ≡ true → all (all (is_numbered v)) cs ≡ true → length (texts cs) ≤ 5963856 * length cs
  texts-length [] k e = omega arith
  texts-length (c ∷ cs) k e =
      omega (
        arith,
        length-append (clause_text c) (texts cs),
        clause-length c (and_left (is_short c) (all is_short cs) k) (and_left (all (is_numbered v) c) (all (all (is_numbered v)) cs) e),
        texts-length cs (and_right (is_short c) (all is_short cs) k) (and_right (all (is_numbered v) c) (all (all (is_numbered v)) cs) e),
      )
