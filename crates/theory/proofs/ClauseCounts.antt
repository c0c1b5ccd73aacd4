-- Counts of the written clauses: at most I of them, with at most L literals, whose variables are numbered 1 to V.
use Prim.Native.Nat.{ℕ, zero, suc, ◌+◌, ◌*◌, ◌^◌, ◌-◌, ◌/◌, ◌≤◌, ◌<◌}
use mathlib.Core.Path.{◌≡◌, refl, sym, ap, ◌∙◌}
use mathlib.Core.Bool.{Bool, true, false, cond, ◌&&◌, beq}
use mathlib.Core.Option.{Option, none, some}
use mathlib.Core.List.{List, [], ◌∷◌, ◌++◌, map, map-map}
use native.Mathlib.Nat.{zero-add, suc-mul, zero-mul, one-mul, pow-suc, pow-zero, mul-div_cancel, le_of_eq}
use native.Mathlib.Omega.{arith}
use lib.Pow.{pow-add}
use lib.Dec.{leb}
use lib.ListN.{length, length-append, length-map}
use Rattle.theory.specs.Lists.{all, concat_map, up_from, up_to, sum}
use Rattle.theory.specs.Vectors.{vectors}
use Rattle.theory.specs.Syntax.{Signature, symbol_at, Clause, clause_ok}
use Rattle.theory.specs.Cells.{table_size}
use Rattle.theory.specs.Flattening.{FlatVariable, FlatAtom, flat_predicate, flat_result, flat_equality, FlatLiteral, FlatClause, flatten, variable_count}
use Rattle.theory.specs.Lifted.{flat_atom_ok, flat_ok}
use Rattle.theory.specs.Propositional.{PropClause, width, prop_base, prop_count}
use Rattle.theory.specs.Instances.{flat_value, Ground, known, variable, ground, add_literal, instance, kept, instances}
use Rattle.theory.specs.PropClauses.{some_result, not_both, not_two, cell_clauses, Part, function_part, clause_part, function_places, parts, prop_clauses, instance_count, literal_count}
use Rattle.theory.specs.Claims.Counts.{is_numbered}
use Rattle.theory.proofs.Tests.{and_left, and_right, and-join, leb-of-≤}
use Rattle.theory.proofs.Lists.{all_map, all-concat_map, all-imply, up_from-all, up_to-all, concat_map-append, concat_map-map, sum-map-append, length-up_from}
use Rattle.theory.proofs.Vectors.{vectors-all, length-vectors, all_below-map}
use Rattle.theory.proofs.Parts.{tables, tables←, all-prop_clauses}
use Rattle.theory.proofs.CellClauses.{pairs}
use Rattle.theory.proofs.Numbering.{variable-within, prop_variable-within}
use Rattle.theory.proofs.Declared.{function_of→, predicate_of→}
use Rattle.theory.proofs.FlatForm.{flatten-ok}
use Rattle.theory.proofs.Instances.{flat_value-below}

-- the number of literals of a list of clauses
abbrev literals : List PropClause → ℕ
literals cs = sum (map length cs)

literals-append : (cs ds : List PropClause) → literals (cs ++ ds) ≡ literals cs + literals ds
literals-append cs ds = sum-map-append length cs ds

-- a measure of lists of clauses that adds up: their number, or that of their literals
module _ (m : List PropClause → ℕ) (none : m [] ≡ 0) (add : (cs ds : List PropClause) → m (cs ++ ds) ≡ m cs + m ds) where
  concat_map-≤ : {A : Type 0} (f : A → List PropClause) (b : A → ℕ) → ((x : A) → m (f x) ≤ b x) → (xs : List A) → m (concat_map f xs) ≤ sum (map b xs)
  concat_map-≤ f b h [] = omega arith
  concat_map-≤ f b h (x ∷ xs) = omega (arith, add (f x) (concat_map f xs), h x, concat_map-≤ f b h xs)

  concat_map-≤-each : {A : Type 0} (f : A → List PropClause) (n : ℕ) → ((x : A) → m (f x) ≤ n) → (xs : List A) → m (concat_map f xs) ≤ length xs * n
  concat_map-≤-each f n h [] = omega (arith, zero-mul n)
  concat_map-≤-each f n h (x ∷ xs) = omega (arith, add (f x) (concat_map f xs), h x, concat_map-≤-each f n h xs, suc-mul (length xs) n)

  -- a bound for each part bounds them together
  parts-≤ : (s : ℕ) (g : Signature) (cs : List Clause) (b : Part → ℕ) → ((i : ℕ) → m (function_part s g i).clauses ≤ b (function_part s g i))
      → ((c : Clause) → m (clause_part s g c).clauses ≤ b (clause_part s g c)) → m (prop_clauses s g cs) ≤ sum (map b (parts s g cs))
  unfolding prop_clauses parts
  parts-≤ s g cs b hf hc =
      let clauses : Part → List PropClause = λ p. p.clauses in
      let fs : List Part = map (function_part s g) (function_places g) in
      let is : List Part = map (clause_part s g) cs in
      omega (
        arith,
        ap m (concat_map-append clauses fs is),
        add (concat_map clauses fs) (concat_map clauses is),
        sum-map-append b fs is,
        mapped (function_part s g) hf (function_places g),
        mapped (clause_part s g) hc cs,
      )
    where
      mapped : {A : Type 0} (f : A → Part) → ((x : A) → m (f x).clauses ≤ b (f x)) → (xs : List A)
          → m (concat_map (λ (p : Part). p.clauses) (map f xs)) ≤ sum (map b (map f xs))
      mapped f h xs =
          let e : concat_map (λ (p : Part). p.clauses) (map f xs) ≡ concat_map (λ x. (f x).clauses) xs = concat_map-map (λ (p : Part). p.clauses) f xs in
          omega (arith, ap m e, ap sum (map-map b f xs), concat_map-≤ (λ x. (f x).clauses) (λ x. b (f x)) h xs)

-- Instances: s^k, each with no more literals than the flattened clause.
kept-≤ : (o : Option PropClause) → length (kept o) ≤ 1
kept-≤ none = omega arith
kept-≤ (some c) = omega arith

instance-≤ : (s : ℕ) (g : Signature) (ν : FlatVariable → ℕ) (ls : List FlatLiteral) → literals (kept (instance s g ν ls)) ≤ length ls
instance-≤ s g ν [] = omega arith
instance-≤ s g ν (l ∷ ls) = go (ground s g ν l.atom) (instance s g ν ls) (instance-≤ s g ν ls)
  where
    go : (a : Ground) (o : Option PropClause) → literals (kept o) ≤ length ls → literals (kept (add_literal l.sign a o)) ≤ suc (length ls)
    go (known b) o h = dropped (beq l.sign b)
      where
        dropped : (q : Bool) → literals (kept (cond q none o)) ≤ suc (length ls)
        dropped true = omega arith
        dropped false = omega arith
    go (variable n) none h = omega arith
    go (variable n) (some c) h = omega arith

instances-length : (s : ℕ) (g : Signature) (c : FlatClause) → length (instances s g c) ≤ s ^ variable_count c
unfolding instances
instances-length s g c =
    let one : List ℕ → List PropClause = λ v. kept (instance s g (flat_value c.owns v) c.literals) in
    let vs : List (List ℕ) = vectors s (variable_count c) in
    omega (arith, concat_map-≤-each length refl length-append one 1 (λ v. kept-≤ (instance s g (flat_value c.owns v) c.literals)) vs, length-vectors s (variable_count c))

instances-literals : (s : ℕ) (g : Signature) (c : FlatClause) → literals (instances s g c) ≤ s ^ variable_count c * length c.literals
unfolding instances
instances-literals s g c =
    let one : List ℕ → List PropClause = λ v. kept (instance s g (flat_value c.owns v) c.literals) in
    let n : ℕ = length c.literals in
    let vs : List (List ℕ) = vectors s (variable_count c) in
    omega (
      arith,
      concat_map-≤-each literals refl literals-append one n (λ v. instance-≤ s g (flat_value c.owns v) c.literals) vs,
      ap (λ (k : ℕ). k * n) (length-vectors s (variable_count c)),
    )

-- Cell clauses: one for some result, and one for each of the s(s-1)/2 pairs d < e.
abbrev triangle : ℕ → ℕ
triangle zero = 0
triangle (suc n) = n + triangle n

twice-triangle : (n : ℕ) → triangle n * 2 ≡ n * (n - 1)
twice-triangle zero = refl
twice-triangle (suc zero) = refl
twice-triangle (suc (suc n)) =
    let e : suc (suc n) - 1 ≡ suc n = omega arith in
    let k : suc n - 1 ≡ n = omega arith in
    omega (arith, twice-triangle (suc n), ap (λ (m : ℕ). suc (suc n) * m) e, ap (λ (m : ℕ). suc n * m) k)

square : (n : ℕ) → n + n * (n - 1) ≡ n * n
square zero = refl
square (suc k) = let e : suc k - 1 ≡ k = omega arith in omega (arith, ap (λ (m : ℕ). suc k * m) e)

power-two : (s : ℕ) → s ^ 2 ≡ s * s
power-two s = pow-suc s 1 ∙ ap (λ (k : ℕ). k * s) (pow-suc s 0 ∙ ap (λ (k : ℕ). k * s) (pow-zero s) ∙ one-mul s)

half-square : (n : ℕ) → triangle n ≡ n * (n - 1) / 2
half-square n = sym (mul-div_cancel (triangle n) (omega arith)) ∙ ap (λ (m : ℕ). m / 2) (twice-triangle n)

module _ (s n : ℕ) where
  length_pairs : (a k : ℕ) → a + k ≡ s → length (concat_map (pairs s n) (up_from a k)) ≡ triangle k
  length_pairs a zero e = refl
  length_pairs a (suc k) e =
      let l : length (pairs s n a) ≡ s - suc a = length-map (up_from (suc a) (s - suc a)) (λ e. not_both n a e) ∙ length-up_from (suc a) (s - suc a) in
      omega (arith, length-append (pairs s n a) (concat_map (pairs s n) (up_from (suc a) k)), length_pairs (suc a) k (omega arith))

  literals-pairs : (d : ℕ) (es : List ℕ) → literals (map (λ e. not_both n d e) es) ≡ length es * 2
  literals-pairs d [] = refl
  literals-pairs d (e ∷ es) = omega (arith, literals-pairs d es)

  literals-not_two : (a k : ℕ) → a + k ≡ s → literals (concat_map (pairs s n) (up_from a k)) ≡ triangle k * 2
  literals-not_two a zero e = refl
  literals-not_two a (suc k) e =
      let l : literals (pairs s n a) ≡ (s - suc a) * 2 = literals-pairs a (up_from (suc a) (s - suc a)) ∙ ap (λ (m : ℕ). m * 2) (length-up_from (suc a) (s - suc a)) in
      omega (arith, literals-append (pairs s n a) (concat_map (pairs s n) (up_from (suc a) k)), literals-not_two (suc a) k (omega arith))

  cell-clauses : length (cell_clauses s n) ≡ 1 + s * (s - 1) / 2
  cell-clauses = omega (arith, length_pairs 0 s (zero-add s), half-square s)

  cell-literals : literals (cell_clauses s n) ≡ s * s
  cell-literals =
      let l : length (some_result s n) ≡ s = length-map (up_to s) (λ d. record { positive = true; number = n + d }) ∙ length-up_from 0 s in
      omega (arith, literals-not_two 0 s (zero-add s), twice-triangle s, square s)

function-clauses : (s : ℕ) (g : Signature) (i : ℕ) → length (function_part s g i).clauses ≤ (function_part s g i).clause_count
unfolding function_part
function-clauses s g i =
    let t : ℕ = table_size s (symbol_at g i) in
    let m : ℕ = 1 + s * (s - 1) / 2 in
    let row : ℕ → List PropClause = λ r. cell_clauses s (1 + (prop_base s g i + r * s)) in
    omega (arith, concat_map-≤-each length refl length-append row m (λ r. le_of_eq (cell-clauses s (1 + (prop_base s g i + r * s)))) (up_to t), ap (λ (k : ℕ). k * m) (length-up_from 0 t))

function-literals : (s : ℕ) (g : Signature) (i : ℕ) → literals (function_part s g i).clauses ≤ (function_part s g i).literal_count
unfolding function_part
function-literals s g i =
    let t : ℕ = table_size s (symbol_at g i) in
    let row : ℕ → List PropClause = λ r. cell_clauses s (1 + (prop_base s g i + r * s)) in
    let p : s ^ ((symbol_at g i).arity + 2) ≡ t * (s * s) = pow-add s (symbol_at g i).arity 2 ∙ ap (λ (k : ℕ). t * k) (power-two s) in
    omega (
      arith,
      concat_map-≤-each literals refl literals-append row (s * s) (λ r. le_of_eq (cell-literals s (1 + (prop_base s g i + r * s)))) (up_to t),
      ap (λ (k : ℕ). k * (s * s)) (length-up_from 0 t),
    )

clause-clauses : (s : ℕ) (g : Signature) (c : Clause) → length (clause_part s g c).clauses ≤ (clause_part s g c).clause_count
unfolding clause_part
clause-clauses s g c = instances-length s g (flatten c)

clause-literals : (s : ℕ) (g : Signature) (c : Clause) → literals (clause_part s g c).clauses ≤ (clause_part s g c).literal_count
unfolding clause_part
clause-literals s g c = instances-literals s g (flatten c)

-- at most I clauses are written
pub clauses-within : (s : ℕ) (g : Signature) (cs : List Clause) → length (prop_clauses s g cs) ≤ instance_count s g cs
unfolding instance_count
clauses-within s g cs = parts-≤ length refl length-append s g cs (λ (p : Part). p.clause_count) (function-clauses s g) (clause-clauses s g)

-- and at most L literals
pub literals-within : (s : ℕ) (g : Signature) (cs : List Clause) → sum (map length (prop_clauses s g cs)) ≤ literal_count s g cs
unfolding literal_count
literals-within s g cs = parts-≤ literals refl literals-append s g cs (λ (p : Part). p.literal_count) (function-literals s g) (clause-literals s g)

-- Numbers of variables.
module _ (s : ℕ) (g : Signature) where
  abbrev numbered : PropClause → Bool
  numbered = all (is_numbered (prop_count s g))

  is-numbered : (positive : Bool) (n : ℕ) → 1 ≤ n → n ≤ prop_count s g → is_numbered (prop_count s g) (record { positive = positive; number = n }) ≡ true
  is-numbered positive n lo hi = and-join (leb 1 n) (leb n (prop_count s g)) (leb-of-≤ 1 n lo) (leb-of-≤ n (prop_count s g) hi)

  -- those of a cell whose s variables from n on are within V
  cell-numbered : (n : ℕ) → 1 ≤ n → ((d : ℕ) → d < s → n + d ≤ prop_count s g) → all numbered (cell_clauses s n) ≡ true
  cell-numbered n lo hi =
      and-join (numbered (some_result s n)) (all numbered (not_two s n))
      (all_map (is_numbered (prop_count s g)) (λ d. record { positive = true; number = n + d }) (up_to s)
      ∙ up_to-all (λ d. is_numbered (prop_count s g) (record { positive = true; number = n + d })) s (λ d lt. is-numbered true (n + d) (omega arith) (hi d lt)))
      (all-concat_map numbered (pairs s n) (up_to s)
      ∙ up_to-all (λ d. all numbered (pairs s n d)) s (λ d lt.
      all_map numbered (λ e. not_both n d e) (up_from (suc d) (s - suc d))
      ∙ up_from-all (λ e. numbered (not_both n d e)) (suc d) (s - suc d) (λ e l u. pair d e (omega arith) (omega arith))))
    where
      not-number : (d : ℕ) → d < s → is_numbered (prop_count s g) (record { positive = false; number = n + d }) ≡ true
      not-number d lt = is-numbered false (n + d) (omega arith) (hi d lt)

      pair : (d e : ℕ) → d < s → e < s → numbered (not_both n d e) ≡ true
      pair d e hd he =
          let one : ℕ → Bool = λ d. is_numbered (prop_count s g) (record { positive = false; number = n + d }) in
          and-join (one d) (one e && true) (not-number d hd) (and-join (one e) true (not-number e he) refl)

  tables-numbered : all numbered (tables s g) ≡ true
  tables-numbered =
      tables← s g numbered (λ i r hi e hr.
      let w : width s (symbol_at g i).kind ≡ s = ap (width s) e in
      cell-numbered (1 + (prop_base s g i + r * s)) (omega arith) (λ d lt.
      omega (arith, variable-within s g i r d hi hr (omega arith), ap (λ (k : ℕ). r * k) w)))

  -- those of an instance
  module _ (ν : FlatVariable → ℕ) (below : (x : FlatVariable) → ν x < s) where
    abbrev ground_numbered : Ground → Type 0
    ground_numbered (known b) = Unit {0}
    ground_numbered (variable n) = (1 ≤ n) × (n ≤ prop_count s g)

    ground-numbered : (a : FlatAtom) → flat_atom_ok g a ≡ true → ground_numbered (ground s g ν a)
    ground-numbered (flat_predicate p xs) h =
        let d = predicate_of→ g p (length xs) h in
        (omega arith, prop_variable-within s g p (map ν xs) d.below (length-map xs ν ∙ d.arity) (all_below-map s ν below xs) 0 (omega (arith, ap (width s) d.kind)))
    ground-numbered (flat_result f xs y) h =
        let d = function_of→ g f (length xs) h in (
          omega arith,
          prop_variable-within s g f (map ν xs) d.below (length-map xs ν ∙ d.arity) (all_below-map s ν below xs) (ν y) (omega (arith, ap (width s) d.kind, below y)),
        )
    ground-numbered (flat_equality x y) h = tt

    instance-numbered : (ls : List FlatLiteral) → flat_ok g ls ≡ true → all numbered (kept (instance s g ν ls)) ≡ true
    instance-numbered [] h = refl
    instance-numbered (l ∷ ls) h =
        go (ground s g ν l.atom) (instance s g ν ls) (ground-numbered l.atom (and_left (flat_atom_ok g l.atom) (flat_ok g ls) h))
        (instance-numbered ls (and_right (flat_atom_ok g l.atom) (flat_ok g ls) h))
      where
        go : (a : Ground) (o : Option PropClause) → ground_numbered a → all numbered (kept o) ≡ true → all numbered (kept (add_literal l.sign a o)) ≡ true
        go (known b) o k ih = dropped (beq l.sign b)
          where
            dropped : (q : Bool) → all numbered (kept (cond q none o)) ≡ true
            dropped true = refl
            dropped false = ih
        go (variable n) none k ih = refl
        go (variable n) (some c) k ih =
            let first : Bool = is_numbered (prop_count s g) (record { positive = l.sign; number = n }) in
            and-join (first && numbered c) true (and-join first (numbered c) (is-numbered l.sign n k.0 k.1) (and_left (numbered c) true ih)) refl

  instances-numbered : zero < s → (c : Clause) → clause_ok g c ≡ true → all numbered (instances s g (flatten c)) ≡ true
  unfolding instances
  instances-numbered pos c ok =
      let fc : FlatClause = flatten c in
      let one : List ℕ → List PropClause = λ v. kept (instance s g (flat_value fc.owns v) fc.literals) in
      all-concat_map numbered one (vectors s (variable_count fc))
      ∙ vectors-all s (variable_count fc) (λ v. all numbered (one v)) (λ v e b.
      instance-numbered (flat_value fc.owns v) (flat_value-below s fc.owns v pos b) fc.literals (flatten-ok g c ok))

-- every written number is one of 1 to V
pub numbers-within : (s : ℕ) (g : Signature) (cs : List Clause) → zero < s → all (clause_ok g) cs ≡ true
    → all (all (is_numbered (prop_count s g))) (prop_clauses s g cs) ≡ true
numbers-within s g cs pos ok =
    let q : PropClause → Bool = numbered s g in
    all-prop_clauses s g q cs
    ∙ and-join (all q (tables s g)) (all (λ c. all q (instances s g (flatten c))) cs) (tables-numbered s g)
    (all-imply (clause_ok g) (λ c. all q (instances s g (flatten c))) cs (instances-numbered s g pos) ok)
