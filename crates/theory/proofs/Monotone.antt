-- A larger domain needs no less: V, I, L, W and the length of a case grow with the size.
use Prim.Native.Nat.{ℕ, zero, suc, ◌+◌, ◌*◌, ◌-◌, ◌/◌, ◌^◌, ◌≤◌}
use mathlib.Core.Path.{ap}
use mathlib.Core.List.{List, [], ◌∷◌, map, map-map}
use native.Mathlib.Nat.{mul-le-mul, pow-suc, le_refl, pow-zero}
use native.Mathlib.Omega.{arith}
use lib.ListN.{length}
use Rattle.theory.specs.Lists.{sum}
use Rattle.theory.specs.Syntax.{Kind, function, predicate, Symbol, Signature, symbol_at, Clause}
use Rattle.theory.specs.Cells.{table_size, cell_count}
use Rattle.theory.specs.Flattening.{flatten, variable_count}
use Rattle.theory.specs.Propositional.{width, block_size, prop_count}
use Rattle.theory.specs.PropClauses.{Part, function_part, clause_part, function_places, parts, instance_count, literal_count, work_needed}
use Rattle.theory.specs.CaseText.{case_length}
use Rattle.theory.proofs.Lists.{sum-map-append}

pow-grows : (s t k : ℕ) → s ≤ t → s ^ k ≤ t ^ k
pow-grows s t zero h = omega (arith, pow-zero s, pow-zero t)
pow-grows s t (suc k) h = let le : s ^ k * s ≤ t ^ k * t = mul-le-mul (pow-grows s t k h) h in omega (arith, pow-suc s k, pow-suc t k)

-- a sum grows with its terms
pub sum-grows : {A : Type 0} (f g : A → ℕ) → ((a : A) → f a ≤ g a) → (as' : List A) → sum (map f as') ≤ sum (map g as')
sum-grows f g h [] = le_refl 0
sum-grows f g h (a ∷ as') = omega (arith, h a, sum-grows f g h as')

sum-map-grows : {A B : Type 0} (count : B → ℕ) (f g : A → B) → ((a : A) → count (f a) ≤ count (g a)) → (as' : List A) → sum (map count (map f as')) ≤ sum (map count (map g as'))
sum-map-grows count f g h as' =
    omega (arith, ap sum (map-map count f as'), ap sum (map-map count g as'), sum-grows (λ a. count (f a)) (λ a. count (g a)) h as')

module _ (s t : ℕ) (h : s ≤ t) where
  width-grows : (k : Kind) → width s k ≤ width t k
  width-grows function = h
  width-grows predicate = le_refl 1

  block-grows : (f : Symbol) → block_size s f ≤ block_size t f
  block-grows f = mul-le-mul (pow-grows s t f.arity h) (width-grows f.kind)

  pub prop_count-grows : (g : Signature) → prop_count s g ≤ prop_count t g
  unfolding prop_count
  prop_count-grows g = sum-grows (block_size s) (block_size t) block-grows g

  pairs-grow : 1 + s * (s - 1) / 2 ≤ 1 + t * (t - 1) / 2
  pairs-grow = let le : s * (s - 1) ≤ t * (t - 1) = mul-le-mul h (omega arith) in omega arith

  table-grows : (f : Symbol) → table_size s f ≤ table_size t f
  table-grows f = pow-grows s t f.arity h

  pub cell_count-grows : (g : Signature) → cell_count s g ≤ cell_count t g
  cell_count-grows g = sum-grows (table_size s) (table_size t) table-grows g

  function-clauses : (g : Signature) (i : ℕ) → (function_part s g i).clause_count ≤ (function_part t g i).clause_count
  unfolding function_part
  function-clauses g i = mul-le-mul (table-grows (symbol_at g i)) pairs-grow

  function-literals : (g : Signature) (i : ℕ) → (function_part s g i).literal_count ≤ (function_part t g i).literal_count
  unfolding function_part
  function-literals g i = pow-grows s t ((symbol_at g i).arity + 2) h

  clause-clauses : (g : Signature) (c : Clause) → (clause_part s g c).clause_count ≤ (clause_part t g c).clause_count
  unfolding clause_part
  clause-clauses g c = pow-grows s t (variable_count (flatten c)) h

  clause-literals : (g : Signature) (c : Clause) → (clause_part s g c).literal_count ≤ (clause_part t g c).literal_count
  unfolding clause_part
  clause-literals g c = mul-le-mul (pow-grows s t (variable_count (flatten c)) h) (le_refl (length (flatten c).literals))

  pub case_length-grows : (g : Signature) → case_length s g ≤ case_length t g
  unfolding case_length
  case_length-grows g =
      let le : sum (map (λ (f : Symbol). length f.name + 1 + 2 * table_size s f) g) ≤ sum (map (λ (f : Symbol). length f.name + 1 + 2 * table_size t f) g) =
      sum-grows _ _ (λ f. omega (arith, table-grows f)) g in
      omega arith

  -- what every part adds, over all parts
  parts-grow : (count : Part → ℕ) (g : Signature) (cs : List Clause) → ((i : ℕ) → count (function_part s g i) ≤ count (function_part t g i))
      → ((c : Clause) → count (clause_part s g c) ≤ count (clause_part t g c)) → sum (map count (parts s g cs)) ≤ sum (map count (parts t g cs))
  unfolding parts
  parts-grow count g cs f c =
      omega (
        arith,
        sum-map-append count (map (function_part s g) (function_places g)) (map (clause_part s g) cs),
        sum-map-append count (map (function_part t g) (function_places g)) (map (clause_part t g) cs),
        sum-map-grows count (function_part s g) (function_part t g) f (function_places g),
        sum-map-grows count (clause_part s g) (clause_part t g) c cs,
      )

  pub instance_count-grows : (g : Signature) (cs : List Clause) → instance_count s g cs ≤ instance_count t g cs
  unfolding instance_count
  instance_count-grows g cs = parts-grow (λ (p : Part). p.clause_count) g cs (function-clauses g) (clause-clauses g)

  pub literal_count-grows : (g : Signature) (cs : List Clause) → literal_count s g cs ≤ literal_count t g cs
  unfolding literal_count
  literal_count-grows g cs = parts-grow (λ (p : Part). p.literal_count) g cs (function-literals g) (clause-literals g)

  pub work_needed-grows : (g : Signature) (cs : List Clause) → work_needed s g cs ≤ work_needed t g cs
  unfolding work_needed
  work_needed-grows g cs = omega (arith, instance_count-grows g cs, literal_count-grows g cs, prop_count-grows g)
