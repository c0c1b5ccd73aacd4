-- Parts: a test on all written clauses is the test on each cell's clauses, for each function, and on each clause's instances.
use Prim.Native.Nat.{ℕ, ◌+◌, ◌*◌, ◌<◌}
use mathlib.Core.Path.{◌≡◌, refl, sym, ap, ◌∙◌}
use mathlib.Core.Bool.{Bool, true, cond, ◌&&◌}
use mathlib.Core.List.{List, map}
use lib.ListN.{length}
use Rattle.theory.specs.Lists.{all, concat_map, up_to}
use Rattle.theory.specs.Syntax.{Kind, function, predicate, is_function, Signature, symbol_at, Clause}
use Rattle.theory.specs.Cells.{table_size}
use Rattle.theory.specs.Flattening.{flatten}
use Rattle.theory.specs.Propositional.{PropClause, prop_base}
use Rattle.theory.specs.Instances.{instances}
use Rattle.theory.specs.PropClauses.{cell_clauses, Part, function_part, clause_part, function_places, parts, prop_clauses}
use Rattle.theory.proofs.Lists.{all_append, all-concat_map, all-select, all-up_to, up_to-all, concat_map-append, concat_map-map}

-- the clauses of all function cells
abbrev pub tables : ℕ → Signature → List PropClause
tables s g = concat_map (λ (p : Part). p.clauses) (map (function_part s g) (function_places g))

module _ (s : ℕ) (g : Signature) (q : PropClause → Bool) where
  -- the clauses of row r of the table at place i pass
  abbrev row : ℕ → ℕ → Bool
  row i r = all q (cell_clauses s (1 + (prop_base s g i + r * s)))

  -- the table at place i passes, where it is that of a function
  abbrev function_table : ℕ → Kind → Bool
  function_table i k = cond (is_function k) (all q (function_part s g i).clauses) true

  table-rows : (i : ℕ) → all q (function_part s g i).clauses ≡ all (row i) (up_to (table_size s (symbol_at g i)))
  unfolding function_part
  table-rows i = all-concat_map q (λ r. cell_clauses s (1 + (prop_base s g i + r * s))) (up_to (table_size s (symbol_at g i)))

  all-tables : all q (tables s g) ≡ all (λ i. function_table i (symbol_at g i).kind) (up_to (length g))
  all-tables =
      ap (all q) (concat_map-map (λ (p : Part). p.clauses) (function_part s g) (function_places g))
      ∙ all-concat_map q (λ i. (function_part s g i).clauses) (function_places g)
      ∙ all-select (λ i. is_function (symbol_at g i).kind) (λ i. all q (function_part s g i).clauses) (up_to (length g))

  -- the clauses of all function cells pass exactly if those of each row of each function do
  pub tables→ : all q (tables s g) ≡ true → (i r : ℕ) → i < length g → (symbol_at g i).kind ≡ function → r < table_size s (symbol_at g i) → row i r ≡ true
  tables→ t i r hi e hr =
      let here : function_table i (symbol_at g i).kind ≡ true = all-up_to (λ i. function_table i (symbol_at g i).kind) (length g) (sym all-tables ∙ t) i hi in
      all-up_to (row i) (table_size s (symbol_at g i)) (sym (table-rows i) ∙ ap (function_table i) (sym e) ∙ here) r hr

  pub tables← : ((i r : ℕ) → i < length g → (symbol_at g i).kind ≡ function → r < table_size s (symbol_at g i) → row i r ≡ true) → all q (tables s g) ≡ true
  tables← t = all-tables ∙ up_to-all (λ i. function_table i (symbol_at g i).kind) (length g) (λ i hi. go i hi (symbol_at g i).kind refl)
    where
      go : (i : ℕ) → i < length g → (k : Kind) → (symbol_at g i).kind ≡ k → function_table i (symbol_at g i).kind ≡ true
      go i hi function e = ap (function_table i) e ∙ table-rows i ∙ up_to-all (row i) (table_size s (symbol_at g i)) (λ r hr. t i r hi e hr)
      go i hi predicate e = ap (function_table i) e

  pub all-prop_clauses : (cs : List Clause) → all q (prop_clauses s g cs) ≡ (all q (tables s g) && all (λ c. all q (instances s g (flatten c))) cs)
  unfolding prop_clauses parts clause_part
  all-prop_clauses cs =
      let clauses : Part → List PropClause = λ p. p.clauses in
      let rest : List Part = map (clause_part s g) cs in
      ap (all q) (concat_map-append clauses (map (function_part s g) (function_places g)) rest)
      ∙ all_append q (tables s g) (concat_map clauses rest)
      ∙ ap (λ (b : Bool). all q (tables s g) && b) (ap (all q) (concat_map-map clauses (clause_part s g) cs) ∙ all-concat_map q (λ c. instances s g (flatten c)) cs)
