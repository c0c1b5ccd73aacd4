-- Step 4 of document 01: the propositional clauses of a problem at size s in written order, and the counts I, L and W.
use Rattle.std.specs.Prelude.{ℕ, suc, ◌+◌, ◌-◌, ◌*◌, ◌/◌, ◌^◌, true, false, List, [], ◌∷◌, ◌++◌, map, length}
use Rattle.theory.specs.Lists.{concat_map, up_from, up_to, select, sum}
use Rattle.theory.specs.Syntax.{is_function, Signature, symbol_at, Clause}
use Rattle.theory.specs.Cells.{table_size}
use Rattle.theory.specs.Flattening.{flatten, variable_count}
use Rattle.theory.specs.Propositional.{PropClause, prop_base, prop_count}
use Rattle.theory.specs.Instances.{instances}

-- some result: n, n + 1, .., for the s variables from n on
abbrev pub some_result : ℕ → ℕ → PropClause
some_result s n = map (λ d. record { positive = true; number = n + d }) (up_to s)

-- not d or not e
abbrev pub not_both : ℕ → ℕ → ℕ → PropClause
not_both n d e = record { positive = false; number = n + d } ∷ record { positive = false; number = n + e } ∷ []

-- not d or not e, for each d < e, in order
abbrev pub not_two : ℕ → ℕ → List PropClause
not_two s n = concat_map (λ d. map (λ e. not_both n d e) (up_from (suc d) (s - suc d))) (up_to s)

-- the clauses of a function's cell whose first variable is n
abbrev pub cell_clauses : ℕ → ℕ → List PropClause
cell_clauses s n = some_result s n ∷ not_two s n

-- a part of the written clauses, and what it adds to I and L, which count before anything is dropped
pub record Part : Type 0 where
  pub clauses : List PropClause
  pub clause_count : ℕ
  pub literal_count : ℕ

-- the cell clauses of the function at place i: in I s^arity·(1 + s(s-1)/2), in L s^(arity+2)
unfoldable pub function_part : ℕ → Signature → ℕ → Part
function_part s g i =
    record {
      clauses = concat_map (λ r. cell_clauses s (1 + (prop_base s g i + r * s))) (up_to (table_size s (symbol_at g i)));
      clause_count = table_size s (symbol_at g i) * (1 + s * (s - 1) / 2);
      literal_count = s ^ ((symbol_at g i).arity + 2);
    }

-- the instances of a clause: in I s^k, in L s^k times its flattened literals
unfoldable pub clause_part : ℕ → Signature → Clause → Part
clause_part s g c =
    record {
      clauses = instances s g (flatten c);
      clause_count = s ^ variable_count (flatten c);
      literal_count = s ^ variable_count (flatten c) * length (flatten c).literals;
    }

-- the places of the functions, in order
abbrev pub function_places : Signature → List ℕ
function_places g = select (λ i. is_function (symbol_at g i).kind) (up_to (length g))

-- the parts in written order: the function cells, then the instances, clause by clause
unfoldable pub parts : ℕ → Signature → List Clause → List Part
parts s g cs = map (function_part s g) (function_places g) ++ map (clause_part s g) cs

-- the clauses of a call, in written order
unfoldable pub prop_clauses : ℕ → Signature → List Clause → List PropClause
prop_clauses s g cs = concat_map (λ (p : Part). p.clauses) (parts s g cs)

-- I: the number of clauses before dropping
unfoldable pub instance_count : ℕ → Signature → List Clause → ℕ
instance_count s g cs = sum (map (λ (p : Part). p.clause_count) (parts s g cs))

-- L: the number of literals before dropping
unfoldable pub literal_count : ℕ → Signature → List Clause → ℕ
literal_count s g cs = sum (map (λ (p : Part). p.literal_count) (parts s g cs))

-- W: the numbers of work that Find needs
unfoldable pub work_needed : ℕ → Signature → List Clause → ℕ
work_needed s g cs = literal_count s g cs + 2 * instance_count s g cs + 8 * prop_count s g + 16
