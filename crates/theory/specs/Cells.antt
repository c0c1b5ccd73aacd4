-- Cells: the table entries of all symbols, numbered symbol by symbol, the last argument fastest. An interpretation (document 01: case) is their values.
use Rattle.std.specs.Prelude.{ℕ, ◌+◌, ◌^◌, Bool, true, false, ◌&&◌, List, [], ◌∷◌, map, length, get_or, take, replicate, eqb, ltb}
use Rattle.std.proofs.Math.Option.{Option}
use Rattle.theory.specs.Lists.{concat_map, up_to, sum}
use Rattle.theory.specs.Vectors.{vectors, rank}
use Rattle.theory.specs.Syntax.{Kind, function, predicate, Symbol, Signature, symbol_at, Clause}
use Rattle.theory.specs.Truth.{Interpretation, Failure, first_failure, no_failure}

-- the number of cells of a symbol
abbrev pub table_size : ℕ → Symbol → ℕ
table_size s f = s ^ f.arity

-- the number of cells of all symbols
abbrev pub cell_count : ℕ → Signature → ℕ
cell_count s g = sum (map (table_size s) g)

-- the number of the first cell of the symbol at place i
abbrev pub cell_base : ℕ → Signature → ℕ → ℕ
cell_base s g i = cell_count s (take i g)

-- the number of the cell of the symbol at place i, at the arguments v; cells count from 0
abbrev pub cell : ℕ → Signature → ℕ → List ℕ → ℕ
cell s g i v = cell_base s g i + rank s v

-- the kind of each cell's symbol, in cell order
unfoldable pub cell_kinds : ℕ → Signature → List Kind
cell_kinds s g = concat_map (λ (f : Symbol). replicate (table_size s f) f.kind) g

-- how many values a cell may have: a function's cell an element, a predicate's 0 or 1
abbrev pub value_count : ℕ → Kind → ℕ
value_count s function = s
value_count s predicate = 2

-- the values are in range, one for each cell
abbrev pub in_range : ℕ → List Kind → List ℕ → Bool
in_range s [] [] = true
in_range s [] (d ∷ ds) = false
in_range s (k ∷ ks) [] = false
in_range s (k ∷ ks) (d ∷ ds) = ltb d (value_count s k) && in_range s ks ds

-- the cell values are an interpretation of the signature at size s
unfoldable pub is_interpretation : ℕ → Signature → List ℕ → Bool
is_interpretation s g vs = in_range s (cell_kinds s g) vs

-- the cell values, in cell order, where the symbol at place i has the value t i v at the arguments v
unfoldable pub tabulated : ℕ → Signature → (ℕ → List ℕ → ℕ) → List ℕ
tabulated s g t = concat_map (λ i. map (t i) (vectors s (symbol_at g i).arity)) (up_to (length g))

-- the interpretation that the cell values are
abbrev pub interpretation : ℕ → Signature → List ℕ → Interpretation
interpretation s g vs =
    record {
      function = λ f v. get_or vs (cell s g f v) 0;
      relation = λ p v. eqb (get_or vs (cell s g p v) 0) 1;
    }

-- judging: the first clause and the first choice of values under which it fails
unfoldable pub judged : ℕ → Signature → List Clause → List ℕ → Option Failure
judged s g cs vs = first_failure (interpretation s g vs) s 0 cs

-- the cell values are a model of the clauses
unfoldable pub is_model : ℕ → Signature → List Clause → List ℕ → Bool
is_model s g cs vs = no_failure (judged s g cs vs)
