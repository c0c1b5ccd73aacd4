-- Propositional variables and their numbering: in cell order, a function's cell has one for each result, a predicate's cell one.
use Rattle.std.specs.Prelude.{ℕ, ◌+◌, ◌*◌, Bool, List, map, take}
use Rattle.theory.specs.Lists.{sum}
use Rattle.theory.specs.Vectors.{rank}
use Rattle.theory.specs.Syntax.{Kind, function, predicate, Symbol, Signature, symbol_at}
use Rattle.theory.specs.Cells.{table_size}

-- a propositional literal: n or -n, for the propositional variable number n, counted from 1
pub record PropLiteral : Type 0 where
  pub positive : Bool
  pub number : ℕ

-- a propositional clause: one of its literals is to be true
abbrev pub PropClause : Type 0
PropClause = List PropLiteral

-- how many propositional variables a cell has: a function's cell one for each result, a predicate's cell one
abbrev pub width : ℕ → Kind → ℕ
width s function = s
width s predicate = 1

-- the number of propositional variables of a symbol
abbrev pub block_size : ℕ → Symbol → ℕ
block_size s f = table_size s f * width s f.kind

-- V: the number of propositional variables
unfoldable pub prop_count : ℕ → Signature → ℕ
prop_count s g = sum (map (block_size s) g)

-- how many propositional variables come before those of the symbol at place i
unfoldable pub prop_base : ℕ → Signature → ℕ → ℕ
prop_base s g i = prop_count s (take i g)

-- the propositional variable of the symbol at place i, at the arguments v, for the result d (0 for a predicate)
abbrev pub prop_variable : ℕ → Signature → ℕ → List ℕ → ℕ → ℕ
prop_variable s g i v d = 1 + (prop_base s g i + (rank s v * width s (symbol_at g i).kind + d))
