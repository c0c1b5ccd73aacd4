-- Numbering: cells and propositional variables are numbered one to one, without gaps, for all arities and sizes together.
use Rattle.std.specs.Prelude.{ℕ, ◌≡◌, List, map, length}
use Rattle.theory.specs.Lists.{concat_map, up_from, up_to}
use Rattle.theory.specs.Vectors.{vectors}
use Rattle.theory.specs.Syntax.{Signature, symbol_at}
use Rattle.theory.specs.Cells.{cell_count, cell}
use Rattle.theory.specs.Propositional.{width, prop_count, prop_variable}

-- the cells of all symbols at all arguments, symbol by symbol, the last argument fastest
abbrev pub all_cells : ℕ → Signature → List ℕ
all_cells s g = concat_map (λ i. map (cell s g i) (vectors s (symbol_at g i).arity)) (up_to (length g))

-- the propositional variables of all cells, in the same order, each cell's in order of its results
abbrev pub all_prop_variables : ℕ → Signature → List ℕ
all_prop_variables s g =
    concat_map (λ i. concat_map (λ v. map (prop_variable s g i v) (up_to (width s (symbol_at g i).kind))) (vectors s (symbol_at g i).arity)) (up_to (length g))

-- the theorem
pub record Numbering : Type 0 where
  -- the cells are 0, 1, .., each once
  pub cells : (s : ℕ) (g : Signature) → all_cells s g ≡ up_to (cell_count s g)
  -- the propositional variables are 1, 2, .., V, each once
  pub prop_variables : (s : ℕ) (g : Signature) → all_prop_variables s g ≡ up_from 1 (prop_count s g)
