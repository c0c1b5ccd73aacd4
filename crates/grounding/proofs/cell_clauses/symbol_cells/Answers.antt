use native.Mathlib.Omega.{arith}
use Rattle.interpretation.proofs.Ranks.{table-within}
use Rattle.grounding.proofs.cell_clauses.symbol_cells.Goals as goal

pub overflow_cast-cells : goal.overflow_cast-cells
overflow_cast-cells g c = let s = c in
    omega (arith, c.power-cells.ensures, table-within s.args.size.0 s.args.symbol.arity s.requires.arity_bound.1 s.requires.arity_bound.0)

pub table_cells-requires-clause-size_bound : goal.table_cells-requires-clause-size_bound
table_cells-requires-clause-size_bound g c = let a = c.args in
    (c.requires.arity_bound.1, omega (arith, c.power-cells.ensures, table-within a.size.0 a.symbol.arity c.requires.arity_bound.1 c.requires.arity_bound.0), c.requires.arity_bound.2)
