-- The clauses of the function cells, as the code walks through them.
use Rattle.std.specs.Prelude.{ℕ, suc, ◌+◌, ◌-◌, ◌*◌, ◌^◌, cond, List, [], map}
use Rattle.theory.specs.Lists.{concat_map, up_from, up_to}
use Rattle.theory.specs.Syntax.{Signature}
use Rattle.theory.specs.Propositional.{PropClause}
use Rattle.theory.specs.PropClauses.{not_both, cell_clauses, function_part, function_places}
use Rattle.syntax.specs.declared.signature.Symbol.{Symbol}
use Rattle.syntax.specs.declared.signature.Signature as declared
use Rattle.syntax.specs.Signatures.{signature_in}
use Rattle.stream.specs.Consuming.{Effect, Consumes, Consumed}

-- not d or not e, for each e after d
abbrev pub not_with : ℕ → ℕ → ℕ → List PropClause
not_with s n d = map (λ e. not_both n d e) (up_from (suc d) (s - suc d))

-- the clauses of so many cells, where `base` variables come before theirs
abbrev pub row_clauses : ℕ → ℕ → ℕ → List PropClause
row_clauses s base cells = concat_map (λ r. cell_clauses s (1 + (base + r * s))) (up_to cells)

-- the clauses of a symbol's cells
abbrev pub symbol_clauses : ℕ → ℕ → Symbol → List PropClause
symbol_clauses s base y = cond y.function (row_clauses s base (s ^ y.arity)) []

-- the clauses of all function cells
unfoldable pub cell_part : ℕ → Signature → List PropClause
cell_part s g = concat_map (λ i. (function_part s g i).clauses) (function_places g)

-- at x, the clauses of the function cells of y come next; they are the same in each sheet that the symbols have their names in
abbrev pub CellsNext : {S : Type 0} → Effect S → declared.Signature → ℕ → S → Type 0
CellsNext effect y s x = (sheet : List ℕ) × Consumes effect (cell_part s (signature_in sheet y)) x

-- from x to z, they were taken
abbrev pub CellsTaken : {S : Type 0} → Effect S → declared.Signature → ℕ → S → S → Type 0
CellsTaken effect y s x z = (sheet : List ℕ) → Consumed effect (cell_part s (signature_in sheet y)) x z
