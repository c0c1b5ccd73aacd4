-- The rows of the table of lifted terms: a function and three arguments each.
use Rattle.std.specs.Prelude.{ℕ, ◌+◌, Bool, cond, ◌&&◌, [], eqb, ltb, get_or, set, take, replicate}
use Rattle.std.specs.List.{position_or_len}
use Rattle.theory.specs.Problem.{max_arity}
use Rattle.lifting.specs.declared.table.Row.{Row}
use Rattle.lifting.specs.declared.table.Table.{Table}

-- what stands past the rows
abbrev pub no_row : Row
no_row = record { function = 0; arguments = [] }

-- a row that was not written
abbrev pub blank_row : Row
blank_row = record { function = 0; arguments = replicate max_arity 0 }

-- row i
abbrev pub row_at : Table → ℕ → Row
row_at t i = get_or t.rows i no_row

-- two rows have the same function and arguments
abbrev pub same_row : Row → Row → Bool
same_row a b =
    eqb a.function b.function
    && (eqb (get_or a.arguments 0 0) (get_or b.arguments 0 0)
    && (eqb (get_or a.arguments 1 0) (get_or b.arguments 1 0)
    && eqb (get_or a.arguments 2 0) (get_or b.arguments 2 0)))

-- the first such row, or the number of rows
abbrev pub row_of : Table → Row → ℕ
row_of t r = position_or_len (λ x. same_row x r) (take t.count t.rows)

-- the table with one row more
abbrev pub with_row : Table → Row → Table
with_row t r = record { rows = set t.rows t.count r; count = t.count + 1 }

-- the table with that row, where it was none yet
abbrev pub shared : Table → Row → Table
shared t r = cond (ltb (row_of t r) t.count) t (with_row t r)
