-- A flattened clause put together: the rows of the lifted terms, then the literals.
use Rattle.std.specs.Prelude.{ℕ, ◌+◌, ◌≤◌, ◌<◌, ◌≡◌, false, length, get_or, replicate}
use Rattle.theory.specs.Problem.{max_literals, max_variables}
use Rattle.lifting.specs.declared.table.Table.{Table}
use Rattle.lifting.specs.Rows.{row_at}
use Rattle.shallow.specs.declared.literals.Shape.TheVariants.{FunctionResult}
use Rattle.shallow.specs.declared.literals.Literal.{Literal}
use Rattle.shallow.specs.declared.literals.Lifting.{Lifting}
use Rattle.flattening.specs.declared.flat.FlatClause.{FlatClause}
use Rattle.shallow.specs.Literals.{no_literal, blank_literal}

-- no literal written
unfoldable pub empty_flat : ℕ → ℕ → FlatClause
empty_flat count variables = record { literals = replicate (max_variables + max_literals) blank_literal; count = count; variables = variables }

-- t ≠ y for the i-th lifted term t and its new variable y, where the clause has so many variables of its own
abbrev pub definition_at : Table → ℕ → ℕ → Literal
definition_at t owns i = record { sign = false; shape = FunctionResult (row_at t i).function (owns + i); arguments = (row_at t i).arguments }

-- literal j
abbrev pub shallow_at : Lifting → ℕ → Literal
shallow_at l j = get_or l.literals j no_literal

-- the lifted terms and literals are few enough
pub record Assemblable (l : Lifting) : Type 0 where
  pub terms : l.table.count ≤ max_variables
  pub literals : l.count ≤ max_literals
  pub few : l.owns ≤ 8

-- r is c with n literals put from number `at` on; those before stay
pub record LiteralsPut (c : FlatClause) (at n : ℕ) (literal : ℕ → Literal) (r : FlatClause) : Type 0 where
  pub long : length r.literals ≡ max_variables + max_literals
  pub count : r.count ≡ c.count
  pub variables : r.variables ≡ c.variables
  pub written : (i : ℕ) → i < n → get_or r.literals (at + i) no_literal ≡ literal i
  pub kept : (k : ℕ) → k < at → get_or r.literals k no_literal ≡ get_or c.literals k no_literal

-- the definitions come first, in order, then the literals
pub record Assembled (l : Lifting) (r : FlatClause) : Type 0 where
  pub count : r.count ≡ l.table.count + l.count
  pub variables : r.variables ≡ l.owns + l.table.count
  pub definition : (i : ℕ) → i < l.table.count → get_or r.literals i no_literal ≡ definition_at l.table l.owns i
  pub literal : (j : ℕ) → j < l.count → get_or r.literals (l.table.count + j) no_literal ≡ shallow_at l j
