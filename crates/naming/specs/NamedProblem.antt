-- The problem of the mode: helper constants after all declared symbols, the clauses that the mode has; and what a case shows of it.
use Rattle.std.specs.Prelude.{ℕ, List, [], ◌++◌, map, length, take}
use Rattle.theory.specs.Lists.{select}
use Rattle.theory.specs.Syntax.{function, helper, is_from_sheet, Symbol, Signature, Term}
use Rattle.theory.specs.Cells.{cell_count}
use Rattle.theory.specs.Problem.{Problem}
use Rattle.theory.specs.CaseText.{case_text}
use Rattle.naming.specs.FixedTerms.{named_terms, named_clauses}

-- a helper: a constant without a name, since it is never shown
abbrev pub helper_constant : Symbol
helper_constant = record { kind = function; name = []; arity = 0; origin = helper }

-- a helper for each term
abbrev pub helper_symbols : List Term → Signature
helper_symbols ts = map (λ t. helper_constant) ts

-- the problem of the mode
unfoldable pub in_mode : Problem → Problem
in_mode p = record { symbols = p.symbols ++ helper_symbols (named_terms p.clauses); clauses = named_clauses (length p.symbols) p.clauses }

-- the symbols that a case shows: the declared ones
unfoldable pub shown_symbols : Signature → Signature
shown_symbols g = select (λ (f : Symbol). is_from_sheet f.origin) g

-- the values of their cells, which come before the helpers' cells
abbrev pub shown_values : ℕ → Signature → List ℕ → List ℕ
shown_values s g vs = take (cell_count s (shown_symbols g)) vs

-- the case text of cell values
abbrev pub shown_text : ℕ → Signature → List ℕ → List ℕ
shown_text s g vs = case_text s (shown_symbols g) (shown_values s g vs)
