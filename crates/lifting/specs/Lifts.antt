-- The lifted terms that the table of rows stands for.
use Rattle.std.specs.Prelude.{ℕ, ◌<◌, ◌≡◌, true, List, length, get_or}
use Rattle.theory.specs.Lists.{all}
use Rattle.theory.specs.Syntax.{Signature, Term, variable, apply, Terms, empty, term_variables, term_ok}
use Rattle.theory.specs.Problem.{max_words}
use Rattle.theory.specs.Lifted.{within, covered, is_apply, different}
use Rattle.lifting.specs.declared.table.Table.{Table}
use Rattle.lifting.specs.Places.{places}
use Rattle.lifting.specs.Rows.{row_at}

-- a term's function and its arguments
abbrev pub outer : Term → ℕ
outer (variable x) = 0
outer (apply f ts) = f

abbrev pub inner : Term → Terms
inner (variable x) = empty
inner (apply f ts) = ts

-- row i is that of the i-th term found: its function, and the places of the variables that stand for its arguments
pub record Holds (xs : List ℕ) (found : List Term) (t : Table) : Type 0 where
  pub rows : length t.rows ≡ max_words
  pub count : t.count ≡ length found
  pub function : (i : ℕ) → i < length found → (row_at t i).function ≡ outer (get_or found i (variable 0))
  pub argument : (i j : ℕ) → i < length found → j < 3 → get_or (row_at t i).arguments j 0 ≡ get_or (places xs found (inner (get_or found i (variable 0)))) j 0

-- and the terms found are different function terms over the signature and the variables xs, with the function terms within them
pub record Lifts (g : Signature) (xs : List ℕ) (found : List Term) (t : Table) : Type 0 where
  pub holds : Holds xs found t
  pub applied : all is_apply found ≡ true
  pub ok : all (term_ok g) found ≡ true
  pub own : all (λ u. within xs (term_variables u)) found ≡ true
  pub closed : all (covered found) found ≡ true
  pub once : different found ≡ true
