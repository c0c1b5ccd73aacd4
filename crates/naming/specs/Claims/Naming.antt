-- Naming: the models of the mode's problem are, one to one, the models of the sheet's, each with the value of every named term added.
use Rattle.std.specs.Prelude.{ℕ, zero, ◌+◌, ◌*◌, ◌<◌, ◌≡◌, ◌↔◌, true, List, ◌++◌, map, length}
use Rattle.theory.specs.Lists.{all}
use Rattle.theory.specs.Syntax.{Signature, all_declared, Term, term_ok, clause_ok}
use Rattle.theory.specs.Grammar.{term_words}
use Rattle.theory.specs.Flattening.{same_term}
use Rattle.theory.specs.Truth.{value}
use Rattle.theory.specs.Cells.{interpretation}
use Rattle.theory.specs.Propositional.{prop_count}
use Rattle.theory.specs.Problem.{Problem}
use Rattle.theory.specs.Claims.Least.{ModelCells}
use Rattle.naming.specs.FixedTerms.{named_terms}
use Rattle.naming.specs.NamedProblem.{in_mode, shown_symbols, shown_values}

-- the value of a term without variables: any assignment will do
abbrev pub fixed_value : ℕ → Signature → List ℕ → Term → ℕ
fixed_value s g vs t = value (interpretation s g vs) (λ x. 0) t

-- cell values of the sheet's symbols, and after them for each helper the value of its term
unfoldable pub extended : ℕ → Problem → List ℕ → List ℕ
extended s p vs = vs ++ map (fixed_value s p.symbols vs) (named_terms p.clauses)

-- a problem as a sheet says it: its symbols are declared, and its clauses are over them
pub record Sheet (p : Problem) : Type 0 where
  pub declared : all_declared p.symbols ≡ true
  pub clauses : all (clause_ok p.symbols) p.clauses ≡ true

-- the theorem, of one problem and size
pub record Naming (p : Problem) (s : ℕ) : Type 0 where
  -- a case shows the sheet's symbols
  pub symbols : shown_symbols (in_mode p).symbols ≡ p.symbols
  -- V counts s variables for each helper
  pub variables : prop_count s (in_mode p).symbols ≡ prop_count s p.symbols + length (named_terms p.clauses) * s
  -- the mode's clauses are over the mode's symbols
  pub clauses : all (clause_ok (in_mode p).symbols) (in_mode p).clauses ≡ true
  -- a model of the sheet's clauses, extended, is a model of the mode's, and the case shows what was extended
  pub extends : (vs : List ℕ) → ModelCells p s vs → ModelCells (in_mode p) s (extended s p vs) × (shown_values s (in_mode p).symbols (extended s p vs) ≡ vs)
  -- a model of the mode's clauses shows a model of the sheet's, and is that model extended
  pub restricts : (ws : List ℕ) → ModelCells (in_mode p) s ws → ModelCells p s (shown_values s (in_mode p).symbols ws) × (extended s p (shown_values s (in_mode p).symbols ws) ≡ ws)

-- it holds of every such problem where the domain has an element
abbrev pub NamingHolds : Type 0
NamingHolds = (p : Problem) (s : ℕ) → zero < s → Sheet p → Naming p s

-- terms that share a helper are those written alike, word for word
abbrev pub WordForWord : Type 0
WordForWord = (g : Signature) (t u : Term) → term_ok g t ≡ true → term_ok g u ≡ true → (same_term t u ≡ true) ↔ (term_words t ≡ term_words u)
