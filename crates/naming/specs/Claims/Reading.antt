-- Reading: what the mode reads is what the plain reader reads, where neither refuses; what is taken is within the mode's limits; and on which line a 7 stands.
use Rattle.std.specs.Prelude.{ℕ, ◌+◌, ◌≤◌, ◌≡◌, true, false, List, [], ◌∷◌, ◌++◌, length}
use Rattle.std.proofs.Math.Option.{some}
use Rattle.theory.specs.Lists.{all}
use Rattle.theory.specs.Bytes.{bytes}
use Rattle.theory.specs.Lines.{Cut, words_of}
use Rattle.theory.specs.Syntax.{Signature, Clause, clause_ok}
use Rattle.theory.specs.Grammar.{Word, read_clause}
use Rattle.theory.specs.Refusals.{answer, refused, at_line}
use Rattle.theory.specs.Problem.{key_line, read_all, Problem, read_problem}
use Rattle.naming.specs.FixedTerms.{named_terms, named_clauses}
use Rattle.naming.specs.NamedProblem.{in_mode}
use Rattle.naming.specs.NamedReading.{max_helpers, is_within, named_clause_lines, read_named}

-- the theorem, of one sheet
pub record Reading (sheet : List ℕ) : Type 0 where
  -- both readers give the same symbols and clauses
  pub same : (p q : Problem) → read_problem sheet ≡ answer p → read_named sheet ≡ answer q → p ≡ q
  -- clauses that are taken are over the symbols
  pub clauses : (p : Problem) → read_named sheet ≡ answer p → all (clause_ok p.symbols) p.clauses ≡ true
  -- there are at most 32 helpers
  pub helpers : (p : Problem) → read_named sheet ≡ answer p → length (named_terms p.clauses) ≤ max_helpers
  -- and the clauses that the mode has, the helpers' own and the shortened ones, are within document 01's limits
  pub limits : (p : Problem) → read_named sheet ≡ answer p → all is_within (in_mode p).clauses ≡ true
  -- nothing else is refused of what the plain reader takes
  pub takes : (p : Problem) → read_problem sheet ≡ answer p → all is_within (in_mode p).clauses ≡ true → length (named_terms p.clauses) ≤ max_helpers → read_named sheet ≡ answer p

-- line l of the clause lines from line `first` on is the first with which the clauses that the mode has are not within document 01's limits
pub record OverLine (g : Signature) (first : ℕ) (text : List ℕ) (l : ℕ) : Type 0 where
  -- the lines before it are taken
  pub before : ℕ
  pub here : l ≡ first + before
  pub clauses : List Clause
  pub rest : List ℕ
  pub taken : named_clause_lines before g first text ≡ answer (clauses, rest)
  -- and it has a clause
  pub line : Cut
  pub cut : key_line (bytes "clause=") l rest ≡ answer line
  pub words : List Word
  pub known : read_all g (words_of line.0) ≡ some words
  pub clause : Clause
  pub read : read_clause g words ≡ some clause
  -- with the clauses before it the mode is within the limits, with this one too it is not
  pub within : all is_within (named_clauses (length g) clauses) ≡ true
  pub over : all is_within (named_clauses (length g) (clauses ++ (clause ∷ []))) ≡ false

-- there a 7 stands
abbrev pub SevenStands : Type 0
SevenStands = (n : ℕ) (g : Signature) (first : ℕ) (text : List ℕ) (l : ℕ) → named_clause_lines n g first text ≡ refused (at_line 7 l) → OverLine g first text l
