-- Reading a sheet in the mode: its symbols and clauses as handed in, or its refusal. Limit 7 is measured on the clauses that the mode has; 21 comes after all sheet numbers.
use Rattle.std.specs.Prelude.{ℕ, zero, suc, ◌+◌, Bool, cond, List, [], ◌∷◌, eqb, leb, length}
use Rattle.theory.specs.Lists.{all}
use Rattle.theory.specs.Bytes.{bytes}
use Rattle.theory.specs.Lines.{words_of}
use Rattle.theory.specs.Syntax.{function, predicate, Signature, Clause}
use Rattle.theory.specs.Grammar.{clause_words, read_clause}
use Rattle.theory.specs.Refusals.{Answer, answer, at_line, unplaced, ◌>>=◌, check, or_refuse}
use Rattle.theory.specs.Problem.{max_bytes, max_symbols, max_clauses, key_line, count_line, symbol_lines, read_all, within_limits, Problem, nothing_left}
use Rattle.theory.specs.Columns.{sheet_column, with_columns}
use Rattle.naming.specs.FixedTerms.{named_terms, named_clauses}

-- the most helpers
abbrev pub max_helpers : ℕ
max_helpers = 32

-- at most 64 words, 16 literals, and 10 variables after flattening
abbrev pub is_within : Clause → Bool
is_within c = within_limits (clause_words c) c

-- limit 7 of the mode, of one line's clause where n symbols are declared: the clauses that the mode has for this clause alone are within the limits.
-- A term that first stood on an earlier line was measured there, and which constant names it makes no difference (Claims/Reading: limits).
unfoldable pub is_within_named : ℕ → Clause → Bool
is_within_named n c = all is_within (named_clauses n (c ∷ []))

-- the clause, as written, of what follows a clause line's key
unfoldable pub named_clause_of : Signature → ℕ → List ℕ → Answer Clause
named_clause_of g l v = do
  ws ← or_refuse (read_all g (words_of v)) (at_line 5 l)
  c ← or_refuse (read_clause g ws) (at_line 6 l)
  _ ← check (is_within_named (length g) c) (at_line 7 l)
  answer c

-- n lines of clauses from line l on, and the text after them
unfoldable pub named_clause_lines : ℕ → Signature → ℕ → List ℕ → Answer ((List Clause) × List ℕ)
named_clause_lines zero g l text = answer ([], text)
named_clause_lines (suc n) g l text = do
  p ← key_line (bytes "clause=") l text
  c ← named_clause_of g l p.0
  r ← named_clause_lines n g (suc l) p.1
  answer (c ∷ r.0, r.1)

-- the sheet's symbols and clauses as handed in, all checks but 7 those of the plain reader; then 21
unfoldable pub read_named : List ℕ → Answer Problem
read_named text = do
  _ ← check (leb (length text) max_bytes) (unplaced 1)
  a ← key_line (bytes "sheet=1") 1 text
  _ ← nothing_left 1 a.0
  f ← count_line (bytes "funs=") max_symbols 2 a.1
  fs ← symbol_lines f.0 (bytes "fun=") function [] 3 f.1
  p ← count_line (bytes "preds=") max_symbols (3 + f.0) fs.1
  g ← symbol_lines p.0 (bytes "pred=") predicate fs.0 (4 + f.0) p.1
  c ← count_line (bytes "clauses=") max_clauses (4 + f.0 + p.0) g.1
  cs ← named_clause_lines c.0 g.0 (5 + f.0 + p.0) c.1
  _ ← nothing_left (5 + f.0 + p.0 + c.0) cs.1
  _ ← check (leb (length (named_terms cs.0)) max_helpers) (unplaced 21)
  answer (record { symbols = g.0; clauses = cs.0 })

-- the column of a refusal in the mode: its number, its line; 1 for 7, else the plain one
unfoldable pub named_column : List ℕ → ℕ → ℕ → ℕ
named_column sheet n zero = 0
named_column sheet n (suc l) = cond (eqb n 7) 1 (sheet_column sheet n (suc l))

-- what is read in the mode, or the refusal with line and column
unfoldable pub placed_named : List ℕ → Answer Problem
placed_named sheet = with_columns (named_column sheet) (read_named sheet)
