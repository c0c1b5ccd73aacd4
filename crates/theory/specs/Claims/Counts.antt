-- CountsSuffice: what is written is within I and L, numbers of variables within V, and texts have the lengths that document 01 gives.
use Rattle.std.specs.Prelude.{ℕ, zero, ◌≤◌, ◌<◌, ◌≡◌, Bool, true, ◌&&◌, List, map, leb, length}
use Rattle.theory.specs.Lists.{all, sum}
use Rattle.theory.specs.Syntax.{Signature, Clause, clause_ok}
use Rattle.theory.specs.Cells.{is_interpretation}
use Rattle.theory.specs.Propositional.{PropLiteral, prop_count}
use Rattle.theory.specs.PropClauses.{prop_clauses, instance_count, literal_count}
use Rattle.theory.specs.Refusals.{answer}
use Rattle.theory.specs.Problem.{Problem, read_problem}
use Rattle.theory.specs.CaseText.{case_text, case_length}

-- the literal's number is one of 1 to v
abbrev pub is_numbered : ℕ → PropLiteral → Bool
is_numbered v l = leb 1 l.number && leb l.number v

-- the theorem
pub record CountsSuffice : Type 0 where
  -- at most I clauses are written
  pub clauses : (s : ℕ) (g : Signature) (cs : List Clause) → length (prop_clauses s g cs) ≤ instance_count s g cs
  -- and at most L literals
  pub literals : (s : ℕ) (g : Signature) (cs : List Clause) → sum (map length (prop_clauses s g cs)) ≤ literal_count s g cs
  -- every written number is one of 1 to V
  pub numbers : (s : ℕ) (g : Signature) (cs : List Clause) → zero < s → all (clause_ok g) cs ≡ true → all (all (is_numbered (prop_count s g))) (prop_clauses s g cs) ≡ true
  -- a case has the length that document 01 gives
  pub case_lengths : (s : ℕ) (g : Signature) (vs : List ℕ) → zero < s → is_interpretation s g vs ≡ true → length (case_text s g vs) ≡ case_length s g
  -- no case of a sheet is longer than 24,902 bytes
  pub longest : (sheet : List ℕ) (p : Problem) (s : ℕ) → read_problem sheet ≡ answer p → s ≤ 8 → case_length s p.symbols ≤ 24902
