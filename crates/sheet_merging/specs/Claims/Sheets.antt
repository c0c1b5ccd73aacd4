-- Sheets: every text that is read is exactly the text of the sheet taken apart from it, and each of its lines is a clause.
use Rattle.std.specs.Prelude.{ℕ, ◌<◌, ◌≡◌, List, [], ◌++◌, length, get_or}
use Rattle.theory.specs.Lists.{concat_map}
use Rattle.theory.specs.Bytes.{bytes}
use Rattle.theory.specs.Refusals.{answer}
use Rattle.theory.specs.Problem.{clause_of, Problem, read_problem}
use Rattle.sheet_merging.specs.Sheets.{cut_lines, sheet_of, ended, text_of}

-- the theorem, of a text and the problem read from it
pub record Sheets (text : List ℕ) (p : Problem) : Type 0 where
  -- no byte is lost
  pub exact : text_of (sheet_of p text) ≡ text
  -- the text is its lines, each with its LF
  pub lines : concat_map ended (cut_lines text) ≡ text
  -- as many clause lines as clauses
  pub counted : length (sheet_of p text).lines ≡ length p.clauses
  -- each of them is its key and what its clause is read from
  pub line : (i : ℕ) → i < length p.clauses
      → (v : List ℕ) × (get_or (sheet_of p text).lines i [] ≡ bytes "clause=" ++ v) × (clause_of p.symbols 0 v ≡ answer (get_or p.clauses i []))

-- it holds of every sheet that is read
abbrev pub SheetsHold : Type 0
SheetsHold = (text : List ℕ) (p : Problem) → read_problem text ≡ answer p → Sheets text p
