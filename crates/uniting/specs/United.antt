-- Two sheets made one, kind by kind: what is known of the joined lines, and their text.
use Rattle.std.specs.Prelude.{ℕ, ◌+◌, ◌≤◌, ◌≡◌, List, [], ◌++◌, length}
use Rattle.theory.specs.Lists.{same}
use Rattle.theory.specs.Bytes.{bytes, decimal}
use Rattle.theory.specs.SheetText.{line}
use Rattle.theory.specs.Refusals.{answer}
use Rattle.theory.specs.Problem.{read_problem}
use Rattle.syntax.specs.declared.limits.Problem.{Problem}
use Rattle.problem.specs.Problems.{problem_in, Accepted}
use Rattle.sheet_merging.specs.Sheets.{Sheet, sheet_of, declaration_lines, section_text}
use Rattle.sheet_merging.specs.Merging.{joined}
use Rattle.uniting.specs.declared.joins.Join.{Join}
use Rattle.uniting.specs.declared.united.United.{United}
use Rattle.uniting.specs.Joins.{JoinOf, joined_lines}

-- the text is a sheet, and the problem is what was read of it
pub record Sheeted (text : List ℕ) (p : Problem) : Type 0 where
  pub accepted : Accepted text p
  pub read : read_problem text ≡ answer (problem_in text p)

-- the sheet taken apart
abbrev pub sheet_in : List ℕ → Problem → Sheet
sheet_in text p = sheet_of (problem_in text p) text

-- the runs stand in their texts, and are measured
pub record JoinsOf (first second : List ℕ) (u : United) : Type 0 where
  pub functions : JoinOf first second u.functions
  pub predicates : JoinOf first second u.predicates
  pub clauses : JoinOf first second u.clauses

-- and they are the lines of the two sheets
pub record UnitedOf (first : List ℕ) (p : Problem) (second : List ℕ) (q : Problem) (u : United) : Type 0 where
  pub joins : JoinsOf first second u
  pub functions : joined_lines first second u.functions ≡ joined same (declaration_lines (bytes "fun=") (sheet_in first p).functions) (declaration_lines (bytes "fun=") (sheet_in second q).functions)
  pub predicates : joined_lines first second u.predicates ≡ joined same (declaration_lines (bytes "pred=") (sheet_in first p).predicates) (declaration_lines (bytes "pred=") (sheet_in second q).predicates)
  pub clauses : joined_lines first second u.clauses ≡ joined same (sheet_in first p).lines (sheet_in second q).lines

-- the text of the lines
unfoldable pub united_text : List ℕ → List ℕ → United → List ℕ
united_text first second u =
    line (bytes "sheet=1") []
    ++ (section_text (bytes "funs=") (joined_lines first second u.functions)
    ++ (section_text (bytes "preds=") (joined_lines first second u.predicates)
    ++ section_text (bytes "clauses=") (joined_lines first second u.clauses)))

-- lines of no more count and bytes than two sheets can have
pub record Small (j : Join) : Type 0 where
  pub few : j.all.count ≤ 32768
  pub short : j.all.bytes ≤ 32768

pub record Moderate (u : United) : Type 0 where
  pub functions : Small u.functions
  pub predicates : Small u.predicates
  pub clauses : Small u.clauses

-- the length of a section by what was measured
abbrev pub section_length : List ℕ → Join → ℕ
section_length key j = length (line key (decimal j.all.count)) + j.all.bytes

-- the length of the text by what was measured
abbrev pub measured_length : United → ℕ
measured_length u = 8 + section_length (bytes "funs=") u.functions + section_length (bytes "preds=") u.predicates + section_length (bytes "clauses=") u.clauses
