-- Runs of lines of a text: where they stand.
use Rattle.std.specs.Prelude.{ℕ, ◌+◌, ◌≤◌, ◌≡◌, List, length, take, drop}
use Rattle.theory.specs.Lists.{concat_map}
use Rattle.theory.specs.Problem.{max_bytes}
use Rattle.sheet_merging.specs.Sheets.{cut_lines, ended}
use Rattle.uniting.specs.declared.runs.Run.{Run}

-- each line of the text is ended by its LF, and the text is no longer than a sheet may be
pub record Lined (text : List ℕ) : Type 0 where
  pub whole : concat_map ended (cut_lines text) ≡ text
  pub short : length text ≤ max_bytes

-- `at` is the place after n lines
pub record StartsAt (text : List ℕ) (n at : ℕ) : Type 0 where
  pub within : at ≤ length text
  pub here : drop at text ≡ concat_map ended (drop n (cut_lines text))

-- the run stands in the text where it says
pub record RunOf (text : List ℕ) (r : Run) : Type 0 where
  pub lined : Lined text
  pub within : r.line + r.count ≤ length (cut_lines text)
  pub from : StartsAt text r.line r.from
  pub to : StartsAt text (r.line + r.count) r.to

-- the lines of the run
unfoldable pub run_lines : List ℕ → Run → List (List ℕ)
run_lines text r = take r.count (drop r.line (cut_lines text))
