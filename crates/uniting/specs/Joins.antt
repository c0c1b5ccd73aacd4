-- Lines of both sheets made one, and what is known of their count and length.
use Rattle.std.specs.Prelude.{ℕ, ◌≤◌, ◌≡◌, List, length}
use Rattle.theory.specs.Lists.{concat_map, same}
use Rattle.sheet_merging.specs.Sheets.{ended}
use Rattle.sheet_merging.specs.Merging.{new_to, joined}
use Rattle.uniting.specs.declared.joins.Lines.{Lines}
use Rattle.uniting.specs.declared.joins.Join.{Join}
use Rattle.uniting.specs.Runs.{RunOf, run_lines}

-- the lines ys that are new to xs, each with its LF
abbrev pub new_text : List (List ℕ) → List (List ℕ) → List ℕ
new_text xs ys = concat_map ended (new_to same xs ys)

-- the lines of both runs made one
abbrev pub joined_lines : List ℕ → List ℕ → Join → List (List ℕ)
joined_lines first second j = joined same (run_lines first j.first) (run_lines second j.second)

-- the lines' count and their bytes
pub record Measured (ls : List (List ℕ)) (r : Lines) : Type 0 where
  pub count : r.count ≡ length ls
  pub bytes : r.bytes ≡ length (concat_map ended ls)

-- the two runs stand in their texts, and their lines made one are measured
pub record JoinOf (first second : List ℕ) (j : Join) : Type 0 where
  pub own : RunOf first j.first
  pub other : RunOf second j.second
  pub measured : Measured (joined_lines first second j) j.all
  pub few : j.all.count ≤ 32768
  pub short : j.all.bytes ≤ 32768
