-- Renumber and Least form: the text that each leaves of a case of a sheet (document 02, slip 13).
use Rattle.std.specs.Prelude.{ℕ, suc, ◌-◌, Bool, ◌&&◌, List, map, leb, ltb}
use Rattle.theory.specs.Lists.{all}
use Rattle.theory.specs.Refusals.{Answer, answer, unplaced, needing, ◌>>=◌, check}
use Rattle.theory.specs.CaseText.{case_text, case_length}
use Rattle.theory.specs.Columns.{placed_problem, placed_case}
use Rattle.renumbering.specs.Rearrangements.{is_rearrangement}
use Rattle.renumbering.specs.Renumbering.{renumbered}
use Rattle.renumbering.specs.LeastForm.{least_form}

-- the entries that a list of bytes is: byte b is the element b - 1
abbrev pub entries_of : List ℕ → List ℕ
entries_of list = map (λ b. b - 1) list

-- the list of bytes of these entries
abbrev pub list_of : List ℕ → List ℕ
list_of p = map suc p

-- the list is a rearrangement of 1 to s; otherwise refusal 25
unfoldable pub is_listed : ℕ → List ℕ → Bool
is_listed s list = all (λ b. ltb 0 b) list && is_rearrangement s (entries_of list)

-- the text that Renumber leaves, given an output of so many bytes: the case renumbered by the list, at the case's own size
unfoldable pub renumbered_text : List ℕ → List ℕ → List ℕ → ℕ → Answer (List ℕ)
renumbered_text sheet case list room = do
  p ← placed_problem sheet
  k ← placed_case p.symbols case
  _ ← check (is_listed k.size list) (unplaced 25)
  _ ← check (leb (case_length k.size p.symbols) room) (needing 11 (case_length k.size p.symbols))
  answer (case_text k.size p.symbols (renumbered k.size p.symbols (entries_of list) k.values))

-- the text that Least form leaves, given an output of so many bytes: the first in value order of all renumberings of the case
unfoldable pub least_form_text : List ℕ → List ℕ → ℕ → Answer (List ℕ)
least_form_text sheet case room = do
  p ← placed_problem sheet
  k ← placed_case p.symbols case
  _ ← check (leb (case_length k.size p.symbols) room) (needing 11 (case_length k.size p.symbols))
  answer (case_text k.size p.symbols (least_form k.size p.symbols k.values))
