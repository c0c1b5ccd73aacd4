use Prim.Native.Nat.{◌-◌}
use mathlib.Core.Path.{◌≡◌}
use lib.ListN as list
use Rattle.argument_lists.specs.Lists.{KeepsSlices}
use Rattle.importing.proofs.Surveying.{SurveyedTo}
use Rattle.importing.proofs.survey.survey_statements.Given as goal

-- `survey_statements` takes one whole statement after the other.
abbrev pub invariant-loop-place : goal.invariant-loop-place
invariant-loop-place l =
    SurveyedTo l.text l.table l.count l.length l.at l.lines × ((list.length l.lines ≡ list.length l.initial.lines) × KeepsSlices l.fn.lists l.lists)

abbrev pub decreases-loop-place : goal.decreases-loop-place
decreases-loop-place l =
    list.length l.text - l.at
