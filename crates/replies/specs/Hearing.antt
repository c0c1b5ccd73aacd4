-- What the code holds of a reply that is being read: how far it is, and a mark for each variable.
use Rattle.std.specs.Prelude.{ℕ, Bool, cond, List, map, eqb, ltb, leb}
use Rattle.std.proofs.Math.Option.{Option, none, some}
use Rattle.theory.specs.Propositional.{PropLiteral}
use Rattle.theory.specs.Walk.{Partial}
use Rattle.theory.specs.Program.{◌>>?◌}
use Rattle.solver.specs.SolverLines.{read_positive}
use Rattle.solver.specs.Replies as solver
use Rattle.solver.specs.OnePass.{unanswered, refuted, listing, complete, Heard, heard}
use Rattle.replies.specs.declared.Reply.{Reply}
use Rattle.replies.specs.declared.Reply.TheVariants.{ClaimsNone, States, Bad}
use Rattle.replies.specs.declared.stages.Stage.{Stage}
use Rattle.replies.specs.declared.stages.Stage.TheVariants.{Unanswered, Refuted, Listing, Complete, Fault}

-- the value that a mark says: yes with 1, no with 0, none with any other byte
abbrev pub value_in : ℕ → Option Bool
value_in b = cond (ltb b 2) (some (eqb b 1)) none

-- the values of the variables
abbrev pub values_in : List ℕ → Partial
values_in marks = map value_in marks

-- what was read so far, if it is as laid out
abbrev pub heard_in : Stage → List ℕ → Option Heard
heard_in Unanswered marks = some (heard unanswered (values_in marks))
heard_in Refuted marks = some (heard refuted (values_in marks))
heard_in Listing marks = some (heard listing (values_in marks))
heard_in Complete marks = some (heard complete (values_in marks))
heard_in Fault marks = none

-- a reply: where it states a setting, the marks are the setting's bytes
abbrev pub reply_in : Reply → List ℕ → Option solver.Reply
reply_in ClaimsNone marks = some solver.claims_none
reply_in States marks = some (solver.states marks)
reply_in Bad marks = none

-- the literal of a variable, counted from 1
abbrev pub literal_for : Bool → ℕ → PropLiteral
literal_for b n = record { positive = b; number = n }

-- a number of at least 1 and at most v
unfoldable pub read_within : ℕ → List ℕ → Option ℕ
read_within v word = read_positive word >>? λ n. cond (leb n v) (some n) none
