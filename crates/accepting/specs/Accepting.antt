-- What From solver answers once sheet and size are accepted, and what its steps are lent.
use Rattle.std.specs.Prelude.{ℕ, ◌≤◌, ◌≡◌, true, List, length}
use Rattle.theory.specs.Refusals.{Answer, unplaced, ◌>>=◌, or_refuse}
use Rattle.theory.specs.Problem as theory
use Rattle.theory.specs.Propositional.{prop_count}
use Rattle.theory.specs.Valuation.{is_valuation, is_functional}
use Rattle.syntax.specs.declared.limits.Problem.{Problem}
use Rattle.syntax.specs.Signatures.{signature_in}
use Rattle.problem.specs.Problems.{problem_in, Accepted}
use Rattle.valuations.specs.declared.numbering.Numbering.{Numbering}
use Rattle.valuations.specs.Numbers.{NumberingOf}
use Rattle.solver.specs.Replies.{read_reply}
use Rattle.solver.specs.SolverText.{Outcome, stated_case, outcome_of}
use Rattle.accepting.specs.Calls.{SolverAnswer, OutcomeCall}

-- 18, then what comes of the reply, given an output of so many bytes
unfoldable pub reply_outcome : theory.Problem → ℕ → List ℕ → ℕ → Answer (Outcome (List ℕ))
reply_outcome p size text room = do
  r ← or_refuse (read_reply (prop_count size p.symbols) text) (unplaced 18)
  outcome_of p size room r

-- what is answered and left for a text, at the problem that the sheet was read to
abbrev pub ReplyCall : List ℕ → Problem → ℕ → List ℕ → SolverAnswer → List ℕ → List ℕ → Type 0
ReplyCall sheet p size text r output output' = OutcomeCall (reply_outcome (problem_in sheet p) size text (length output)) r output output'

-- what is answered and left for a setting that is stated
abbrev pub StatedCall : List ℕ → Problem → ℕ → List ℕ → SolverAnswer → List ℕ → List ℕ → Type 0
StatedCall sheet p size setting r output output' = OutcomeCall (stated_case (problem_in sheet p) size (length output) setting) r output output'

-- a problem that was read, and a size; it has no more variables than 12 functions and 12 predicates of three arguments
pub record SizedProblem (sheet : List ℕ) (p : Problem) (s : ℕ) : Type 0 where
  pub positive : 1 ≤ s
  pub size : s ≤ 8
  pub bytes : length sheet ≤ 16384
  pub accepted : Accepted sheet p
  pub few : prop_count s (signature_in sheet p.signature) ≤ 55296

-- a setting of its variables
pub record SettingLent (sheet : List ℕ) (p : Problem) (n : Numbering) (s : ℕ) (setting : List ℕ) : Type 0 where
  pub sized : SizedProblem sheet p s
  pub numbered : (sheet : List ℕ) → NumberingOf (signature_in sheet p.signature) s n
  pub valuation : is_valuation s (signature_in sheet p.signature) setting ≡ true

-- it gives each function cell one result
pub record FunctionalSetting (sheet : List ℕ) (p : Problem) (n : Numbering) (s : ℕ) (setting : List ℕ) : Type 0 where
  pub lent : SettingLent sheet p n s setting
  pub functional : is_functional s (signature_in sheet p.signature) setting ≡ true
