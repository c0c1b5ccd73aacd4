-- Finding: Find in the mode gives the same answers as plain, where neither is refused.
use Rattle.std.specs.Prelude.{ℕ, zero, ◌≤◌, ◌<◌, ◌≡◌, true, false, List}
use Rattle.std.proofs.Math.Option.{Option, none, some}
use Rattle.theory.specs.Syntax.{Signature}
use Rattle.theory.specs.Refusals.{answer}
use Rattle.theory.specs.Problem.{Problem}
use Rattle.theory.specs.Least.{least_model, smallest_model, settled}
use Rattle.theory.specs.Walk.{searched}
use Rattle.theory.specs.Operations.{Search, search_of}
use Rattle.theory.specs.Claims.Walk.{read_back_found}
use Rattle.naming.specs.NamedProblem.{in_mode, shown_values}
use Rattle.naming.specs.NamedOperations.{named_search_of, find_result_in}
use Rattle.naming.specs.Claims.Naming.{Sheet}

-- what a case shows of cell values, if there are any
abbrev pub shown_found : ℕ → Signature → Option (List ℕ) → Option (List ℕ)
shown_found s g none = none
shown_found s g (some ws) = some (shown_values s g ws)

-- on lists, of one problem
pub record Finding (p : Problem) : Type 0 where
  -- the least model of the mode's clauses shows the least model of the sheet's, and there is none exactly if there is none
  pub least : (s : ℕ) → zero < s → shown_found s (in_mode p).symbols (least_model s (in_mode p)) ≡ least_model s p
  -- the walk over the mode's clauses, helpers tried yes first as all functions, shows it too
  pub walk : (s : ℕ) → zero < s → shown_found s (in_mode p).symbols (read_back_found s (in_mode p) (searched s (in_mode p)).answer) ≡ least_model s p
  -- helpers do not touch the mark settled
  pub mark : (low high : ℕ) → settled (in_mode p) low high ≡ settled p low high
  -- what Find finds in the mode is what is found for the sheet as handed in: size, case and mark
  pub search : (low high : ℕ) → 1 ≤ low → named_search_of (in_mode p) low high (smallest_model (in_mode p) low high) ≡ search_of p low high (smallest_model p low high)

-- it holds of every problem that a sheet says
abbrev pub FindingHolds : Type 0
FindingHolds = (p : Problem) → Sheet p → Finding p

-- on bytes: the same answer, whatever work and output are lent
abbrev pub SameAnswers : Type 0
SameAnswers = (sheet : List ℕ) (low high work room work⁺ room⁺ : ℕ) (r r⁺ : Search)
    → find_result_in false sheet low high work room ≡ answer r → find_result_in true sheet low high work⁺ room⁺ ≡ answer r⁺ → r ≡ r⁺
