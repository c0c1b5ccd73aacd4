-- FindsObeying: what Find told yes answers, on bytes and in both modes. None means that no case of a searched size is a model; found is the least model among those that obey,
-- at the smallest size that has a model at all; and every model of a sheet has a renumbering that obeys.
use Rattle.std.specs.Prelude.{ℕ, ◌≤◌, ◌<◌, ◌≡◌, Bool, true, List}
use Rattle.theory.specs.Refusals.{Answer, answer}
use Rattle.theory.specs.Problem.{Problem}
use Rattle.theory.specs.Operations.{Search, found, nothing}
use Rattle.theory.specs.Claims.Least.{NotAfter}
use Rattle.theory.specs.Claims.Settling.{Unsatisfiable}
use Rattle.naming.specs.NamedOperations.{read_problem_in}
use Rattle.naming.specs.Claims.ReadingBack.{SheetModel}
use Rattle.renumbering.specs.Rearrangements.{is_rearrangement}
use Rattle.renumbering.specs.Renumbering.{renumbered}
use Rattle.symmetry.specs.Obeying.{obeys}
use Rattle.symmetry.specs.SymmetricOperations.{find_result_with}

-- a case text of this size that is a model of the sheet and obeys the constant clauses
pub record ObeyingText (p : Problem) (s : ℕ) (c : List ℕ) : Type 0 where
  pub model : SheetModel p s c
  pub obeying : obeys s p.symbols model.case.values ≡ true

-- of a text c found at size s: it is a model that obeys at a searched size; no smaller searched size has a model, obeying or not; and no model of its size that obeys comes before it
pub record LeastObeyingText (p : Problem) (low high s : ℕ) (c : List ℕ) : Type 0 where
  pub text : ObeyingText p s c
  pub searched : (low ≤ s) × (s ≤ high)
  pub smallest : (t : ℕ) (d : List ℕ) → low ≤ t → t < s → SheetModel p t d → ⊥
  pub least : (d : List ℕ) (m : ObeyingText p s d) → NotAfter text.model.case.values m.model.case.values

-- the theorem, of one search
pub record FindsObeying (p : Problem) (low high : ℕ) (answered : Answer Search) : Type 0 where
  pub finds : (s : ℕ) (c : List ℕ) → answered ≡ answer (found s c) → LeastObeyingText p low high s c
  pub finds_none : (b : Bool) → answered ≡ answer (nothing b) → (t : ℕ) (d : List ℕ) → low ≤ t → t ≤ high → SheetModel p t d → ⊥
  pub none_if : ((t : ℕ) (d : List ℕ) → low ≤ t → t ≤ high → SheetModel p t d → ⊥) → (s : ℕ) (c : List ℕ) → answered ≡ answer (found s c) → ⊥
  pub settles : answered ≡ answer (nothing true) → Unsatisfiable p

-- it holds of every search told yes, in both modes
abbrev pub FindsObeyingHolds : Type 0
FindsObeyingHolds = (named : Bool) (sheet : List ℕ) (p : Problem) (low high work room : ℕ) → read_problem_in named sheet ≡ answer p
    → FindsObeying p low high (find_result_with named true sheet low high work room)

-- of a model: the text of a renumbering of it that obeys
pub record RenumberedText (p : Problem) (s : ℕ) (values : List ℕ) : Type 0 where
  pub by : List ℕ
  pub rearrangement : is_rearrangement s by ≡ true
  pub text : List ℕ
  pub obeying : ObeyingText p s text
  pub turned : obeying.model.case.values ≡ renumbered s p.symbols by values

-- every model of a sheet has one
abbrev pub EveryModel : Type 0
EveryModel = (named : Bool) (sheet : List ℕ) (p : Problem) → read_problem_in named sheet ≡ answer p → (s : ℕ) (c : List ℕ) (m : SheetModel p s c) → RenumberedText p s m.case.values
