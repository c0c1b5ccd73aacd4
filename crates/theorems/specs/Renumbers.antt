-- Renumber and Least form, of the calls (document 02, slip 13): a renumbered model is a model; one list after another equals the composed list; the reverse list brings the case back;
-- and two cases of one sheet have the same least form exactly if some list turns one into the other.
use Rattle.std.specs.Prelude.{ℕ, ◌≤◌, ◌<◌, ◌≡◌, ◌↔◌, List, length, get_or}
use Rattle.theory.specs.Refusals.{answer, refused, unplaced}
use Rattle.theory.specs.Problem.{Problem, read_problem}
use Rattle.theory.specs.CaseText.{Case, read_case}
use Rattle.theory.specs.Claims.Least.{NotAfter}
use Rattle.renumbered_cases.specs.Claims.RenumberedCases.{composed_list, reversed_list}
use Rattle.answers.specs.Answers.{JudgeAnswer, WriteAnswer, judge_in, length_in}
use Rattle.answers.specs.Calls.{JudgeCall}
use Rattle.case_forms.specs.Calls.{RenumberCall, LeastFormCall}
use Rattle.theorems.specs.Leaving.{Leaves}
use Rattle.theorems.specs.Models.{Model}

-- some call of Renumber leaves this text of the case and the list
pub record RenumberedAs (sheet case list turned : List ℕ) : Type 0 where
  pub answer : WriteAnswer
  pub output : List ℕ
  pub output' : List ℕ
  pub call : RenumberCall sheet case list answer output output'
  pub leaves : Leaves answer output' turned

-- every call of Renumber with an output as long as the case leaves this text of the case and the list
abbrev pub AlwaysRenumberedAs : List ℕ → List ℕ → List ℕ → List ℕ → Type 0
AlwaysRenumberedAs sheet case list turned =
    (r : WriteAnswer) (output output' : List ℕ) → RenumberCall sheet case list r output output' → length case ≤ length output → Leaves r output' turned

-- some call of Least form leaves this text of the case
pub record LeastFormAs (sheet case form : List ℕ) : Type 0 where
  pub answer : WriteAnswer
  pub output : List ℕ
  pub output' : List ℕ
  pub call : LeastFormCall sheet case answer output output'
  pub leaves : Leaves answer output' form

-- the list is each of the numbers 1 to s once
pub record EachOnce (s : ℕ) (list : List ℕ) : Type 0 where
  pub long : length list ≡ s
  pub among : (i : ℕ) → i < s → (1 ≤ get_or list i 0) × (get_or list i 0 ≤ s)
  pub there : (b : ℕ) → 1 ≤ b → b ≤ s → (i : ℕ) × (i < s) × (get_or list i 0 ≡ b)
  pub once : (i j : ℕ) → i < s → j < s → get_or list i 0 ≡ get_or list j 0 → i ≡ j

-- of one sheet
pub record RenumberCalls (sheet : List ℕ) : Type 0 where
  -- a renumbered model is a model
  pub model : (p : Problem) (size : ℕ) (case list turned : List ℕ) → read_problem sheet ≡ answer p → RenumberedAs sheet case list turned → Model p size case → Model p size turned
  -- Judge answers a case and the renumbered case alike
  pub judged : (case list turned : List ℕ) → RenumberedAs sheet case list turned → (r q : JudgeAnswer) → JudgeCall sheet case r → JudgeCall sheet turned q → judge_in q ≡ judge_in r
  -- 25 is answered exactly if the list is not each of 1 to the case's size once
  pub listed : (p : Problem) (k : Case) (case list : List ℕ) → read_problem sheet ≡ answer p → read_case p.symbols case ≡ answer k
      → (r : WriteAnswer) (output output' : List ℕ) → RenumberCall sheet case list r output output' → (length_in r ≡ refused (unplaced 25)) ↔ (EachOnce k.size list → ⊥)
  -- one list after another equals the composed one
  pub composes : (case list turned next last : List ℕ) → RenumberedAs sheet case list turned → RenumberedAs sheet turned next last → AlwaysRenumberedAs sheet case (composed_list list next) last
  -- the reverse brings the case back
  pub comes_back : (case list turned : List ℕ) → RenumberedAs sheet case list turned → AlwaysRenumberedAs sheet turned (reversed_list list) case
  -- the least form is a renumbering of the case, and no renumbering comes before it in value order
  pub reached : (case form : List ℕ) → LeastFormAs sheet case form → (list : List ℕ) × AlwaysRenumberedAs sheet case list form
  pub least : (p : Problem) (case form list turned : List ℕ) (k j : Case) → read_problem sheet ≡ answer p → LeastFormAs sheet case form → read_case p.symbols form ≡ answer k
      → RenumberedAs sheet case list turned → read_case p.symbols turned ≡ answer j → NotAfter k.values j.values
  -- least forms are equal exactly when some list turns one case into the other
  pub equal : (case form other form' : List ℕ) → LeastFormAs sheet case form → LeastFormAs sheet other form' → (form ≡ form') ↔ ((list : List ℕ) × RenumberedAs sheet case list other)

-- it holds of every sheet
abbrev pub RenumberCallsHold : Type 0
RenumberCallsHold = (sheet : List ℕ) → RenumberCalls sheet
