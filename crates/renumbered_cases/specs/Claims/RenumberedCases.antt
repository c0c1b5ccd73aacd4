-- Renumbered cases, as texts: a renumbered case is judged as the case is; one list after another is the composed list; the reverse list brings the case back; and two cases have the
-- same least form exactly if some list turns one into the other.
use Rattle.std.specs.Prelude.{ℕ, ◌≤◌, ◌≡◌, ◌↔◌, List, length}
use Rattle.theory.specs.Refusals.{answer}
use Rattle.theory.specs.Problem.{Problem, read_problem}
use Rattle.theory.specs.CaseText.{Case, read_case}
use Rattle.theory.specs.Operations.{judge_answer}
use Rattle.theory.specs.Claims.Least.{NotAfter}
use Rattle.renumbering.specs.Rearrangements.{composed, reversed}
use Rattle.renumbered_cases.specs.RenumberedCases.{entries_of, list_of, renumbered_text, least_form_text}

-- a list, and after it another
abbrev pub composed_list : List ℕ → List ℕ → List ℕ
composed_list list next = list_of (composed (entries_of list) (entries_of next))

-- the reverse of a list
abbrev pub reversed_list : List ℕ → List ℕ
reversed_list list = list_of (reversed (length list) (entries_of list))

-- in every output that is as long as the case Renumber leaves this text of it
abbrev pub LeavesRenumbered : List ℕ → List ℕ → List ℕ → List ℕ → Type 0
LeavesRenumbered sheet case list turned = (room : ℕ) → length case ≤ room → renumbered_text sheet case list room ≡ answer turned

-- the theorem, of one sheet
pub record RenumberedCases (sheet : List ℕ) : Type 0 where
  -- what is left in one output is left in every output that is as long as the case; it is a case of the same size
  pub always : (case list turned : List ℕ) (room : ℕ) → renumbered_text sheet case list room ≡ answer turned → LeavesRenumbered sheet case list turned
  pub sized : (p : Problem) (case list turned : List ℕ) (room : ℕ) (k : Case) → read_problem sheet ≡ answer p → read_case p.symbols case ≡ answer k
      → renumbered_text sheet case list room ≡ answer turned → (j : Case) × (read_case p.symbols turned ≡ answer j) × (j.size ≡ k.size)
  -- a renumbered model is a model, and what is no model stays none
  pub judged : (case list turned : List ℕ) (room : ℕ) → renumbered_text sheet case list room ≡ answer turned → judge_answer sheet turned ≡ judge_answer sheet case
  -- one list after another equals the composed one
  pub composes : (case list turned next last : List ℕ) (room room' : ℕ) → renumbered_text sheet case list room ≡ answer turned → renumbered_text sheet turned next room' ≡ answer last
      → LeavesRenumbered sheet case (composed_list list next) last
  -- the reverse brings the case back
  pub comes_back : (case list turned : List ℕ) (room : ℕ) → renumbered_text sheet case list room ≡ answer turned → LeavesRenumbered sheet turned (reversed_list list) case
  -- the least form of a case is a renumbering of it, and no renumbering comes before it in value order
  pub reached : (case form : List ℕ) (room : ℕ) → least_form_text sheet case room ≡ answer form → (list : List ℕ) × LeavesRenumbered sheet case list form
  pub least : (p : Problem) (case form list turned : List ℕ) (room room' : ℕ) (k j : Case) → read_problem sheet ≡ answer p
      → least_form_text sheet case room ≡ answer form → read_case p.symbols form ≡ answer k
      → renumbered_text sheet case list room' ≡ answer turned → read_case p.symbols turned ≡ answer j → NotAfter k.values j.values
  -- least forms are equal exactly when some list turns one case into the other
  pub equal : (case form other form' : List ℕ) (room room' : ℕ) → least_form_text sheet case room ≡ answer form → least_form_text sheet other room' ≡ answer form'
      → (form ≡ form') ↔ ((list : List ℕ) × LeavesRenumbered sheet case list other)

-- it holds of every sheet
abbrev pub RenumberedCasesHold : Type 0
RenumberedCasesHold = (sheet : List ℕ) → RenumberedCases sheet
