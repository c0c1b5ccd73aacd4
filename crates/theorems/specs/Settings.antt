-- Setting, of the calls (document 02, slip 3): Read back of what Setting left leaves the same case, Setting of what Read back left leaves the same setting, and the setting of a case
-- satisfies the clauses that Write left, not asked for the constant clauses, exactly if the case is a model.
use Rattle.std.specs.Prelude.{ℕ, ◌≤◌, ◌≡◌, ◌⊎◌, ◌↔◌, true, false, List, length}
use Rattle.theory.specs.Propositional.{prop_count}
use Rattle.theory.specs.Refusals.{answer, refused, unplaced}
use Rattle.theory.specs.Problem.{Problem, read_problem}
use Rattle.theory.specs.CaseText.{Case, case_length, read_case}
use Rattle.theory.specs.Operations.{is_size, content_of}
use Rattle.theory.specs.Claims.ReadingBack.{Satisfying}
use Rattle.answers.specs.Answers.{WriteAnswer, length_in}
use Rattle.answers.specs.Calls.{WriteCall, ReadBackCall, SettingCall}
use Rattle.theorems.specs.Leaving.{Leaves}
use Rattle.theorems.specs.Models.{Model}
use Rattle.theorems.specs.Demand3.{AlwaysReadBackAs}

-- some call of Setting leaves this setting of the case
pub record SettingAs (sheet case setting : List ℕ) : Type 0 where
  pub answer : WriteAnswer
  pub output : List ℕ
  pub output' : List ℕ
  pub call : SettingCall sheet case answer output output'
  pub leaves : Leaves answer output' setting

-- every call of Setting with an output that is large enough for a setting of this size leaves this setting of the case
abbrev pub AlwaysSettingAs : List ℕ → Problem → ℕ → List ℕ → List ℕ → Type 0
AlwaysSettingAs sheet p size case setting =
    (r : WriteAnswer) (output output' : List ℕ) → SettingCall sheet case r output output' → prop_count size p.symbols ≤ length output → Leaves r output' setting

-- the call is refused with 13 or with 14
abbrev pub SettingRefused : WriteAnswer → Type 0
SettingRefused r = (length_in r ≡ refused (unplaced 13)) ⊎ (length_in r ≡ refused (unplaced 14))

-- of a sheet that is read as p
pub record SettingCalls (sheet : List ℕ) (p : Problem) : Type 0 where
  -- every case has a setting, model or not
  pub sets : (case : List ℕ) (k : Case) → read_case p.symbols case ≡ answer k → (σ : List ℕ) × AlwaysSettingAs sheet p k.size case σ
  -- what Setting left of a case is read back, at the case's own size, as the same case
  pub case_again : (case σ : List ℕ) (k : Case) → read_case p.symbols case ≡ answer k → SettingAs sheet case σ → AlwaysReadBackAs sheet p k.size false σ case
  -- each setting that Read back does not refuse with 13 or 14 is what Setting leaves of the case that Read back left
  pub setting_again : (size : ℕ) (σ : List ℕ) → is_size size ≡ true → (r : WriteAnswer) (output output' : List ℕ) → ReadBackCall sheet size false σ r output output'
      → case_length size p.symbols ≤ length output → SettingRefused r ⊎ ((case : List ℕ) × Leaves r output' case × AlwaysSettingAs sheet p size case σ)
  -- where sheet and size are not refused for their content, what Setting left of a case of that size satisfies the text that Write left exactly if the case is a model
  pub satisfies : (size : ℕ) → content_of sheet size ≡ answer p → (w : WriteAnswer) (output output' text : List ℕ) → WriteCall sheet size false false w output output' → Leaves w output' text
      → (case σ : List ℕ) (k : Case) → read_case p.symbols case ≡ answer k → k.size ≡ size → SettingAs sheet case σ → Satisfying p size text σ ↔ Model p size case

-- it holds of every sheet that is read
abbrev pub SettingCallsHold : Type 0
SettingCallsHold = (sheet : List ℕ) (p : Problem) → read_problem sheet ≡ answer p → SettingCalls sheet p
