-- Settings: a case is read back from its setting, and a setting is that of the case read back from it. It satisfies the text that Write leaves exactly if the case is a model.
use Rattle.std.specs.Prelude.{ℕ, ◌≤◌, ◌≡◌, ◌⊎◌, ◌↔◌, true, List}
use Rattle.theory.specs.Propositional.{prop_count}
use Rattle.theory.specs.Refusals.{answer, refused, unplaced}
use Rattle.theory.specs.Problem.{Problem, read_problem}
use Rattle.theory.specs.CaseText.{Case, case_length, read_case}
use Rattle.theory.specs.Operations.{is_size, content_of, written_text, read_back_text, setting_text}
use Rattle.theory.specs.Claims.ReadingBack.{Satisfying, ModelText}

-- in every output that is large enough Setting leaves this setting of the case
abbrev pub LeavesSetting : List ℕ → Problem → ℕ → List ℕ → List ℕ → Type 0
LeavesSetting sheet p size case σ = (room : ℕ) → prop_count size p.symbols ≤ room → setting_text sheet case room ≡ answer σ

-- in every output that is large enough Read back leaves this case of the setting
abbrev pub LeavesCase : List ℕ → Problem → ℕ → List ℕ → List ℕ → Type 0
LeavesCase sheet p size σ case = (room : ℕ) → case_length size p.symbols ≤ room → read_back_text sheet size σ room ≡ answer case

-- Read back refuses the setting, with 13 or with 14, whatever the output
abbrev pub RefusesSetting : List ℕ → ℕ → List ℕ → Type 0
RefusesSetting sheet size σ = ((room : ℕ) → read_back_text sheet size σ room ≡ refused (unplaced 13)) ⊎ ((room : ℕ) → read_back_text sheet size σ room ≡ refused (unplaced 14))

-- for a sheet that is read as p
pub record Settings (sheet : List ℕ) (p : Problem) : Type 0 where
  -- every case has a setting, and at the case's own size it is read back as the same text
  pub case_again : (case : List ℕ) (k : Case) → read_case p.symbols case ≡ answer k
      → (σ : List ℕ) × LeavesSetting sheet p k.size case σ × LeavesCase sheet p k.size σ case
  -- every setting is refused with 13 or 14, or it is the setting of the case that is read back from it
  pub setting_again : (size : ℕ) (σ : List ℕ) → is_size size ≡ true
      → RefusesSetting sheet size σ ⊎ ((case : List ℕ) × LeavesCase sheet p size σ case × LeavesSetting sheet p size case σ)
  -- the setting of a case satisfies the text that Write leaves at its size exactly if the case is judged a model
  pub satisfying : (size room : ℕ) (text : List ℕ) → content_of sheet size ≡ answer p → written_text sheet size room ≡ answer text
      → (case σ : List ℕ) (k : Case) → read_case p.symbols case ≡ answer k → k.size ≡ size → LeavesSetting sheet p size case σ
      → Satisfying p size text σ ↔ ModelText sheet p size case

-- it holds of every sheet that is read
abbrev pub SettingsHold : Type 0
SettingsHold = (sheet : List ℕ) (p : Problem) → read_problem sheet ≡ answer p → Settings sheet p
