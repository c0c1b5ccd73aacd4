-- Setting, of the calls, from what is proved of its definition.
use Prim.Native.Nat.{ℕ, ◌≤◌}
use mathlib.Core.Path.{◌≡◌, sym, ap, subst, ◌∙◌}
use mathlib.Core.Logic.{◌⊎◌, ◌↔◌, inl, inr, ⊎_elim}
use mathlib.Core.Bool.{true, false}
use mathlib.Core.List.{List}
use lib.ListN.{length}
use Rattle.theory.specs.Propositional.{prop_count}
use Rattle.theory.specs.Refusals.{answer, needing}
use Rattle.theory.specs.Problem.{Problem, read_problem}
use Rattle.theory.specs.CaseText.{Case, case_length, read_case}
use Rattle.theory.specs.Operations.{is_size, length_answer, content_of, written_text, read_back_text, setting_text}
use Rattle.theory.specs.Claims.ReadingBack.{Satisfying}
use Rattle.theory.specs.Claims.Settings.{LeavesSetting, LeavesCase, Settings}
use Rattle.theory.proofs.Tests.{leb-true}
use Rattle.theory.proofs.Answers.{unbind, answer-inj, check-true}
use Rattle.theory.proofs.PlacedReading.{problem-read, case-read}
use Rattle.theory.proofs.Settings.{settings}
use Rattle.answers.specs.Answers.{WriteAnswer}
use Rattle.answers.specs.Calls.{WriteCall, ReadBackCall}
use Rattle.theorems.specs.Leaving.{Leaves}
use Rattle.theorems.specs.Models.{Model}
use Rattle.theorems.specs.Demand3.{AlwaysReadBackAs}
use Rattle.theorems.specs.Settings.{SettingAs, AlwaysSettingAs, SettingRefused, SettingCallsHold}
use Rattle.theorems.proofs.Leaving.{leaves, left-text}
use Rattle.theorems.proofs.Models.{judged-is-model, model-is-judged}

module _ (sheet : List ℕ) (p : Problem) (read : read_problem sheet ≡ answer p) where
  abbrev theorem : Settings sheet p
  theorem = settings sheet p read

  -- Setting leaves nothing in fewer than V bytes
  enough : (case σ : List ℕ) (k : Case) (room : ℕ) → read_case p.symbols case ≡ answer k → setting_text sheet case room ≡ answer σ → prop_count k.size p.symbols ≤ room
  unfolding setting_text
  enough case σ k room r e =
      unbind _ _ σ e λ (q : Problem) h₁ e₁.
      unbind _ _ σ e₁ λ (j : Case) h₂ e₂.
      unbind _ _ σ e₂ λ (u : Unit {0}) h₃ _.
      let n : ℕ = prop_count j.size q.symbols in
      let sq : q ≡ p = answer-inj q p (sym (problem-read sheet q h₁) ∙ read) in
      let sj : j ≡ k = answer-inj j k (sym (case-read q.symbols case j h₂) ∙ ap (λ (q : Problem). read_case q.symbols case) sq ∙ r) in
      let le : n ≤ room = leb-true n room (check-true _ (needing 11 n) u h₃) in
      subst (λ (j : Case). prop_count j.size p.symbols ≤ room) sj (subst (λ (q : Problem). prop_count j.size q.symbols ≤ room) sq le)

  -- what a call of Setting left is left in every output that is large enough, and is read back as the case
  module _ (case σ : List ℕ) (k : Case) (r : read_case p.symbols case ≡ answer k) (a : SettingAs sheet case σ) where
    same : (theorem.case_again case k r).0 ≡ σ
    same =
        let n : ℕ = length a.output in
        let t : setting_text sheet case n ≡ answer σ = left-text (setting_text sheet case n) a.answer a.output a.output' a.call σ a.leaves in
        let s = theorem.case_again case k r in
        answer-inj s.0 σ (sym (s.1 n (enough case σ k n r t)) ∙ t)

    left-setting : LeavesSetting sheet p k.size case σ
    left-setting = subst (LeavesSetting sheet p k.size case) same (theorem.case_again case k r).1

    left-case : LeavesCase sheet p k.size σ case
    left-case = subst (λ (σ : List ℕ). LeavesCase sheet p k.size σ case) same (theorem.case_again case k r).2

  -- every call leaves it
  always-set : (size : ℕ) (case σ : List ℕ) → LeavesSetting sheet p size case σ → AlwaysSettingAs sheet p size case σ
  always-set size case σ l r output output' c fits = leaves (setting_text sheet case (length output)) r output output' c σ (l (length output) fits)

  always-back : (size : ℕ) (σ case : List ℕ) → LeavesCase sheet p size σ case → AlwaysReadBackAs sheet p size false σ case
  always-back size σ case l r output output' c fits = leaves (read_back_text sheet size σ (length output)) r output output' c case (l (length output) fits)

  setting-again : (size : ℕ) (σ : List ℕ) → is_size size ≡ true → (r : WriteAnswer) (output output' : List ℕ) → ReadBackCall sheet size false σ r output output'
      → case_length size p.symbols ≤ length output → SettingRefused r ⊎ ((case : List ℕ) × Leaves r output' case × AlwaysSettingAs sheet p size case σ)
  setting-again size σ sized r output output' c fits =
      let n : ℕ = length output in
      ⊎_elim (λ q. inl (⊎_elim (λ f. inl (c.answer ∙ ap length_answer (f n))) (λ f. inr (c.answer ∙ ap length_answer (f n))) q))
      (λ s. inr (s.0, always-back size σ s.0 s.1 r output output' c fits, always-set size s.0 σ s.2))
      (theorem.setting_again size σ sized)

  satisfies : (size : ℕ) → content_of sheet size ≡ answer p → (w : WriteAnswer) (output output' text : List ℕ) → WriteCall sheet size false false w output output' → Leaves w output' text
      → (case σ : List ℕ) (k : Case) → read_case p.symbols case ≡ answer k → k.size ≡ size → SettingAs sheet case σ → Satisfying p size text σ ↔ Model p size case
  satisfies size content w output output' text c l case σ k r sized a =
      let n : ℕ = length output in
      let t = theorem.satisfying size n text content (left-text (written_text sheet size n) w output output' c text l) case σ k r sized
      (subst (λ (s : ℕ). LeavesSetting sheet p s case σ) sized (left-setting case σ k r a)) in
      (λ s. judged-is-model sheet p read size case (t.0 s), λ m. t.1 (model-is-judged sheet p read size case m))

pub setting-calls : SettingCallsHold
setting-calls sheet p read =
    record {
      sets = λ case k r. let s = (settings sheet p read).case_again case k r in (s.0, always-set sheet p read k.size case s.0 s.1);
      case_again = λ case σ k r a. always-back sheet p read k.size σ case (left-case sheet p read case σ k r a);
      setting_again = setting-again sheet p read;
      satisfies = satisfies sheet p read;
    }
