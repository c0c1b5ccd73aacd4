-- Settings: a case is read back from its setting, and a setting is that of the case read back from it. It satisfies the text that Write leaves exactly if the case is a model.
use Prim.Native.Nat.{ℕ, zero, ◌≤◌, ◌<◌}
use mathlib.Core.Path.{◌≡◌, refl, sym, ap, subst, ◌∙◌}
use mathlib.Core.Logic.{◌⊎◌, inl, inr, ⊎_elim}
use mathlib.Core.Bool.{Bool, true, false}
use mathlib.Core.List.{List}
use native.Mathlib.Nat.{le_refl}
use lib.Dec.{leb}
use Rattle.theory.specs.Syntax.{Signature}
use Rattle.theory.specs.Propositional.{prop_count}
use Rattle.theory.specs.Valuation.{is_valuation, is_functional, read_back, valuation_of}
use Rattle.theory.specs.Refusals.{answer, refused, unplaced, needing}
use Rattle.theory.specs.Problem.{Problem, read_problem}
use Rattle.theory.specs.CaseText.{Case, case_text, case_length, read_case}
use Rattle.theory.specs.Operations.{max_size, is_size, content_of, written_text, read_back_text, setting_text}
use Rattle.theory.specs.Claims.ReadingBack.{Satisfying, ModelText, ReadingBack}
use Rattle.theory.specs.Claims.Settings.{LeavesSetting, LeavesCase, RefusesSetting, SettingsHold}
use Rattle.theory.proofs.Tests.{leb-true, leb-of-≤, and_left, and_right, and-join}
use Rattle.theory.proofs.Answers.{bind-step, bind-refused, answer-inj, answer≢refused, check-of-true, check-of-false}
use Rattle.theory.proofs.PlacedReading.{placed-problem, placed-case}
use Rattle.theory.proofs.Valuations.{read_back-is_interpretation, valuation_of-read_back, read_back-valuation_of}
use Rattle.theory.proofs.CaseText.{OnlyText, read-exactly}
use Rattle.theory.proofs.ModelTexts.{read-own}
use Rattle.theory.proofs.ReadingBack.{case-left, reading-back}

module _ (sheet : List ℕ) (p : Problem) (read : read_problem sheet ≡ answer p) where
  abbrev g : Signature
  g = p.symbols

  -- what Setting leaves of a case
  setting-left : (case : List ℕ) (k : Case) → read_case g case ≡ answer k → LeavesSetting sheet p k.size case (valuation_of k.size g k.values)
  unfolding setting_text
  setting-left case k e room fits =
      let n : ℕ = prop_count k.size g in
      let r = answer (valuation_of k.size g k.values) in
      bind-step _ _ p r (placed-problem sheet p read)
      (bind-step _ _ k r (placed-case g case k e) (bind-step _ _ tt r (check-of-true _ (needing 11 n) (leb-of-≤ n room fits)) refl))

  -- a case has a size
  case-sized : (case : List ℕ) (k : Case) → read_case g case ≡ answer k → is_size k.size ≡ true
  case-sized case k e =
      let s : ℕ = k.size in
      let only : OnlyText g case k = read-exactly g case k e in
      and-join (leb 1 s) (leb s max_size) (leb-of-≤ 1 s only.positive) (leb-of-≤ s max_size only.within)

  -- a case, its setting, the case again
  case-again : (case : List ℕ) (k : Case) → read_case g case ≡ answer k → (σ : List ℕ) × LeavesSetting sheet p k.size case σ × LeavesCase sheet p k.size σ case
  case-again case k e =
      let s : ℕ = k.size in
      let only : OnlyText g case k = read-exactly g case k e in
      let r = read_back-valuation_of s g k.values only.interpretation in (
        valuation_of s g k.values,
        setting-left case k e,
        λ room fits. case-left sheet p s read (case-sized case k e) (valuation_of s g k.values) r.0 r.1 room fits ∙ ap answer (ap (case_text s g) r.2 ∙ only.written),
      )

  module _ (size : ℕ) (σ : List ℕ) (sized : is_size size ≡ true) where
    not-valuation : is_valuation size g σ ≡ false → (room : ℕ) → read_back_text sheet size σ room ≡ refused (unplaced 13)
    unfolding read_back_text
    not-valuation v room =
        bind-step _ _ p _ (placed-problem sheet p read)
        (bind-step _ _ tt _ (check-of-true _ (unplaced 8) sized) (bind-refused _ _ (unplaced 13) (check-of-false _ (unplaced 13) v)))

    not-functional : is_valuation size g σ ≡ true → is_functional size g σ ≡ false → (room : ℕ) → read_back_text sheet size σ room ≡ refused (unplaced 14)
    unfolding read_back_text
    not-functional v f room =
        bind-step _ _ p _ (placed-problem sheet p read)
        (bind-step _ _ tt _ (check-of-true _ (unplaced 8) sized)
        (bind-step _ _ tt _ (check-of-true _ (unplaced 13) v) (bind-refused _ _ (unplaced 14) (check-of-false _ (unplaced 14) f))))

    -- a setting, the case read back, its setting again
    back-again : is_valuation size g σ ≡ true → is_functional size g σ ≡ true → (case : List ℕ) × LeavesCase sheet p size σ case × LeavesSetting sheet p size case σ
    back-again v f =
        let vs : List ℕ = read_back size g σ in
        let pos : zero < size = leb-true 1 size (and_left (leb 1 size) (leb size max_size) sized) in
        let le : size ≤ max_size = leb-true size max_size (and_right (leb 1 size) (leb size max_size) sized) in
        let own : read_case g (case_text size g vs) ≡ answer (record { size = size; values = vs }) = read-own sheet p read size vs pos le (read_back-is_interpretation size g σ v f) in (
          case_text size g vs,
          case-left sheet p size read sized σ v f,
          λ room fits. setting-left (case_text size g vs) (record { size = size; values = vs }) own room fits ∙ ap answer (valuation_of-read_back size g σ v f),
        )

    setting-again : RefusesSetting sheet size σ ⊎ ((case : List ℕ) × LeavesCase sheet p size σ case × LeavesSetting sheet p size case σ)
    setting-again = go (is_valuation size g σ) refl (is_functional size g σ) refl
      where
        go : (a : Bool) → is_valuation size g σ ≡ a → (b : Bool) → is_functional size g σ ≡ b
            → RefusesSetting sheet size σ ⊎ ((case : List ℕ) × LeavesCase sheet p size σ case × LeavesSetting sheet p size case σ)
        go false v b f = inl (inl (not-valuation v))
        go true v false f = inl (inr (not-functional v f))
        go true v true f = inr (back-again v f)

  -- of a case of a size that is not refused for its content, and its setting
  module _ (size room : ℕ) (text : List ℕ) (content : content_of sheet size ≡ answer p) (written : written_text sheet size room ≡ answer text)
      (case σ : List ℕ) (k : Case) (e : read_case g case ≡ answer k) (same : k.size ≡ size) (left : LeavesSetting sheet p size case σ) where
    abbrev needed : ℕ
    needed = case_length size g

    sized : is_size size ≡ true
    sized = ap is_size (sym same) ∙ case-sized case k e

    demand-3 : ReadingBack sheet p size text needed
    demand-3 = reading-back sheet p size room needed text content written (le_refl needed)

    -- the setting is the one from which the case is read back
    back : read_back_text sheet size σ needed ≡ answer case
    back =
        let r = case-again case k e in
        let s : LeavesSetting sheet p size case r.0 = subst (λ (s : ℕ). LeavesSetting sheet p s case r.0) same r.1 in
        let b : LeavesCase sheet p size r.0 case = subst (λ (s : ℕ). LeavesCase sheet p s r.0 case) same r.2 in
        let n : ℕ = prop_count size g in
        let u : r.0 ≡ σ = answer-inj r.0 σ (sym (s n (le_refl n)) ∙ left n (le_refl n)) in
        ap (λ (σ : List ℕ). read_back_text sheet size σ needed) (sym u) ∙ b needed (le_refl needed)

    satisfied-model : Satisfying p size text σ → ModelText sheet p size case
    satisfied-model h = let r = demand-3.reads_back σ h in subst (ModelText sheet p size) (answer-inj r.0 case (sym r.1 ∙ back)) r.2

    -- and no other setting is
    only-setting : (τ : List ℕ) → read_back_text sheet size τ needed ≡ answer case → τ ≡ σ
    only-setting τ b = ⊎_elim (λ r. absurd (⊎_elim refuses refuses r)) left-again (setting-again size τ sized)
      where
        refuses : {n : ℕ} → ((room : ℕ) → read_back_text sheet size τ room ≡ refused (unplaced n)) → ⊥
        refuses {n} r = answer≢refused case (unplaced n) (sym b ∙ r needed)

        left-again : ((c : List ℕ) × LeavesCase sheet p size τ c × LeavesSetting sheet p size c τ) → τ ≡ σ
        left-again r =
            let n : ℕ = prop_count size g in
            let u : r.0 ≡ case = answer-inj r.0 case (sym (r.1 needed (le_refl needed)) ∙ b) in
            answer-inj τ σ (sym (r.2 n (le_refl n)) ∙ ap (λ (c : List ℕ). setting_text sheet c n) u ∙ left n (le_refl n))

    model-satisfied : ModelText sheet p size case → Satisfying p size text σ
    model-satisfied m = let r = demand-3.onto case m in subst (Satisfying p size text) (only-setting r.0 r.2) r.1

pub settings : SettingsHold
settings sheet p read =
    record {
      case_again = case-again sheet p read;
      setting_again = setting-again sheet p read;
      satisfying = λ size room text content written case σ k e same left. (
        satisfied-model sheet p read size room text content written case σ k e same left,
        model-satisfied sheet p read size room text content written case σ k e same left,
      );
    }
