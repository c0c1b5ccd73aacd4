-- Solver answers on bytes: the theorem SolverAnswers.
use Prim.Native.Nat.{ℕ, zero, ◌≤◌, ◌<◌}
use mathlib.Core.Path.{◌≡◌, refl, sym, ap, ◌∙◌}
use mathlib.Core.Bool.{Bool, true, false}
use mathlib.Core.Option.{Option, none, some}
use mathlib.Core.List.{List}
use native.Mathlib.Omega.{arith}
use lib.Dec.{eqb, ltb, leb}
use lib.ListN.{length}
use Rattle.theory.specs.Lists.{all}
use Rattle.theory.specs.Syntax.{Signature}
use Rattle.theory.specs.Cells.{is_interpretation, is_model}
use Rattle.theory.specs.Propositional.{prop_count}
use Rattle.theory.specs.Valuation.{is_valuation, is_functional, read_back}
use Rattle.theory.specs.Refusals.{Refusal, Answer, answer, refused, unplaced, needing, ◌>>=◌, check}
use Rattle.theory.specs.Problem.{Problem, read_problem}
use Rattle.theory.specs.CaseText.{Case, case_text, case_length, read_case}
use Rattle.theory.specs.Columns.{placed_problem}
use Rattle.theory.specs.Operations.{is_size, read_back_text}
use Rattle.theory.specs.Claims.Encoding.{Encoding}
use Rattle.theory.specs.Claims.ReadingBack.{ModelText}
use Rattle.theory.proofs.Tests.{eqb-true, eqb-of-≡, leb-true, leb-of-≤, and_left, and_right, and-join}
use Rattle.theory.proofs.Answers.{unbind, unrefused, bind-step, answer-inj, refused-inj, answer≢refused, check-true, check-of-true, or_refuse-of-some, or_refuse-of-none}
use Rattle.theory.proofs.PlacedReading.{problem-read}
use Rattle.theory.proofs.Parsing.{read_problem-well_formed, clauses-ok}
use Rattle.theory.proofs.ModelTexts.{read-own, model-text, IsModelText, is-model-text}
use Rattle.theory.proofs.Encoding.{encoding}
use Rattle.solver.specs.Replies.{Reply, claims_none, states, read_reply}
use Rattle.solver.specs.SolverText.{model_case, claimed_none, stated_case, outcome_of, solver_text}
use Rattle.solver.specs.Claims.Stating.{States, ClaimsNone, Stating}
use Rattle.solver.specs.Claims.SolverAnswers.{SolverAnswersHold}
use Rattle.solver.proofs.Stating.{stating}

case-inj : (c d : List ℕ) → model_case c ≡ model_case d → c ≡ d
case-inj c d e = cc

case≢none : (c : List ℕ) → model_case c ≡ claimed_none → ⊥
case≢none c e = let z : ◌≡◌ {A = ℕ} 0 1 = cc in omega arith

module _ (sheet : List ℕ) (p : Problem) (size : ℕ) (text : List ℕ) (placed : placed_problem sheet ≡ answer p) (sized : is_size size ≡ true) where
  abbrev g : Signature
  g = p.symbols

  read : read_problem sheet ≡ answer p
  read = problem-read sheet p placed

  -- V
  abbrev v : ℕ
  v = prop_count size g

  pos : zero < size
  pos = leb-true 1 size (and_left (leb 1 size) (leb size 8) sized)

  le-8 : size ≤ 8
  le-8 = leb-true size 8 (and_right (leb 1 size) (leb size 8) sized)

  enc : Encoding size g p.clauses
  enc = encoding size g p.clauses pos (clauses-ok p (read_problem-well_formed sheet p read))

  said : Stating v text
  said = stating v text

  -- after the sheet's numbers and 8 comes what was read
  replied : (room : ℕ) (r : Reply) → read_reply v text ≡ some r → solver_text sheet size text room ≡ outcome_of p size room r
  unfolding solver_text
  replied room r e =
      bind-step _ _ p _ placed (bind-step _ _ tt _ (check-of-true _ (unplaced 8) sized) (bind-step _ _ r _ (or_refuse-of-some (read_reply v text) (unplaced 18) r e) refl))

  unread : (room : ℕ) → read_reply v text ≡ none → solver_text sheet size text room ≡ refused (unplaced 18)
  unfolding solver_text ◌>>=◌
  unread room e =
      bind-step _ _ p _ placed (bind-step _ _ tt _ (check-of-true _ (unplaced 8) sized)
      (ap (λ (m : Answer Reply). m >>= λ r. outcome_of p size room r) (or_refuse-of-none (read_reply v text) (unplaced 18) e)))

  valuation : (σ : List ℕ) → (length σ ≡ v) × (all (λ b. ltb b 2) σ ≡ true) → is_valuation size g σ ≡ true
  unfolding is_valuation
  valuation σ h = and-join (eqb (length σ) v) (all (λ b. ltb b 2) σ) (eqb-of-≡ (length σ) v h.0) h.1

  valuation-parts : (σ : List ℕ) → is_valuation size g σ ≡ true → (length σ ≡ v) × (all (λ b. ltb b 2) σ ≡ true)
  unfolding is_valuation
  valuation-parts σ h = (eqb-true (length σ) v (and_left (eqb (length σ) v) (all (λ b. ltb b 2) σ) h), and_right (eqb (length σ) v) (all (λ b. ltb b 2) σ) h)

  stated : (room : ℕ) (σ : List ℕ) → is_valuation size g σ ≡ true → States σ text → solver_text sheet size text room ≡ stated_case p size room σ
  stated room σ h s = let q = valuation-parts σ h in replied room (states σ) ((said.setting σ q.0 q.1).1 s)

  -- what is known where a model_case comes out of a setting
  record Came (room : ℕ) (σ c : List ℕ) : Type 0 where
    functional : is_functional size g σ ≡ true
    model : is_model size g p.clauses (read_back size g σ) ≡ true
    fits : leb (case_length size g) room ≡ true
    written : case_text size g (read_back size g σ) ≡ c

  came : (room : ℕ) (σ c : List ℕ) → stated_case p size room σ ≡ answer (model_case c) → Came room σ c
  unfolding stated_case
  came room σ c e =
      unbind _ _ (model_case c) e λ (u₁ : Unit {0}) h₁ e₁.
      unbind _ _ (model_case c) e₁ λ (u₂ : Unit {0}) h₂ e₂.
      unbind _ _ (model_case c) e₂ λ (u₃ : Unit {0}) h₃ e₃.
      record {
        functional = check-true _ (unplaced 14) u₁ h₁;
        model = check-true _ (unplaced 19) u₂ h₂;
        fits = check-true _ (needing 11 (case_length size g)) u₃ h₃;
        written = case-inj (case_text size g (read_back size g σ)) c (answer-inj (model_case (case_text size g (read_back size g σ))) (model_case c) e₃);
      }

  comes : (room : ℕ) (σ : List ℕ) → is_functional size g σ ≡ true → is_model size g p.clauses (read_back size g σ) ≡ true → leb (case_length size g) room ≡ true
      → stated_case p size room σ ≡ answer (model_case (case_text size g (read_back size g σ)))
  unfolding stated_case
  comes room σ f m l =
      bind-step _ _ tt _ (check-of-true _ (unplaced 14) f) (bind-step _ _ tt _ (check-of-true _ (unplaced 19) m)
      (bind-step _ _ tt _ (check-of-true _ (needing 11 (case_length size g)) l) refl))

  -- what is known where a setting is read back
  record Back (room : ℕ) (σ c : List ℕ) : Type 0 where
    setting : is_valuation size g σ ≡ true
    functional : is_functional size g σ ≡ true
    fits : leb (case_length size g) room ≡ true
    written : case_text size g (read_back size g σ) ≡ c

  back : (room : ℕ) (σ c : List ℕ) → read_back_text sheet size σ room ≡ answer c → Back room σ c
  unfolding read_back_text
  back room σ c e =
      unbind _ _ c e λ (q : Problem) h₁ e₁.
      unbind _ _ c e₁ λ (u₁ : Unit {0}) h₂ e₂.
      unbind _ _ c e₂ λ (u₂ : Unit {0}) h₃ e₃.
      unbind _ _ c e₃ λ (u₃ : Unit {0}) h₄ e₄.
      unbind _ _ c e₄ λ (u₄ : Unit {0}) h₅ e₅.
      let z : q ≡ p = answer-inj q p (sym h₁ ∙ placed) in
      record {
        setting = ap (λ (q : Problem). is_valuation size q.symbols σ) (sym z) ∙ check-true _ (unplaced 13) u₂ h₃;
        functional = ap (λ (q : Problem). is_functional size q.symbols σ) (sym z) ∙ check-true _ (unplaced 14) u₃ h₄;
        fits = ap (λ (q : Problem). leb (case_length size q.symbols) room) (sym z) ∙ check-true _ (needing 11 (case_length size q.symbols)) u₄ h₅;
        written = ap (λ (q : Problem). case_text size q.symbols (read_back size q.symbols σ)) (sym z) ∙ answer-inj (case_text size q.symbols (read_back size q.symbols σ)) c e₅;
      }

  backs : (room : ℕ) (σ : List ℕ) → is_valuation size g σ ≡ true → is_functional size g σ ≡ true → leb (case_length size g) room ≡ true
      → read_back_text sheet size σ room ≡ answer (case_text size g (read_back size g σ))
  unfolding read_back_text
  backs room σ h f l =
      bind-step _ _ p _ placed (bind-step _ _ tt _ (check-of-true _ (unplaced 8) sized)
      (bind-step _ _ tt _ (check-of-true _ (unplaced 13) h) (bind-step _ _ tt _ (check-of-true _ (unplaced 14) f)
      (bind-step _ _ tt _ (check-of-true _ (needing 11 (case_length size g)) l) refl))))

  model : (room : ℕ) (c : List ℕ) → solver_text sheet size text room ≡ answer (model_case c)
      → ModelText sheet p size c × ((σ : List ℕ) × States σ text × (read_back_text sheet size σ room ≡ answer c))
  unfolding model-text
  model room c e = go (read_reply v text) refl
    where
      go : (o : Option Reply) → read_reply v text ≡ o → ModelText sheet p size c × ((σ : List ℕ) × States σ text × (read_back_text sheet size σ room ≡ answer c))
      go none h = absurd (answer≢refused (model_case c) (unplaced 18) (sym e ∙ unread room h))
      go (some claims_none) h = absurd (case≢none c (answer-inj (model_case c) claimed_none (sym e ∙ replied room claims_none h)))
      go (some (states σ)) h =
          let q = said.is_setting σ h in
          let w : is_valuation size g σ ≡ true = valuation σ q in
          let k : Came room σ c = came room σ c (sym (replied room (states σ) h) ∙ e) in
          let m : ModelText sheet p size (case_text size g (read_back size g σ)) =
          model-text sheet p read size (read_back size g σ) pos le-8 (enc.reads_back σ w k.functional) k.model in
          (rw k.written at m, (σ, (said.setting σ q.0 q.1).0 h, backs room σ w k.functional k.fits ∙ ap answer k.written))

  setting : (room : ℕ) (c : List ℕ) → ModelText sheet p size c → case_length size g ≤ room → (σ : List ℕ) × (read_back_text sheet size σ room ≡ answer c)
  setting room c m fits =
      let i : IsModelText sheet p read size m.case c = is-model-text sheet p read size c m in
      let r = enc.onto m.case.values i.interpretation in
      (r.0, backs room r.0 r.1 r.2 (leb-of-≤ (case_length size g) room fits) ∙ ap answer (ap (case_text size g) r.3 ∙ i.written_as))

  own : (vs : List ℕ) → is_interpretation size g vs ≡ true → read_case g (case_text size g vs) ≡ answer (record { size = size; values = vs })
  own vs h = read-own sheet p read size vs pos le-8 h

  taken : (room : ℕ) (c σ : List ℕ) → ModelText sheet p size c → read_back_text sheet size σ room ≡ answer c → States σ text → solver_text sheet size text room ≡ answer (model_case c)
  taken room c σ m e s =
      let i : IsModelText sheet p read size m.case c = is-model-text sheet p read size c m in
      let b : Back room σ c = back room σ c e in
      let u : List ℕ = read_back size g σ in
      let w : List ℕ = m.case.values in
      let ku : Case = record { size = size; values = u } in
      let kw : Case = record { size = size; values = w } in
      let z : ku ≡ kw =
      answer-inj ku kw (sym (own u (enc.reads_back σ b.setting b.functional)) ∙ ap (read_case g) (b.written ∙ sym i.written_as) ∙ own w i.interpretation) in
      let same : u ≡ w = ap (λ (k : Case). k.values) z in
      stated room σ b.setting s ∙ comes room σ b.functional (ap (is_model size g p.clauses) same ∙ i.model) b.fits ∙ ap (λ (c : List ℕ). answer (model_case c)) b.written

  claimed : (room : ℕ) → solver_text sheet size text room ≡ answer claimed_none → ClaimsNone text
  unfolding stated_case
  claimed room e = go (read_reply v text) refl
    where
      never : (room : ℕ) (σ : List ℕ) → stated_case p size room σ ≡ answer claimed_none → ⊥
      never room σ e =
          unbind _ _ claimed_none e λ (u₁ : Unit {0}) h₁ e₁.
          unbind _ _ claimed_none e₁ λ (u₂ : Unit {0}) h₂ e₂.
          unbind _ _ claimed_none e₂ λ (u₃ : Unit {0}) h₃ e₃.
          case≢none (case_text size g (read_back size g σ)) (answer-inj (model_case (case_text size g (read_back size g σ))) claimed_none e₃)

      go : (o : Option Reply) → read_reply v text ≡ o → ClaimsNone text
      go none h = absurd (answer≢refused claimed_none (unplaced 18) (sym e ∙ unread room h))
      go (some claims_none) h = said.none.0 h
      go (some (states σ)) h = absurd (never room σ (sym (replied room (states σ) h) ∙ e))

  eighteen : (room : ℕ) → solver_text sheet size text room ≡ refused (unplaced 18)
      → ((σ : List ℕ) → is_valuation size g σ ≡ true → States σ text → ⊥) × (ClaimsNone text → ⊥)
  unfolding stated_case
  eighteen room e = (λ σ h s. never σ (sym (stated room σ h s) ∙ e), λ c. answer≢refused claimed_none (unplaced 18) (sym (replied room claims_none (said.none.1 c)) ∙ e))
    where
      off : (b : Bool) (r : Refusal) → (r.number ≡ 18 → ⊥) → check b r ≡ refused (unplaced 18) → ⊥
      off true r h e = answer≢refused tt (unplaced 18) e
      off false r h e = h (ap (λ (r : Refusal). r.number) (refused-inj {A = Unit {0}} r (unplaced 18) e))

      never : (σ : List ℕ) → stated_case p size room σ ≡ refused (unplaced 18) → ⊥
      never σ e =
          unrefused _ _ (unplaced 18) e (off (is_functional size g σ) (unplaced 14) (λ z. omega arith)) λ (u₁ : Unit {0}) h₁ e₁.
          unrefused _ _ (unplaced 18) e₁ (off (is_model size g p.clauses (read_back size g σ)) (unplaced 19) (λ z. omega arith)) λ (u₂ : Unit {0}) h₂ e₂.
          unrefused _ _ (unplaced 18) e₂ (off (leb (case_length size g) room) (needing 11 (case_length size g)) (λ z. omega arith)) λ (u₃ : Unit {0}) h₃ e₃.
          answer≢refused (model_case (case_text size g (read_back size g σ))) (unplaced 18) e₃

  is-eighteen : (room : ℕ) → ((σ : List ℕ) → is_valuation size g σ ≡ true → States σ text → ⊥) → (ClaimsNone text → ⊥) → solver_text sheet size text room ≡ refused (unplaced 18)
  is-eighteen room a b = go (read_reply v text) refl
    where
      go : (o : Option Reply) → read_reply v text ≡ o → solver_text sheet size text room ≡ refused (unplaced 18)
      go none h = unread room h
      go (some claims_none) h = absurd (b (said.none.0 h))
      go (some (states σ)) h = let q = said.is_setting σ h in absurd (a σ (valuation σ q) ((said.setting σ q.0 q.1).0 h))

-- the theorem
pub solver-answers : SolverAnswersHold
solver-answers sheet p size text placed sized =
    record {
      model = model sheet p size text placed sized;
      setting = setting sheet p size text placed sized;
      taken = taken sheet p size text placed sized;
      none = λ room. (claimed sheet p size text placed sized room, λ c. replied sheet p size text placed sized room claims_none ((said sheet p size text placed sized).none.1 c));
      stated = stated sheet p size text placed sized;
      eighteen = λ room. (eighteen sheet p size text placed sized room, λ h. is-eighteen sheet p size text placed sized room h.0 h.1);
    }
