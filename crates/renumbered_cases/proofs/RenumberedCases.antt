-- Renumbered cases, as texts: what is read of what was left, and the theorem RenumberedCasesHold.
use Prim.Native.Nat.{ℕ, suc, ◌-◌, ◌≤◌, ◌<◌}
use mathlib.Core.Path.{◌≡◌, refl, sym, ap, ◌∙◌, subst}
use mathlib.Core.Logic.{◌↔◌}
use mathlib.Core.Bool.{true}
use mathlib.Core.List.{List, [], ◌∷◌}
use native.Mathlib.Nat.{le_refl}
use native.Mathlib.Omega.{arith}
use lib.Dec.{ltb}
use lib.ListN.{length, length-map}
use Rattle.theory.specs.Lists.{all}
use Rattle.theory.specs.Syntax.{Signature}
use Rattle.theory.specs.Cells.{is_interpretation, is_model}
use Rattle.theory.specs.Refusals.{answer, unplaced, needing}
use Rattle.theory.specs.Problem.{Problem, read_problem}
use Rattle.theory.specs.CaseText.{Case, case_text, case_length, read_case}
use Rattle.theory.specs.Operations.{judge_answer}
use Rattle.theory.specs.Claims.Least.{NotAfter}
use Rattle.theory.proofs.Tests.{and-join, and_right, leb-of-≤, ltb-of-<}
use Rattle.theory.proofs.Answers.{unbind, answer-inj, bind-step, check-true, check-of-true}
use Rattle.theory.proofs.PlacedReading.{placed-problem, problem-read, placed-case, case-read}
use Rattle.theory.proofs.Parsing.{read_problem-well_formed, clauses-ok}
use Rattle.theory.proofs.CaseText.{OnlyText, read-exactly}
use Rattle.theory.proofs.CaseLengths.{case-lengths}
use Rattle.theory.proofs.ModelTexts.{read-own}
use Rattle.renumbering.specs.Rearrangements.{is_rearrangement, composed, reversed}
use Rattle.renumbering.specs.Renumbering.{renumbered}
use Rattle.renumbering.specs.LeastForm.{least_form}
use Rattle.renumbered_cases.specs.RenumberedCases.{entries_of, list_of, is_listed, renumbered_text, least_form_text}
use Rattle.renumbering.specs.Claims.LeastForm.{Turns}
use Rattle.renumbered_cases.specs.Claims.RenumberedCases.{composed_list, reversed_list, LeavesRenumbered, RenumberedCasesHold}
use Rattle.renumbering.proofs.Rearrangements.{is_rearrangement→, composed-is, reversed-is}
use Rattle.renumbering.proofs.Renumbering.{renumbered-is, composes, comes_back, model-kept}
use Rattle.renumbering.proofs.LeastForm.{reached, least-form, least_forms}

-- the list of a rearrangement's bytes
entries-of-list : (p : List ℕ) → entries_of (list_of p) ≡ p
entries-of-list [] = refl
entries-of-list (d ∷ p) = let e : suc d - 1 ≡ d = omega arith in let q : entries_of (list_of p) ≡ p = entries-of-list p in cc

positive-bytes : (p : List ℕ) → all (λ b. ltb 0 b) (list_of p) ≡ true
positive-bytes [] = refl
positive-bytes (d ∷ p) = and-join (ltb 0 (suc d)) (all (λ b. ltb 0 b) (list_of p)) (ltb-of-< 0 (suc d) (omega arith)) (positive-bytes p)

listed : (s : ℕ) (p : List ℕ) → is_rearrangement s p ≡ true → is_listed s (list_of p) ≡ true
unfolding is_listed
listed s p h =
    and-join (all (λ b. ltb 0 b) (list_of p)) (is_rearrangement s (entries_of (list_of p))) (positive-bytes p) (ap (is_rearrangement s) (entries-of-list p) ∙ h)

-- a list that is taken is a rearrangement
pub rearranges : (s : ℕ) (list : List ℕ) → is_listed s list ≡ true → is_rearrangement s (entries_of list) ≡ true
unfolding is_listed
rearranges s list h = and_right (all (λ b. ltb 0 b) list) (is_rearrangement s (entries_of list)) h

module _ (sheet : List ℕ) (p : Problem) (read : read_problem sheet ≡ answer p) where
  abbrev g : Signature
  g = p.symbols

  -- a case of the sheet
  module _ (case : List ℕ) (k : Case) (e : read_case g case ≡ answer k) where
    abbrev only : OnlyText g case k
    only = read-exactly g case k e

    length-case : length case ≡ case_length k.size g
    length-case = ap length (sym only.written) ∙ case-lengths k.size g k.values only.positive only.interpretation

    -- what Renumber leaves of it
    renumbers : (list : List ℕ) → is_listed k.size list ≡ true → LeavesRenumbered sheet case list (case_text k.size g (renumbered k.size g (entries_of list) k.values))
    unfolding renumbered_text
    renumbers list h room fits =
        let n : ℕ = case_length k.size g in
        let r = answer (case_text k.size g (renumbered k.size g (entries_of list) k.values)) in
        bind-step _ _ p r (placed-problem sheet p read)
        (bind-step _ _ k r (placed-case g case k e)
        (bind-step _ _ tt r (check-of-true _ (unplaced 25) h) (bind-step _ _ tt r (check-of-true _ (needing 11 n) (leb-of-≤ n room (omega (arith, fits, length-case)))) refl)))

    -- by the list of a rearrangement
    renumbers-by : (q : List ℕ) → is_rearrangement k.size q ≡ true → LeavesRenumbered sheet case (list_of q) (case_text k.size g (renumbered k.size g q k.values))
    renumbers-by q h =
        subst (λ (q' : List ℕ). LeavesRenumbered sheet case (list_of q) (case_text k.size g (renumbered k.size g q' k.values))) (entries-of-list q)
        (renumbers (list_of q) (listed k.size q h))

    -- and it is read again as the renumbered interpretation
    read-renumbered : (q : List ℕ) → is_rearrangement k.size q ≡ true
        → read_case g (case_text k.size g (renumbered k.size g q k.values)) ≡ answer (record { size = k.size; values = renumbered k.size g q k.values })
    read-renumbered q h =
        read-own sheet p read k.size (renumbered k.size g q k.values) only.positive only.within
        (renumbered-is k.size g q (is_rearrangement→ k.size q h) k.values only.interpretation)

    -- a text that a rearrangement turns it into
    turned : (us : List ℕ) → Turns k.size g k.values us → (list : List ℕ) × LeavesRenumbered sheet case list (case_text k.size g us)
    turned us t =
        (list_of t.by, subst (λ (us : List ℕ). LeavesRenumbered sheet case (list_of t.by) (case_text k.size g us)) t.turned (renumbers-by t.by t.rearrangement))

    -- Judge's answer to it
    judge-case : judge_answer sheet case ≡ answer (is_model k.size g p.clauses k.values)
    unfolding judge_answer
    judge-case = bind-step _ _ p _ (placed-problem sheet p read) (bind-step _ _ k _ (placed-case g case k e) refl)

    -- a call of Renumber that is not refused was lent a rearrangement, and left that text
    renumber-left : (list left : List ℕ) (room : ℕ) → renumbered_text sheet case list room ≡ answer left
        → (is_rearrangement k.size (entries_of list) ≡ true) × (left ≡ case_text k.size g (renumbered k.size g (entries_of list) k.values))
    unfolding renumbered_text
    renumber-left list left room h =
        unbind _ _ left (sym (bind-step _ _ p _ (placed-problem sheet p read) (bind-step _ _ k _ (placed-case g case k e) refl)) ∙ h) λ (u : Unit {0}) h₁ e₁.
        unbind _ _ left e₁ λ (v : Unit {0}) h₂ e₂.
        (rearranges k.size list (check-true _ (unplaced 25) u h₁), sym (answer-inj _ left e₂))

    -- whatever the output's length, where it is enough
    still-left : (list left : List ℕ) (room : ℕ) → renumbered_text sheet case list room ≡ answer left → LeavesRenumbered sheet case list left
    unfolding renumbered_text
    still-left list left room h =
        unbind _ _ left (sym (bind-step _ _ p _ (placed-problem sheet p read) (bind-step _ _ k _ (placed-case g case k e) refl)) ∙ h) λ (u : Unit {0}) h₁ e₁.
        unbind _ _ left e₁ λ (v : Unit {0}) h₂ e₂.
        subst (LeavesRenumbered sheet case list) (answer-inj _ left e₂) (renumbers list (check-true _ (unplaced 25) u h₁))

    -- a call of Least form that is not refused left the least form
    form-left : (left : List ℕ) (room : ℕ) → least_form_text sheet case room ≡ answer left → left ≡ case_text k.size g (least_form k.size g k.values)
    unfolding least_form_text
    form-left left room h =
        unbind _ _ left (sym (bind-step _ _ p _ (placed-problem sheet p read) (bind-step _ _ k _ (placed-case g case k e) refl)) ∙ h) λ (u : Unit {0}) h₁ e₁.
        sym (answer-inj _ left e₁)

    -- and it is read again as that
    read-form : read_case g (case_text k.size g (least_form k.size g k.values)) ≡ answer (record { size = k.size; values = least_form k.size g k.values })
    read-form =
        let t = reached k.size g k.values only.interpretation in
        subst (λ (us : List ℕ). read_case g (case_text k.size g us) ≡ answer (record { size = k.size; values = us })) t.turned (read-renumbered t.by t.rearrangement)

-- what a call that is not refused has read
record Readings (sheet case : List ℕ) : Type 0 where
  problem : Problem
  sheet_read : read_problem sheet ≡ answer problem
  values : Case
  case_read : read_case problem.symbols case ≡ answer values

renumber-read : (sheet case list left : List ℕ) (room : ℕ) → renumbered_text sheet case list room ≡ answer left → Readings sheet case
unfolding renumbered_text
renumber-read sheet case list left room e =
    unbind _ _ left e λ (p : Problem) h₁ e₁.
    unbind _ _ left e₁ λ (k : Case) h₂ _.
    record { problem = p; sheet_read = problem-read sheet p h₁; values = k; case_read = case-read p.symbols case k h₂ }

form-read : (sheet case left : List ℕ) (room : ℕ) → least_form_text sheet case room ≡ answer left → Readings sheet case
unfolding least_form_text
form-read sheet case left room e =
    unbind _ _ left e λ (p : Problem) h₁ e₁.
    unbind _ _ left e₁ λ (k : Case) h₂ _.
    record { problem = p; sheet_read = problem-read sheet p h₁; values = k; case_read = case-read p.symbols case k h₂ }

-- of one sheet and a case of it
module _ (sheet : List ℕ) (p : Problem) (read : read_problem sheet ≡ answer p) (case : List ℕ) (k : Case) (e : read_case p.symbols case ≡ answer k) where
  abbrev s : ℕ
  s = k.size

  abbrev whole : OnlyText p.symbols case k
  whole = read-exactly p.symbols case k e

  -- the case renumbered
  abbrev after : List ℕ → List ℕ
  after q = renumbered s p.symbols q k.values

  judged-alike : (list left : List ℕ) (room : ℕ) → renumbered_text sheet case list room ≡ answer left → judge_answer sheet left ≡ judge_answer sheet case
  judged-alike list left room h =
      let q : List ℕ = entries_of list in
      let r = renumber-left sheet p read case k e list left room h in
      ap (judge_answer sheet) r.1
      ∙ judge-case sheet p read (case_text s p.symbols (after q)) (record { size = s; values = after q }) (read-renumbered sheet p read case k e q r.0)
      ∙ ap answer (model-kept s p.symbols p.clauses q k.values whole.positive (clauses-ok p (read_problem-well_formed sheet p read)) r.0 whole.interpretation)
      ∙ sym (judge-case sheet p read case k e)

  one-after-another : (list left next last : List ℕ) (room room' : ℕ) → renumbered_text sheet case list room ≡ answer left → renumbered_text sheet left next room' ≡ answer last
      → LeavesRenumbered sheet case (composed_list list next) last
  one-after-another list left next last room room' h₁ h₂ =
      let q : List ℕ = entries_of list in
      let q' : List ℕ = entries_of next in
      let r = renumber-left sheet p read case k e list left room h₁ in
      let j : Case = record { size = s; values = after q } in
      let again : read_case p.symbols left ≡ answer j = ap (read_case p.symbols) r.1 ∙ read-renumbered sheet p read case k e q r.0 in
      let r' = renumber-left sheet p read left j again next last room' h₂ in
      subst (LeavesRenumbered sheet case (composed_list list next)) (ap (case_text s p.symbols) (sym (composes s p.symbols q q' k.values r.0 r'.0 whole.interpretation)) ∙ sym r'.1)
      (renumbers-by sheet p read case k e (composed q q') (composed-is s q q' r.0 r'.0))

  brought-back : (list left : List ℕ) (room : ℕ) → renumbered_text sheet case list room ≡ answer left → LeavesRenumbered sheet left (reversed_list list) case
  brought-back list left room h =
      let q : List ℕ = entries_of list in
      let r = renumber-left sheet p read case k e list left room h in
      let j : Case = record { size = s; values = after q } in
      let again : read_case p.symbols left ≡ answer j = ap (read_case p.symbols) r.1 ∙ read-renumbered sheet p read case k e q r.0 in
      let sized : length list ≡ s = sym (length-map list (λ b. b - 1)) ∙ (is_rearrangement→ s q r.0).sized in
      subst (λ (n : ℕ). LeavesRenumbered sheet left (list_of (reversed n q)) case) (sym sized)
      (subst (LeavesRenumbered sheet left (list_of (reversed s q))) (ap (case_text s p.symbols) (comes_back s p.symbols q k.values r.0 whole.interpretation) ∙ whole.written)
      (renumbers-by sheet p read left j again (reversed s q) (reversed-is s q r.0)))

  form-reached : (form : List ℕ) (room : ℕ) → least_form_text sheet case room ≡ answer form → (list : List ℕ) × LeavesRenumbered sheet case list form
  form-reached form room h =
      let t = turned sheet p read case k e (least_form s p.symbols k.values) (reached s p.symbols k.values whole.interpretation) in
      (t.0, subst (LeavesRenumbered sheet case t.0) (sym (form-left sheet p read case k e form room h)) t.1)

  form-least : (form list left : List ℕ) (room room' : ℕ) (i j : Case) → least_form_text sheet case room ≡ answer form → read_case p.symbols form ≡ answer i
      → renumbered_text sheet case list room' ≡ answer left → read_case p.symbols left ≡ answer j → NotAfter i.values j.values
  form-least form list left room room' i j h₁ a h₂ b =
      let q : List ℕ = entries_of list in
      let r = renumber-left sheet p read case k e list left room' h₂ in
      let same-form : record { size = s; values = least_form s p.symbols k.values } ≡ i =
      answer-inj _ i (sym (ap (read_case p.symbols) (form-left sheet p read case k e form room h₁) ∙ read-form sheet p read case k e) ∙ a) in
      let same_left : record { size = s; values = after q } ≡ j =
      answer-inj _ j (sym (ap (read_case p.symbols) r.1 ∙ read-renumbered sheet p read case k e q r.0) ∙ b) in
      subst (λ (i : Case). NotAfter i.values j.values) same-form
      (subst (λ (j : Case). NotAfter (least_form s p.symbols k.values) j.values) same_left
      (least-form s p.symbols k.values (after q) (record { by = q; rearrangement = r.0; turned = refl })))

  -- another case of the sheet
  module _ (other : List ℕ) (j : Case) (f : read_case p.symbols other ≡ answer j) where
    abbrev whole' : OnlyText p.symbols other j
    whole' = read-exactly p.symbols other j f

    -- at the size of the first
    module _ (sized : s ≡ j.size) where
      interpreted : is_interpretation s p.symbols j.values ≡ true
      interpreted = ap (λ (n : ℕ). is_interpretation n p.symbols j.values) sized ∙ whole'.interpretation

      written : case_text s p.symbols j.values ≡ other
      written = ap (λ (n : ℕ). case_text n p.symbols j.values) sized ∙ whole'.written

    forms-turn : case_text s p.symbols (least_form s p.symbols k.values) ≡ case_text j.size p.symbols (least_form j.size p.symbols j.values)
        → (list : List ℕ) × LeavesRenumbered sheet case list other
    forms-turn h =
        let form : Case = record { size = s; values = least_form s p.symbols k.values } in
        let form' : Case = record { size = j.size; values = least_form j.size p.symbols j.values } in
        let same : form ≡ form' =
        answer-inj form form' (sym (read-form sheet p read case k e) ∙ ap (read_case p.symbols) h ∙ read-form sheet p read other j f) in
        let sized : s ≡ j.size = ap (λ (c : Case). c.size) same in
        let forms : least_form s p.symbols k.values ≡ least_form s p.symbols j.values =
        ap (λ (c : Case). c.values) same ∙ ap (λ (n : ℕ). least_form n p.symbols j.values) (sym sized) in
        let t = turned sheet p read case k e j.values (((least_forms s p.symbols).equal k.values j.values whole.interpretation (interpreted sized)).0 forms) in
        (t.0, subst (LeavesRenumbered sheet case t.0) (written sized) t.1)

    turned-forms : (list : List ℕ) → LeavesRenumbered sheet case list other
        → case_text s p.symbols (least_form s p.symbols k.values) ≡ case_text j.size p.symbols (least_form j.size p.symbols j.values)
    turned-forms list h =
        let q : List ℕ = entries_of list in
        let r = renumber-left sheet p read case k e list other (length case) (h (length case) (le_refl (length case))) in
        let same : record { size = s; values = after q } ≡ j = answer-inj _ j (sym (ap (read_case p.symbols) r.1 ∙ read-renumbered sheet p read case k e q r.0) ∙ f) in
        let sized : s ≡ j.size = ap (λ (c : Case). c.size) same in
        ap (case_text s p.symbols)
        (((least_forms s p.symbols).equal k.values j.values whole.interpretation (interpreted sized)).1 (record { by = q; rearrangement = r.0; turned = ap (λ (c : Case). c.values) same }))
        ∙ ap (λ (n : ℕ). case_text n p.symbols (least_form n p.symbols j.values)) sized

-- the theorem
pub renumbered_cases : RenumberedCasesHold
renumbered_cases sheet =
    record {
      always = λ case list left room h. let r = renumber-read sheet case list left room h in still-left sheet r.problem r.sheet_read case r.values r.case_read list left room h;
      sized = λ p case list left room k read e h.
          let r = renumber-left sheet p read case k e list left room h in
          let q : List ℕ = entries_of list in
          (record { size = k.size; values = renumbered k.size p.symbols q k.values }, ap (read_case p.symbols) r.1 ∙ read-renumbered sheet p read case k e q r.0, refl);
      judged = λ case list left room h. let r = renumber-read sheet case list left room h in judged-alike sheet r.problem r.sheet_read case r.values r.case_read list left room h;
      composes = λ case list left next last room room' h h'.
          let r = renumber-read sheet case list left room h in
          one-after-another sheet r.problem r.sheet_read case r.values r.case_read list left next last room room' h h';
      comes_back = λ case list left room h. let r = renumber-read sheet case list left room h in brought-back sheet r.problem r.sheet_read case r.values r.case_read list left room h;
      reached = λ case form room h. let r = form-read sheet case form room h in form-reached sheet r.problem r.sheet_read case r.values r.case_read form room h;
      least = λ p case form list left room room' i j read h a h' b.
          let r = form-read sheet case form room h in
          let same : r.problem ≡ p = answer-inj r.problem p (sym r.sheet_read ∙ read) in
          form-least sheet p read case r.values (ap (λ (q : Problem). read_case q.symbols case) (sym same) ∙ r.case_read) form list left room room' i j h a h' b;
      equal = λ case form other form' room room' h h'. forms-equal case form other form' room room' h h' (form-read sheet case form room h) (form-read sheet other form' room' h');
    }
  where
    forms-equal : (case form other form' : List ℕ) (room room' : ℕ) → least_form_text sheet case room ≡ answer form → least_form_text sheet other room' ≡ answer form'
        → Readings sheet case → Readings sheet other → (form ≡ form') ↔ ((list : List ℕ) × LeavesRenumbered sheet case list other)
    forms-equal case form other form' room room' h h' r q =
        let p : Problem = r.problem in
        let same : q.problem ≡ p = answer-inj q.problem p (sym q.sheet_read ∙ r.sheet_read) in
        let f : read_case p.symbols other ≡ answer q.values = ap (λ (p : Problem). read_case p.symbols other) (sym same) ∙ q.case_read in
        let a = form-left sheet p r.sheet_read case r.values r.case_read form room h in
        let b = form-left sheet p r.sheet_read other q.values f form' room' h' in (
          λ e. forms-turn sheet p r.sheet_read case r.values r.case_read other q.values f (sym a ∙ e ∙ b),
          λ t. a ∙ turned-forms sheet p r.sheet_read case r.values r.case_read other q.values f t.0 t.1 ∙ sym b,
        )
