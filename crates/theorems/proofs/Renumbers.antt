-- Renumber and Least form, of the calls, from what is proved of their texts.
use Prim.Native.Nat.{ℕ}
use mathlib.Core.Path.{◌≡◌, refl, sym, ap, ◌∙◌}
use mathlib.Core.Logic.{◌↔◌}
use mathlib.Core.Bool.{false}
use mathlib.Core.List.{List}
use native.Mathlib.Omega.{arith}
use native.Mathlib.Nat.{le_refl}
use lib.Dec.{leb}
use lib.ListN.{length}
use Rattle.std.specs.Prelude.{Ok}
use Rattle.theory.specs.Refusals.{answer, refused, unplaced, needing, check}
use Rattle.theory.specs.Problem.{Problem, read_problem}
use Rattle.theory.specs.CaseText.{Case, case_length, read_case}
use Rattle.theory.specs.Operations.{over, length_answer}
use Rattle.theory.proofs.Tests.{both_false, not-true}
use Rattle.theory.proofs.Answers.{bind-step, bind-refused, check-of-false, answer≢refused, unrefused}
use Rattle.theory.proofs.PlacedReading.{placed-problem, placed-case}
use Rattle.renumbered_cases.specs.RenumberedCases.{is_listed, renumbered_text, least_form_text}
use Rattle.renumbered_cases.specs.Claims.RenumberedCases.{LeavesRenumbered, RenumberedCases}
use Rattle.renumbered_cases.proofs.RenumberedCases.{renumbered_cases}
use Rattle.answers.proofs.Answering.{writes}
use Rattle.answers.specs.Answers.{WriteAnswer, length_in}
use Rattle.case_forms.specs.Calls.{RenumberCall}
use Rattle.theorems.specs.Models.{Model}
use Rattle.theorems.specs.Renumbers.{RenumberedAs, AlwaysRenumberedAs, LeastFormAs, EachOnce, RenumberCallsHold}
use Rattle.theorems.proofs.Leaving.{leaves, left-text, refused-text}
use Rattle.theorems.proofs.EachOnce.{each-once, once-listed}
use Rattle.theorems.proofs.Refusing.{other-number, refusing}
use Rattle.theorems.proofs.Models.{judged-is-model, model-is-judged}

module _ (sheet : List ℕ) where
  abbrev theorem : RenumberedCases sheet
  theorem = renumbered_cases sheet

  -- the texts that calls left
  text_of : (case list turned : List ℕ) (a : RenumberedAs sheet case list turned) → renumbered_text sheet case list (length a.output) ≡ answer turned
  text_of case list turned a = left-text (renumbered_text sheet case list (length a.output)) a.answer a.output a.output' a.call turned a.leaves

  form_of : (case form : List ℕ) (a : LeastFormAs sheet case form) → least_form_text sheet case (length a.output) ≡ answer form
  form_of case form a = left-text (least_form_text sheet case (length a.output)) a.answer a.output a.output' a.call form a.leaves

  -- every call leaves them
  always-as : (case list turned : List ℕ) → LeavesRenumbered sheet case list turned → AlwaysRenumberedAs sheet case list turned
  always-as case list turned l r output output' c fits = leaves (renumbered_text sheet case list (length output)) r output output' c turned (l (length output) fits)

  -- and some call does: with the case's own bytes as its output
  some_as : (case list turned : List ℕ) → LeavesRenumbered sheet case list turned → RenumberedAs sheet case list turned
  some_as case list turned l =
      let text = l (length case) (le_refl (length case)) in
      let call = writes (renumbered_text sheet case list (length case)) turned (length turned) case (over turned case) text refl refl in
      record {
        answer = Ok (length turned);
        output = case;
        output' = over turned case;
        call = call;
        leaves = leaves (renumbered_text sheet case list (length case)) (Ok (length turned)) case (over turned case) call turned text;
      }

  model-turned : (p : Problem) (size : ℕ) (case list turned : List ℕ) → read_problem sheet ≡ answer p → RenumberedAs sheet case list turned → Model p size case → Model p size turned
  model-turned p size case list turned read a m =
      let t = text_of case list turned a in
      let j = theorem.sized p case list turned (length a.output) m.case read m.read t in
      judged-is-model sheet p read size turned
      (record {
        case = j.0;
        read = j.1;
        sized = j.2 ∙ m.sized;
        model = theorem.judged case list turned (length a.output) t ∙ (model-is-judged sheet p read size case m).model;
      })

  -- 25
  module _ (p : Problem) (k : Case) (case list : List ℕ) (read : read_problem sheet ≡ answer p) (e : read_case p.symbols case ≡ answer k) where
    not_listed : (room : ℕ) → is_listed k.size list ≡ false → renumbered_text sheet case list room ≡ refused (unplaced 25)
    unfolding renumbered_text
    not_listed room h =
        bind-step _ _ p _ (placed-problem sheet p read) (bind-step _ _ k _ (placed-case p.symbols case k e) (bind-refused _ _ (unplaced 25) (check-of-false _ (unplaced 25) h)))

    only-unlisted : (room : ℕ) → renumbered_text sheet case list room ≡ refused (unplaced 25) → is_listed k.size list ≡ false
    unfolding renumbered_text
    only-unlisted room h =
        let n : ℕ = case_length k.size p.symbols in
        let rest = bind-step _ _ p _ (placed-problem sheet p read) (bind-step _ _ k _ (placed-case p.symbols case k e) refl) in
        unrefused (check (is_listed k.size list) (unplaced 25)) _ (unplaced 25) (sym rest ∙ h) (λ z. refusing (is_listed k.size list) (unplaced 25) (unplaced 25) z) λ u _ e₁.
        unrefused (check (leb n room) (needing 11 n)) _ (unplaced 25) e₁ (λ z. absurd (other-number 25 (leb n room) (needing 11 n) (λ m. absurd (omega (arith, m))) z)) λ v _ e₂.
        absurd (answer≢refused _ (unplaced 25) e₂)

    listed-calls : (r : WriteAnswer) (output output' : List ℕ) → RenumberCall sheet case list r output output' → (length_in r ≡ refused (unplaced 25)) ↔ (EachOnce k.size list → ⊥)
    listed-calls r output output' c = (
      λ h o. both_false (once-listed k.size list o) (only-unlisted (length output) (refused-text _ (unplaced 25) (sym c.answer ∙ h))),
      λ ne. c.answer ∙ ap length_answer (not_listed (length output) (not-true (is_listed k.size list) (λ t. ne (each-once k.size list t)))),
    )

pub renumber-calls : RenumberCallsHold
renumber-calls sheet =
    record {
      model = model-turned sheet;
      judged = λ case list turned a r q c d. d.answer ∙ (renumbered_cases sheet).judged case list turned (length a.output) (text_of sheet case list turned a) ∙ sym c.answer;
      listed = λ p k case list read e r output output' c. listed-calls sheet p k case list read e r output output' c;
      composes = λ case list turned next last a b.
          always-as sheet case _ last
          ((renumbered_cases sheet).composes case list turned next last (length a.output) (length b.output) (text_of sheet case list turned a) (text_of sheet turned next last b));
      comes_back = λ case list turned a. always-as sheet turned _ case ((renumbered_cases sheet).comes_back case list turned (length a.output) (text_of sheet case list turned a));
      reached = λ case form a.
          let r = (renumbered_cases sheet).reached case form (length a.output) (form_of sheet case form a) in
          (r.0, always-as sheet case r.0 form r.1);
      least = λ p case form list turned k j read a rk b rj.
          (renumbered_cases sheet).least p case form list turned (length a.output) (length b.output) k j read (form_of sheet case form a) rk (text_of sheet case list turned b) rj;
      equal = λ case form other form' a b.
          let e = (renumbered_cases sheet).equal case form other form' (length a.output) (length b.output) (form_of sheet case form a) (form_of sheet other form' b) in (
            λ h. let t = e.0 h in (t.0, some_as sheet case t.0 other t.1),
            λ t. e.1 (t.0, (renumbered_cases sheet).always case t.0 other (length t.1.output) (text_of sheet case t.0 other t.1)),
          );
    }
