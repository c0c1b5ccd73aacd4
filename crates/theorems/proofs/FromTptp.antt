-- From TPTP, of the calls, from what is proved of the texts.
use Prim.Native.Nat.{ℕ}
use mathlib.Core.Path.{◌≡◌, refl, sym, ap, ◌∙◌}
use mathlib.Core.Bool.{Bool, true, false, cond}
use mathlib.Core.Option.{some}
use mathlib.Core.List.{List, [], ◌∷◌}
use lib.Dec.{leb}
use lib.ListN.{length}
use Rattle.theory.specs.Refusals.{Refusal, answer, refused, at_place, needing}
use Rattle.theory.specs.Problem.{read_problem}
use Rattle.theory.specs.Operations.{counts, read_answer}
use Rattle.theory.proofs.PlacedReading.{placed-problem}
use Rattle.theory.proofs.Answers.{bind-step, answer≢refused, refused-inj}
use Rattle.tptp.specs.Places.{place_of}
use Rattle.tptp.specs.Tptp.{Fault, faults, sheet_in, tptp_text}
use Rattle.tptp.specs.Claims.Order.{first_fault}
use Rattle.tptp.specs.Claims.Deciding.{sheet_of}
use Rattle.tptp.proofs.Taken as tptp
use Rattle.tptp.proofs.Deciding.{deciding}
use Rattle.tptp.proofs.PlacesOnBytes.{places-on-bytes}
use Rattle.answers.specs.Answers.{ReadAnswer, read_in, judge_in}
use Rattle.answers.specs.Calls.{ReadCall}
use Rattle.theorems.specs.FromTptp.{problem_in, SheetLeft, SheetRefused, FromTptp}
use Rattle.theorems.proofs.Leaving.{left-text, refused-text}
use Rattle.theorems.proofs.Demand2.{said-yes}

-- what a call leaves is the text of the definition, and so is its refusal
left : (text sheet : List ℕ) (l : SheetLeft text sheet) → tptp_text text (length l.output) ≡ answer sheet
left text sheet l = left-text (tptp_text text (length l.output)) l.answer l.output l.output' l.call sheet l.leaves

told : (text : List ℕ) (q : Refusal) (l : SheetRefused text q) → tptp_text text (length l.output) ≡ refused q
told text q l = refused-text (tptp_text text (length l.output)) q (sym l.call.answer ∙ l.said)

sheet-read : (text sheet : List ℕ) → SheetLeft text sheet → read_problem sheet ≡ answer (problem_in text)
sheet-read text sheet l = tptp.taken text (length l.output) sheet (left text sheet l)

taken : (text sheet : List ℕ) → SheetLeft text sheet → (r : ReadAnswer) → ReadCall sheet r → read_in r ≡ answer (counts (problem_in text))
unfolding read_answer
taken text sheet l r c = c.answer ∙ bind-step _ _ (problem_in text) _ (placed-problem sheet (problem_in text) (sheet-read text sheet l)) refl

-- a refusal that is no 11 is the first fault
by-fault : (text : List ℕ) (fs : List Fault) (sheet : List ℕ) (room : ℕ) (q : Refusal) → sheet_in text fs sheet room ≡ refused q → ¬ (q.number ≡ 11)
    → (f : Fault) × (first_fault fs ≡ some f) × (q ≡ at_place f.number (place_of text f.place))
by-fault text (f ∷ fs) sheet room q e n = (f, refl, sym (refused-inj {A = List ℕ} (at_place f.number (place_of text f.place)) q e))
by-fault text [] sheet room q e n = absurd (go (leb (length sheet) room) e)
  where
    go : (b : Bool) → cond b (answer sheet) (refused (needing 11 (length sheet))) ≡ refused q → ⊥
    go true e = answer≢refused sheet q e
    go false e = n (sym (ap (λ (r : Refusal). r.number) (refused-inj {A = List ℕ} (needing 11 (length sheet)) q e)))

pub from-tptp : FromTptp
unfolding tptp_text
from-tptp =
    record {
      sheet-read = sheet-read;
      taken = taken;
      models = λ text sheet case k l h r c.
          let m = tptp.judged text (length l.output) sheet case k (left text sheet l) h in
          (λ e. m.0 (sym c.answer ∙ ap judge_in e), λ v. said-yes r (c.answer ∙ m.1 v));
      places = λ text q l e. places-on-bytes.where-it-is text (length l.output) q (told text q l) e;
      no-earlier = λ text ss rest h k q l n.
          let r = by-fault text (faults text) (sheet_of text) (length l.output) q (told text q l) n in
          (r.0, sym (deciding.no-earlier text ss rest h k) ∙ r.1, r.2);
    }
