-- From solver, of the calls, from what is proved of the texts.
use Prim.Native.Nat.{ℕ, ◌≤◌}
use mathlib.Core.Path.{◌≡◌, refl, sym, ap, ◌∙◌}
use mathlib.Core.Bool.{true, false}
use mathlib.Core.List.{List}
use native.Mathlib.Nat.{le_refl}
use native.Mathlib.Omega.{arith}
use lib.ListN.{length, take, drop}
use lib.Seq.{take-append_seam}
use Rattle.std.specs.Prelude.{Ok, Err}
use Rattle.theory.specs.Refusals.{Answer, answer, refused}
use Rattle.theory.specs.Problem.{Problem, read_problem}
use Rattle.theory.specs.CaseText.{case_length}
use Rattle.theory.specs.Columns.{placed_problem}
use Rattle.theory.specs.Operations.{is_size, over, read_back_text}
use Rattle.theory.proofs.Answers.{answer-inj, answer≢refused}
use Rattle.theory.proofs.PlacedReading.{problem-read}
use Rattle.answers.specs.Answers.{refusal_in}
use Rattle.solver.specs.SolverText.{Outcome, model_case, claimed_none, solver_text, solver_answer, solver_output}
use Rattle.solver.specs.Claims.Stating.{States}
use Rattle.solver.specs.Claims.SolverAnswers.{SolverAnswers}
use Rattle.solver.proofs.SolverAnswers.{solver-answers}
use Rattle.accepting.specs.declared.SolverResult.TheVariants.{Case, ClaimedNone}
use Rattle.accepting.specs.Calls.{SolverAnswer, solver_in, OutcomeCall, FromSolverCall}
use Rattle.theorems.specs.Models.{Model}
use Rattle.theorems.specs.Demand3.{ReadBackAs, AlwaysReadBackAs}
use Rattle.theorems.specs.FromSolver.{LeavesCase, CaseLeft, FromSolverHolds}
use Rattle.theorems.proofs.Leaving.{leaves, left-text}
use Rattle.theorems.proofs.Models.{judged-is-model, model-is-judged}
use Rattle.theorems.proofs.Demand3.{read-back-in}

case-inj : (m n : ℕ) → model_case m ≡ model_case n → m ≡ n
case-inj m n e = cc

case≢none : {A : Type 0} (a : A) → model_case a ≡ claimed_none → ⊥
case≢none a e = let z : ◌≡◌ {A = ℕ} 0 1 = cc in omega arith

-- the answer that says a case, or claimed none
case-answered : (r : SolverAnswer) (n : ℕ) → solver_in r ≡ answer (model_case n) → r ≡ Ok (Case n)
case-answered (Ok (Case m)) n e = ap (λ (n : ℕ). Ok (Case n)) (case-inj m n (answer-inj (model_case m) (model_case n) e))
case-answered (Ok ClaimedNone) n e = absurd (case≢none n (sym (answer-inj claimed_none (model_case n) e)))
case-answered (Err q) n e = absurd (answer≢refused (model_case n) (refusal_in q) (sym e))

none-answered : (r : SolverAnswer) → solver_in r ≡ answer claimed_none → r ≡ Ok ClaimedNone
none-answered (Ok (Case m)) e = absurd (case≢none m (answer-inj (model_case m) claimed_none e))
none-answered (Ok ClaimedNone) e = refl
none-answered (Err q) e = absurd (answer≢refused claimed_none (refusal_in q) (sym e))

module _ (a : Answer (Outcome (List ℕ))) (r : SolverAnswer) (output output' : List ℕ) (w : OutcomeCall a r output output') where
  -- the case that the promise answers is left
  leaves-case : (c : List ℕ) → a ≡ answer (model_case c) → LeavesCase r output' c
  leaves-case c e =
      record {
        answered = case-answered r (length c) (w.answer ∙ ap solver_answer e);
        stands = ap (take (length c)) (w.left ∙ ap (λ (a : Answer (Outcome (List ℕ))). solver_output a output) e) ∙ take-append_seam c (drop (length c) output);
      }

  -- the case that is left is the one that the promise answers
  left-case : (c : List ℕ) → LeavesCase r output' c → a ≡ answer (model_case c)
  left-case c h = go a refl
    where
      told : (b : Answer (Outcome (List ℕ))) → a ≡ b → answer (model_case (length c)) ≡ solver_answer b
      told b e = sym (ap solver_in h.answered) ∙ w.answer ∙ ap solver_answer e

      go : (b : Answer (Outcome (List ℕ))) → a ≡ b → a ≡ answer (model_case c)
      go (answer (model_case t)) e =
          let n : length c ≡ length t = case-inj (length c) (length t) (answer-inj (model_case (length c)) (model_case (length t)) (told (answer (model_case t)) e)) in
          e
          ∙ ap (λ (t : List ℕ). answer (model_case t))
          (sym (take-append_seam t (drop (length t) output))
          ∙ ap (λ (n : ℕ). take n (over t output)) (sym n)
          ∙ ap (take (length c)) (sym (w.left ∙ ap (λ (a : Answer (Outcome (List ℕ))). solver_output a output) e))
          ∙ h.stands)
      go (answer claimed_none) e = absurd (case≢none (length c) (answer-inj (model_case (length c)) claimed_none (told (answer claimed_none) e)))
      go (refused q) e = absurd (answer≢refused (model_case (length c)) q (told (refused q) e))

  -- claimed none is answered exactly where the promise says so
  says_none : a ≡ answer claimed_none → r ≡ Ok ClaimedNone
  says_none e = none-answered r (w.answer ∙ ap solver_answer e)

  said-none : r ≡ Ok ClaimedNone → a ≡ answer claimed_none
  said-none h = go a refl
    where
      told : (b : Answer (Outcome (List ℕ))) → a ≡ b → answer claimed_none ≡ solver_answer b
      told b e = sym (ap solver_in h) ∙ w.answer ∙ ap solver_answer e

      go : (b : Answer (Outcome (List ℕ))) → a ≡ b → a ≡ answer claimed_none
      go (answer (model_case t)) e = absurd (case≢none (length t) (sym (answer-inj claimed_none (model_case (length t)) (told (answer (model_case t)) e))))
      go (answer claimed_none) e = e
      go (refused q) e = absurd (answer≢refused claimed_none q (told (refused q) e))

  left-as-it-was : r ≡ Ok ClaimedNone → output' ≡ output
  left-as-it-was h = w.left ∙ ap (λ (a : Answer (Outcome (List ℕ))). solver_output a output) (said-none h)

module _ (sheet : List ℕ) (p : Problem) (size : ℕ) (placed : placed_problem sheet ≡ answer p) (sized : is_size size ≡ true) where
  read : read_problem sheet ≡ answer p
  read = problem-read sheet p placed

  of : (text : List ℕ) → SolverAnswers sheet p size text
  of text = solver-answers sheet p size text placed sized

  -- what is read back in some output is read back in every one that is large enough
  always : (room : ℕ) (σ c : List ℕ) → read_back_text sheet size σ room ≡ answer c → AlwaysReadBackAs sheet p size false σ c
  always room σ c e r output output' b fits =
      leaves (read_back_text sheet size σ (length output)) r output output' b c (read-back-in sheet size room σ c p read e (length output) fits)

  model : (text c : List ℕ) → CaseLeft sheet size text c → Model p size c × ((σ : List ℕ) × States σ text × AlwaysReadBackAs sheet p size false σ c)
  model text c l =
      let room : ℕ = length l.output in
      let m = (of text).model room c (left-case (solver_text sheet size text room) l.answer l.output l.output' l.call c l.leaves) in
      (judged-is-model sheet p read size c m.0, (m.1.0, m.1.1, always room m.1.0 c m.1.2))

  setting : (c : List ℕ) → Model p size c → (σ : List ℕ) × AlwaysReadBackAs sheet p size false σ c
  setting c m =
      let room : ℕ = case_length size p.symbols in
      let s = (of c).setting room c (model-is-judged sheet p read size c m) (le_refl room) in
      (s.0, always room s.0 c s.1)

  taken : (text c σ : List ℕ) → Model p size c → ReadBackAs sheet size false σ c → States σ text
      → (r : SolverAnswer) (output output' : List ℕ) → FromSolverCall sheet size text r output output' → case_length size p.symbols ≤ length output → LeavesCase r output' c
  taken text c σ m b s r output output' w fits =
      let room : ℕ = length output in
      let back : read_back_text sheet size σ room ≡ answer c =
      read-back-in sheet size (length b.output) σ c p read (left-text (read_back_text sheet size σ (length b.output)) b.answer b.output b.output' b.call c b.leaves) room fits in
      leaves-case (solver_text sheet size text room) r output output' w c ((of text).taken room c σ (model-is-judged sheet p read size c m) back s)

-- the theorem
pub from-solver : FromSolverHolds
from-solver sheet p size placed sized =
    record {
      model = model sheet p size placed sized;
      setting = setting sheet p size placed sized;
      taken = taken sheet p size placed sized;
      none =
          λ text r output output' w.
          let a = solver_text sheet size text (length output) in
          let n = (of sheet p size placed sized text).none (length output) in
          (λ e. n.0 (said-none a r output output' w e), λ c. says_none a r output output' w (n.1 c));
      kept = λ text r output output' w. left-as-it-was (solver_text sheet size text (length output)) r output output' w;
    }
