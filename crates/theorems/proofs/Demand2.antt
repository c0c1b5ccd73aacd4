-- Demand 2 of the calls, from demand 2 of the texts and truth.
use Prim.Native.Nat.{ℕ}
use mathlib.Core.Path.{◌≡◌, refl, sym, ap, ◌∙◌}
use mathlib.Core.Bool.{Bool, true, false, true≢false}
use mathlib.Core.List.{List}
use native.Mathlib.Omega.{arith}
use lib.ListN.{length, take, drop}
use lib.Seq.{take-append_seam}
use Rattle.std.specs.Prelude.{Ok, Err}
use Rattle.theory.specs.Cells.{is_model}
use Rattle.theory.specs.Refusals.{Refusal, Answer, answer, refused}
use Rattle.theory.specs.Problem.{Problem, read_problem}
use Rattle.theory.specs.CaseText.{Case}
use Rattle.theory.specs.Operations.{judge_answer, over, written_text, Search, found, nothing, found_case, no_case, find_result, find_answer, find_output}
use Rattle.theory.specs.Claims.FindsLeast as theory
use Rattle.theory.proofs.Answers.{unbind, bind-step, answer-inj, answer≢refused}
use Rattle.theory.proofs.PlacedReading.{placed-problem, problem-read, placed-case, case-read}
use Rattle.theory.specs.PlainSearch.{plain_result}
use Rattle.theory.proofs.FindsLeast.{finds-least}
use Rattle.theory.proofs.PlainFinds.{plain-finds}
use Rattle.naming.specs.NamedProblem.{in_mode}
use Rattle.naming.specs.NamedReading.{read_named}
use Rattle.naming.specs.NamedOperations.{named_written_text, named_find_result, read_problem_in, written_text_in, find_result_in}
use Rattle.naming.specs.Claims.FindsLeast.{NamedLeast}
use Rattle.naming.proofs.FindsLeast.{named-finds-least}
use Rattle.answers.specs.declared.Refusal as answers
use Rattle.answers.specs.declared.PlainResult.TheVariants.{Found, Nothing}
use Rattle.answers.specs.Answers.{FindAnswer, JudgeAnswer, WriteAnswer, refusal_in, judge_in, find_in}
use Rattle.answers.specs.Calls.{JudgeCall, WriteCall, PlainCall}
use Rattle.theorems.specs.Texts.{clauses_text}
use Rattle.theorems.specs.Leaving.{Leaves}
use Rattle.theorems.specs.Models.{IsTrue}
use Rattle.theorems.specs.Unstopped.{UnstoppedCall}
use Rattle.theorems.specs.Demand2.{CaseOf, Judges, Writes, NoModel, LeastModel, Finds, Demand2}
use Rattle.theorems.proofs.Leaving.{left-text}
use Rattle.theorems.proofs.Unstopped.{SearchingCall, unstopped, found-taken, none-taken}
use Rattle.theorems.proofs.Models.{true-if-model, model-if-true, judged-is-model, model-is-judged, sheet-model-is, is-sheet-model}

-- Judge's answers
pub said-yes : (r : JudgeAnswer) → judge_in r ≡ answer true → r ≡ Ok true
said-yes (Ok true) e = refl
said-yes (Ok false) e = absurd (true≢false (sym (answer-inj false true e)))
said-yes (Err q) e = absurd (answer≢refused true (refusal_in q) (sym e))

pub said-no : (r : JudgeAnswer) → judge_in r ≡ answer false → r ≡ Ok false
said-no (Ok true) e = absurd (true≢false (answer-inj true false e))
said-no (Ok false) e = refl
said-no (Err q) e = absurd (answer≢refused false (refusal_in q) (sym e))

module _ (sheet text : List ℕ) where
  -- what is judged of a case
  verdict : (c : CaseOf sheet text) → judge_answer sheet text ≡ answer (is_model c.case.size c.problem.symbols c.problem.clauses c.case.values)
  unfolding judge_answer
  verdict c =
      bind-step _ _ c.problem _ (placed-problem sheet c.problem c.sheet_read) (bind-step _ _ c.case _ (placed-case c.problem.symbols text c.case c.case_read) refl)

  -- what is judged is a case
  judged-case : (b : Bool) → judge_answer sheet text ≡ answer b → (c : CaseOf sheet text) × (is_model c.case.size c.problem.symbols c.problem.clauses c.case.values ≡ b)
  unfolding judge_answer
  judged-case b e =
      unbind _ _ b e λ (p : Problem) h e₁.
      unbind _ _ b e₁ λ (k : Case) h₁ e₂.
      (record { problem = p; sheet_read = problem-read sheet p h; case = k; case_read = case-read p.symbols text k h₁ }, answer-inj (is_model k.size p.symbols p.clauses k.values) b e₂)

  judges : (r : JudgeAnswer) → JudgeCall sheet text r → Judges sheet text r
  judges r j =
      record {
        yes = (
          λ e.
              let c = judged-case true (sym j.answer ∙ ap judge_in e) in
              (c.0, true-if-model c.0.problem text c.0.case c.0.case_read c.1),
          λ h. said-yes r (j.answer ∙ verdict h.0 ∙ ap answer (model-if-true h.0.problem text h.0.case h.0.case_read h.1)),
        );
        no = (
          λ e.
              let c = judged-case false (sym j.answer ∙ ap judge_in e) in
              (c.0, λ t. true≢false (sym (model-if-true c.0.problem text c.0.case c.0.case_read t) ∙ c.1)),
          λ h. said-no r (j.answer ∙ verdict h.0 ∙ ap answer (untrue h.0 h.1 _ refl)),
        );
      }
    where
      untrue : (c : CaseOf sheet text) → (IsTrue c.problem c.case → ⊥) → (b : Bool) → is_model c.case.size c.problem.symbols c.problem.clauses c.case.values ≡ b
          → is_model c.case.size c.problem.symbols c.problem.clauses c.case.values ≡ false
      untrue c h true e = absurd (h (true-if-model c.problem text c.case c.case_read e))
      untrue c h false e = e

-- Write's text
written-plain : (sheet : List ℕ) (size room : ℕ) (text : List ℕ) → written_text sheet size room ≡ answer text → Writes sheet size false text
unfolding written_text
written-plain sheet size room text e =
    unbind _ _ text e λ (p : Problem) h e₁.
    unbind _ _ text e₁ λ (u : Unit {0}) _ e₂.
    record { problem = p; content = h; clauses = sym (answer-inj (clauses_text p size) text e₂) }

written-named : (sheet : List ℕ) (size room : ℕ) (text : List ℕ) → named_written_text sheet size room ≡ answer text → Writes sheet size true text
unfolding named_written_text
written-named sheet size room text e =
    unbind _ _ text e λ (p : Problem) h e₁.
    unbind _ _ text e₁ λ (u : Unit {0}) _ e₂.
    record { problem = p; content = h; clauses = sym (answer-inj (clauses_text (in_mode p) size) text e₂) }

written_as : (named : Bool) (sheet : List ℕ) (size room : ℕ) (text : List ℕ) → written_text_in named sheet size room ≡ answer text → Writes sheet size named text
written_as false sheet size room text e = written-plain sheet size room text e
written_as true sheet size room text e = written-named sheet size room text e

writes : (sheet : List ℕ) (size : ℕ) (named : Bool) (r : WriteAnswer) (output output' : List ℕ) → WriteCall sheet size named false r output output' → (text : List ℕ) → Leaves r output' text → Writes sheet size named text
writes sheet size named r output output' w text l = written_as named sheet size (length output) text (left-text (written_text_in named sheet size (length output)) r output output' w text l)

-- Find's answers
found-case : (a : Answer Search) (size n : ℕ) → find_answer a ≡ answer (found_case size n) → (c : List ℕ) × (a ≡ answer (found size c)) × (length c ≡ n)
found-case (answer (found s c)) size n e =
    let h : found_case s (length c) ≡ found_case size n = answer-inj (found_case s (length c)) (found_case size n) e in
    let s≡ : s ≡ size = cc in
    (c, ap (λ (s : ℕ). answer (found s c)) s≡, cc)
found-case (answer (nothing b)) size n e = let z : ◌≡◌ {A = ℕ} 0 1 = cc in absurd (omega arith)
found-case (refused q) size n e = absurd (answer≢refused (found_case size n) q (sym e))

pub no-case : (a : Answer Search) (b : Bool) → find_answer a ≡ answer (no_case b) → a ≡ answer (nothing b)
no-case (answer (found s c)) b e = let z : ◌≡◌ {A = ℕ} 0 1 = cc in absurd (omega arith)
no-case (answer (nothing d)) b e = let h : d ≡ b = cc in ap (λ (b : Bool). answer (nothing b)) h
no-case (refused q) b e = absurd (answer≢refused (no_case b) q (sym e))

-- what is found, in either mode: the least model, or none where there is none
record Searched (p : Problem) (low high : ℕ) (result : Answer Search) : Type 0 where
  least : (size : ℕ) (c : List ℕ) → result ≡ answer (found size c) → LeastModel p low high size c
  none : (b : Bool) → result ≡ answer (nothing b) → NoModel p low high

module _ (sheet : List ℕ) (p : Problem) (low high : ℕ) (read : read_problem sheet ≡ answer p) where
  least-text : (size : ℕ) (c : List ℕ) → theory.LeastText sheet p low high size c → LeastModel p low high size c
  unfolding judged-is-model
  least-text size c h =
      record {
        model = judged-is-model sheet p read size c h.model;
        searched = h.searched;
        least =
            λ t e le₁ le₂ m.
            let b = h.least t e le₁ le₂ (model-is-judged sheet p read t e m) in
            let same : b.case ≡ m.case = answer-inj b.case m.case (sym b.read ∙ m.read) in
            rw same at b.after;
      }

  least-searched : (result : Answer Search) → theory.FindsLeast sheet p low high result → Searched p low high result
  least-searched result d =
      record {
        least = λ size c e. least-text size c (d.finds size c e);
        none = λ b e t c le₁ le₂ m. d.finds_none b e t c le₁ le₂ (model-is-judged sheet p read t c m);
      }

module _ (sheet : List ℕ) (p : Problem) (low high : ℕ) (read : read_named sheet ≡ answer p) where
  named-text : (size : ℕ) (c : List ℕ) → NamedLeast p low high size c → LeastModel p low high size c
  unfolding sheet-model-is
  named-text size c h =
      record {
        model = sheet-model-is p size c h.model;
        searched = h.searched;
        least =
            λ t e le₁ le₂ m.
            let b = h.least t e le₁ le₂ (is-sheet-model p t e m) in
            let same : b.case ≡ m.case = answer-inj b.case m.case (sym b.read ∙ m.read) in
            rw same at b.after;
      }

  named-searched : (work room : ℕ) → Searched p low high (named_find_result sheet low high work room)
  named-searched work room =
      let d = named-finds-least sheet p low high work room read in
      record {
        least = λ size c e. named-text size c (d.finds size c e);
        none = λ b e t c le₁ le₂ m. d.finds_none b e t c le₁ le₂ (is-sheet-model p t c m);
      }

searched-in : (named : Bool) (sheet : List ℕ) (p : Problem) (low high work room : ℕ) → read_problem_in named sheet ≡ answer p → Searched p low high (find_result_in named sheet low high work room)
searched-in false sheet p low high work room read = least-searched sheet p low high read (find_result sheet low high work room) (finds-least sheet p low high work room read)
searched-in true sheet p low high work room read = named-searched sheet p low high read work room

-- a call's case stands in its output
pub output-stands : (result : Answer Search) (r : FindAnswer) (output output' : List ℕ) → find_in r ≡ find_answer result → output' ≡ find_output result output → (size n : ℕ) → r ≡ Ok (Found size n)
    → (c : List ℕ) × (result ≡ answer (found size c)) × (take n output' ≡ c)
output-stands result r output output' answered left size n e =
    let c = found-case result size n (sym answered ∙ ap find_in e) in (
      c.0,
      c.1,
      ap (take n) (left ∙ ap (λ (a : Answer Search). find_output a output) c.1) ∙ ap (λ (n : ℕ). take n (over c.0 output)) (sym c.2) ∙ take-append_seam c.0 (drop (length c.0) output),
    )

pub case-stands : (result : Answer Search) (r : FindAnswer) (work work' output output' : List ℕ) → SearchingCall result r work work' output output' → (size n : ℕ) → r ≡ Ok (Found size n)
    → (c : List ℕ) × (result ≡ answer (found size c)) × (take n output' ≡ c)
case-stands result r work work' output output' f = output-stands result r output output' f.answer f.left

-- of an answer that tells such a result where it is not refused
module _ (p : Problem) (low high : ℕ) (result : Answer Search) (d : Searched p low high result) (r : FindAnswer) (output output' : List ℕ)
    (call : ((q : answers.Refusal) → r ≡ Err q → ⊥) → (find_in r ≡ find_answer result) × (output' ≡ find_output result output)) where
  find-found : (size n : ℕ) → r ≡ Ok (Found size n) → LeastModel p low high size (take n output')
  find-found size n e =
      let f = call (found-taken r size n e) in
      let c = output-stands result r output output' f.0 f.1 size n e in
      rw (sym c.2) at (d.least size c.0 c.1)

  finds-of : Finds p low high r output'
  finds-of =
      record {
        found = find-found;
        says_none = λ b e. d.none b (no-case result b (sym (call (none-taken r b e)).0 ∙ ap find_in e));
        none_if = go r refl;
      }
    where
      go : (a : FindAnswer) → r ≡ a → NoModel p low high → ((q : answers.Refusal) → r ≡ Err q → ⊥) → (b : Bool) × (r ≡ Ok (Nothing b))
      go (Ok (Found size n)) e none unrefused = let l = find-found size n e in absurd (none size (take n output') l.searched.0 l.searched.1 l.model)
      go (Ok (Nothing b)) e none unrefused = (b, e)
      go (Err q) e none unrefused = absurd (unrefused q e)

finds : (sheet : List ℕ) (p : Problem) (low high : ℕ) (named : Bool) → read_problem_in named sheet ≡ answer p → (r : FindAnswer) (work work' output output' : List ℕ)
    → UnstoppedCall sheet low high named false r work work' output output' → Finds p low high r output'
finds sheet p low high named read r work work' output output' f =
    let result : Answer Search = find_result_in named sheet low high (length work) (length output) in
    finds-of p low high result (searched-in named sheet p low high (length work) (length output) read) r output output'
    (λ taken. let c = unstopped sheet low high named false r work work' output output' f taken in (c.answer, c.left))

finds-plain : (sheet : List ℕ) (p : Problem) (low high : ℕ) → read_problem sheet ≡ answer p → (r : FindAnswer) (output output' : List ℕ) → PlainCall sheet low high r output output' → Finds p low high r output'
finds-plain sheet p low high read r output output' f =
    let result : Answer Search = plain_result sheet low high (length output) in
    finds-of p low high result (least-searched sheet p low high read result (plain-finds sheet p low high (length output) read).least) r output output' (λ _. (f.answer, f.left))

-- the theorem
pub demand2-of-calls : Demand2
demand2-of-calls = record { judge = judges; write = writes; find = finds; find_plain = finds-plain }
