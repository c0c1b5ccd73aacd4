-- Case texts that are judged models are the texts of interpretations that are models, and of no others.
use Prim.Native.Nat.{ℕ, zero, ◌≤◌, ◌<◌}
use mathlib.Core.Path.{◌≡◌, refl, sym, ap, ◌∙◌}
use mathlib.Core.Bool.{true}
use mathlib.Core.List.{List}
use Rattle.theory.specs.Syntax.{Signature}
use Rattle.theory.specs.Cells.{is_interpretation, is_model}
use Rattle.theory.specs.Refusals.{answer}
use Rattle.theory.specs.Problem.{Problem, read_problem}
use Rattle.theory.specs.CaseText.{Case, case_text, read_case}
use Rattle.theory.specs.Operations.{judge_answer}
use Rattle.theory.specs.Claims.ReadingBack.{ModelText}
use Rattle.theory.proofs.Answers.{unbind, bind-step, answer-inj}
use Rattle.theory.proofs.PlacedReading.{placed-problem, problem-read, placed-case, case-read}
use Rattle.theory.proofs.Parsing.{read_problem-well_formed}
use Rattle.theory.proofs.CaseText.{OnlyText, read-own-case, read-exactly}

module _ (sheet : List ℕ) (p : Problem) (read : read_problem sheet ≡ answer p) where
  abbrev g : Signature
  g = p.symbols

  pub read-own : (size : ℕ) (vs : List ℕ) → zero < size → size ≤ 8 → is_interpretation size g vs ≡ true → read_case g (case_text size g vs) ≡ answer (record { size = size; values = vs })
  read-own size vs pos le h = read-own-case p (read_problem-well_formed sheet p read) size vs pos le h

  -- the text of a model is judged a model
  unfoldable pub model-text : (size : ℕ) (vs : List ℕ) → zero < size → size ≤ 8 → is_interpretation size g vs ≡ true → is_model size g p.clauses vs ≡ true
      → ModelText sheet p size (case_text size g vs)
  unfolding judge_answer
  model-text size vs pos le h m =
      record {
        case = record { size = size; values = vs };
        read = read-own size vs pos le h;
        sized = refl;
        model = bind-step _ _ p (answer true) (placed-problem sheet p read)
            (bind-step _ _ (record { size = size; values = vs }) (answer true) (placed-case g (case_text size g vs) _ (read-own size vs pos le h)) (ap answer m));
      }

  judged-model : (c : List ℕ) (k : Case) → read_case g c ≡ answer k → judge_answer sheet c ≡ answer true → is_model k.size g p.clauses k.values ≡ true
  unfolding judge_answer
  judged-model c k r e =
      unbind _ _ true e λ (q : Problem) h₁ e₁.
      unbind _ _ true e₁ λ (j : Case) h₂ e₂.
      let sq : q ≡ p = answer-inj q p (sym (problem-read sheet q h₁) ∙ read) in
      let sj : j ≡ k = answer-inj j k (sym (case-read q.symbols c j h₂) ∙ ap (λ (q : Problem). read_case q.symbols c) sq ∙ r) in
      ap (λ (j : Case). is_model j.size g p.clauses j.values) (sym sj)
      ∙ ap (λ (q : Problem). is_model j.size q.symbols q.clauses j.values) (sym sq)
      ∙ answer-inj (is_model j.size q.symbols q.clauses j.values) true e₂

  -- a text that is judged a model is that of an interpretation that is a model
  pub record IsModelText (size : ℕ) (k : Case) (c : List ℕ) : Type 0 where
    pub interpretation : is_interpretation size g k.values ≡ true
    pub model : is_model size g p.clauses k.values ≡ true
    pub written_as : case_text size g k.values ≡ c

  pub is-model-text : (size : ℕ) (c : List ℕ) (m : ModelText sheet p size c) → IsModelText size m.case c
  is-model-text size c m =
      let k : Case = m.case in
      let only : OnlyText g c k = read-exactly g c k m.read in
      record {
        interpretation = ap (λ (s : ℕ). is_interpretation s g k.values) (sym m.sized) ∙ only.interpretation;
        model = ap (λ (s : ℕ). is_model s g p.clauses k.values) (sym m.sized) ∙ judged-model c k m.read m.model;
        written_as = ap (λ (s : ℕ). case_text s g k.values) (sym m.sized) ∙ only.written;
      }
