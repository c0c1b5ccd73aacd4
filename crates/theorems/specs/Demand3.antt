-- Demand 3 of the calls: the settings that satisfy the clauses that Write leaves, not asked for the constant clauses, are read back, one to one, to the models of the sheet as it was handed in.
-- In the mode of named terms too, `named` being the switch: then settings have the helpers' cells, and the clauses are those that the mode has.
use Rattle.std.specs.Prelude.{ℕ, ◌≤◌, ◌≡◌, ◌↔◌, Bool, false, List, length}
use Rattle.theory.specs.Refusals.{answer}
use Rattle.theory.specs.Problem.{Problem}
use Rattle.theory.specs.CaseText.{case_length}
use Rattle.theory.specs.Claims.ReadingBack.{Satisfying}
use Rattle.naming.specs.NamedOperations.{mode_problem, content_of_in}
use Rattle.answers.specs.Answers.{WriteAnswer}
use Rattle.answers.specs.Calls.{WriteCall, ReadBackCall}
use Rattle.theorems.specs.Texts.{clauses_text}
use Rattle.theorems.specs.Leaving.{Leaves}
use Rattle.theorems.specs.Models.{Model}

-- some call of Read back leaves this case for the setting
pub record ReadBackAs (sheet : List ℕ) (size : ℕ) (named : Bool) (setting case : List ℕ) : Type 0 where
  pub answer : WriteAnswer
  pub output : List ℕ
  pub output' : List ℕ
  pub call : ReadBackCall sheet size named setting answer output output'
  pub leaves : Leaves answer output' case

-- every call of Read back with an output that is large enough leaves this case for the setting
abbrev pub AlwaysReadBackAs : List ℕ → Problem → ℕ → Bool → List ℕ → List ℕ → Type 0
AlwaysReadBackAs sheet p size named setting case =
    (r : WriteAnswer) (output output' : List ℕ) → ReadBackCall sheet size named setting r output output' → case_length size p.symbols ≤ length output → Leaves r output' case

-- of the text that a call of Write leaves; `Satisfying (mode_problem named p) size text σ` says that σ is a setting that satisfies every clause of it
pub record Demand3 (sheet : List ℕ) (p : Problem) (size : ℕ) (named : Bool) (text : List ℕ) : Type 0 where
  -- two settings that satisfy every clause are equal, byte for byte, exactly when the models read back from them are equal
  pub equal : (σ τ c d : List ℕ) → Satisfying (mode_problem named p) size text σ → Satisfying (mode_problem named p) size text τ
      → ReadBackAs sheet size named σ c → ReadBackAs sheet size named τ d → (σ ≡ τ) ↔ (c ≡ d)
  -- each setting that satisfies all these clauses is read back as a model of the sheet
  pub reads_back : (σ : List ℕ) → Satisfying (mode_problem named p) size text σ → (c : List ℕ) × Model p size c × AlwaysReadBackAs sheet p size named σ c
  -- each model of the sheet at that size is read back from one of them, and from no other
  pub onto : (c : List ℕ) → Model p size c
      → (σ : List ℕ) × Satisfying (mode_problem named p) size text σ × AlwaysReadBackAs sheet p size named σ c
      × ((τ : List ℕ) → Satisfying (mode_problem named p) size text τ → ReadBackAs sheet size named τ c → τ ≡ σ)

-- it holds for every sheet and size that are not refused for their content, and every call of Write with an output that is large enough
abbrev pub Demand3Holds : Type 0
Demand3Holds = (sheet : List ℕ) (p : Problem) (size : ℕ) (named : Bool) → content_of_in named sheet size ≡ answer p
    → (r : WriteAnswer) (output output' : List ℕ) → WriteCall sheet size named false r output output' → length (clauses_text (mode_problem named p) size) ≤ length output
    → Leaves r output' (clauses_text (mode_problem named p) size) × Demand3 sheet p size named (clauses_text (mode_problem named p) size)
