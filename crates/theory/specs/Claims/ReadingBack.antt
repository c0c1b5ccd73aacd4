-- ReadingBack: demand 3 on bytes. The settings that satisfy the text that Write leaves are read back, one to one, to the models of the sheet as handed in.
use Rattle.std.specs.Prelude.{ℕ, ◌≤◌, ◌≡◌, ◌↔◌, true, List}
use Rattle.theory.specs.Valuation.{is_valuation, satisfies_text}
use Rattle.theory.specs.Refusals.{answer}
use Rattle.theory.specs.Problem.{Problem}
use Rattle.theory.specs.CaseText.{Case, case_length, read_case}
use Rattle.theory.specs.Operations.{judge_answer, content_of, written_text, read_back_text}

-- a setting of V bytes, 0 or 1, that satisfies every clause of the text
pub record Satisfying (p : Problem) (size : ℕ) (text σ : List ℕ) : Type 0 where
  pub setting : is_valuation size p.symbols σ ≡ true
  pub satisfied : satisfies_text σ text ≡ true

-- a case text of this size that is judged a model of the sheet
pub record ModelText (sheet : List ℕ) (p : Problem) (size : ℕ) (c : List ℕ) : Type 0 where
  pub case : Case
  pub read : read_case p.symbols c ≡ answer case
  pub sized : case.size ≡ size
  pub model : judge_answer sheet c ≡ answer true

-- for a sheet and a size, the text that Write leaves, and an output of Read back of so many bytes
pub record ReadingBack (sheet : List ℕ) (p : Problem) (size : ℕ) (text : List ℕ) (room : ℕ) : Type 0 where
  -- each setting that satisfies the text is read back as a model of the sheet
  pub reads_back : (σ : List ℕ) → Satisfying p size text σ → (c : List ℕ) × (read_back_text sheet size σ room ≡ answer c) × ModelText sheet p size c
  -- two of them are equal exactly when the models read back from them are equal
  pub equal : (σ τ c d : List ℕ) → Satisfying p size text σ → Satisfying p size text τ
      → read_back_text sheet size σ room ≡ answer c → read_back_text sheet size τ room ≡ answer d → (σ ≡ τ) ↔ (c ≡ d)
  -- each model of the sheet at that size is read back from one of them, and from no other
  pub onto : (c : List ℕ) → ModelText sheet p size c
      → (σ : List ℕ) × Satisfying p size text σ × (read_back_text sheet size σ room ≡ answer c)
      × ((τ : List ℕ) → Satisfying p size text τ → read_back_text sheet size τ room ≡ answer c → τ ≡ σ)

-- it holds for every sheet and size that are not refused for their content, and outputs that are large enough
abbrev pub ReadingBackHolds : Type 0
ReadingBackHolds = (sheet : List ℕ) (p : Problem) (size room₁ room₂ : ℕ) (text : List ℕ) → content_of sheet size ≡ answer p
    → written_text sheet size room₁ ≡ answer text → case_length size p.symbols ≤ room₂ → ReadingBack sheet p size text room₂
