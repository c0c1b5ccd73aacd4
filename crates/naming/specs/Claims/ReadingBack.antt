-- ReadingBack: demand 3 on bytes, in the mode. The settings, helper cells included, that satisfy the text that Write leaves are read back, one to one, to the models of the sheet as handed in.
use Rattle.std.specs.Prelude.{ℕ, ◌≤◌, ◌≡◌, ◌↔◌, true, List}
use Rattle.theory.specs.Cells.{is_model}
use Rattle.theory.specs.Refusals.{answer}
use Rattle.theory.specs.Problem.{Problem, read_problem}
use Rattle.theory.specs.CaseText.{Case, case_length, read_case}
use Rattle.theory.specs.Claims.ReadingBack.{Satisfying, ModelText}
use Rattle.naming.specs.NamedProblem.{in_mode}
use Rattle.naming.specs.NamedOperations.{named_content_of, named_written_text, named_read_back_text}

-- a case text of this size, of the sheet's symbols, whose values are a model of the sheet's clauses as handed in; Judge may refuse such a sheet with 7
pub record SheetModel (p : Problem) (size : ℕ) (c : List ℕ) : Type 0 where
  pub case : Case
  pub read : read_case p.symbols c ≡ answer case
  pub sized : case.size ≡ size
  pub model : is_model size p.symbols p.clauses case.values ≡ true

-- for a sheet p and a size, the text that Write leaves, and an output of Read back of so many bytes; V counts helper cells
pub record NamedReadingBack (sheet : List ℕ) (p : Problem) (size : ℕ) (text : List ℕ) (room : ℕ) : Type 0 where
  -- each setting that satisfies the text is read back as a model of the sheet
  pub reads_back : (σ : List ℕ) → Satisfying (in_mode p) size text σ → (c : List ℕ) × (named_read_back_text sheet size σ room ≡ answer c) × SheetModel p size c
  -- two of them are equal exactly when the models read back from them are equal
  pub equal : (σ τ c d : List ℕ) → Satisfying (in_mode p) size text σ → Satisfying (in_mode p) size text τ
      → named_read_back_text sheet size σ room ≡ answer c → named_read_back_text sheet size τ room ≡ answer d → (σ ≡ τ) ↔ (c ≡ d)
  -- each model of the sheet at that size is read back from one of them, and from no other
  pub onto : (c : List ℕ) → SheetModel p size c
      → (σ : List ℕ) × Satisfying (in_mode p) size text σ × (named_read_back_text sheet size σ room ≡ answer c)
      × ((τ : List ℕ) → Satisfying (in_mode p) size text τ → named_read_back_text sheet size τ room ≡ answer c → τ ≡ σ)

-- it holds for every sheet and size that are not refused for their content in the mode, and outputs that are large enough
abbrev pub NamedReadingBackHolds : Type 0
NamedReadingBackHolds = (sheet : List ℕ) (p : Problem) (size room₁ room₂ : ℕ) (text : List ℕ) → named_content_of sheet size ≡ answer p
    → named_written_text sheet size room₁ ≡ answer text → case_length size p.symbols ≤ room₂ → NamedReadingBack sheet p size text room₂

-- where the plain reader takes the sheet too, a model of the sheet is what Judge says yes to
abbrev pub JudgedModels : Type 0
JudgedModels = (sheet : List ℕ) (p : Problem) (size : ℕ) (c : List ℕ) → read_problem sheet ≡ answer p → SheetModel p size c ↔ ModelText sheet p size c
