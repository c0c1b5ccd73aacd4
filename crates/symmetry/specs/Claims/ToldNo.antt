-- ToldNo: demands 2 and 3 are of Find told no and of Write not asked, plain and in the mode of named terms: the statements are those of documents 01 and 02 (slip 9) as they stood.
use Rattle.std.specs.Prelude.{ℕ, ◌≤◌, ◌≡◌, true, false, List}
use Rattle.theory.specs.Refusals.{answer}
use Rattle.theory.specs.Problem.{Problem, read_problem}
use Rattle.theory.specs.CaseText.{case_length}
use Rattle.theory.specs.Claims.FindsLeast.{FindsLeast}
use Rattle.theory.specs.Claims.ReadingBack.{ReadingBack}
use Rattle.naming.specs.NamedReading.{read_named}
use Rattle.naming.specs.Claims.FindsLeast.{NamedFindsLeast}
use Rattle.naming.specs.Claims.ReadingBack.{NamedReadingBack}
use Rattle.symmetry.specs.SymmetricOperations.{content_of_with, written_text_with, find_result_with}

-- the theorem
pub record ToldNo : Type 0 where
  -- demand 2: what is found is the least model of all
  pub finds : (sheet : List ℕ) (p : Problem) (low high work room : ℕ) → read_problem sheet ≡ answer p → FindsLeast sheet p low high (find_result_with false false sheet low high work room)
  pub finds_named : (sheet : List ℕ) (p : Problem) (low high work room : ℕ) → read_named sheet ≡ answer p → NamedFindsLeast p low high (find_result_with true false sheet low high work room)
  -- demand 3: the settings that satisfy the text are the models, one to one, and no others
  pub reads_back : (sheet : List ℕ) (p : Problem) (size room₁ room₂ : ℕ) (text : List ℕ) → content_of_with false false sheet size ≡ answer p
      → written_text_with false false sheet size room₁ ≡ answer text → case_length size p.symbols ≤ room₂ → ReadingBack sheet p size text room₂
  pub reads_back_named : (sheet : List ℕ) (p : Problem) (size room₁ room₂ : ℕ) (text : List ℕ) → content_of_with true false sheet size ≡ answer p
      → written_text_with true false sheet size room₁ ≡ answer text → case_length size p.symbols ≤ room₂ → NamedReadingBack sheet p size text room₂
