-- Merge, of the calls (document 02, slip 11): what Merge leaves is a sheet; a case is a model of it exactly if its tables for each sheet's symbols form a model of that sheet; a sheet
-- without symbols and clauses changes no byte; three sheets give the same bytes however grouped; and which refusal comes first.
use Rattle.std.specs.Prelude.{ℕ, ◌≤◌, ◌≡◌, ◌↔◌, List, length}
use Rattle.theory.specs.Syntax.{Symbol}
use Rattle.theory.specs.Refusals.{Refusal, answer, refused, unplaced}
use Rattle.theory.specs.Problem.{Problem, read_problem}
use Rattle.theory.specs.CaseText.{Case, case_text, read_case}
use Rattle.theory.specs.Columns.{placed_problem}
use Rattle.answers.specs.Answers.{length_in}
use Rattle.sheet_merging.specs.Sheets.{Sheet, sheet_of, text_of}
use Rattle.sheet_merging.specs.Merging.{merged_sheet}
use Rattle.sheet_merging.specs.Tables.{tables_for}
use Rattle.sheet_merging.specs.Claims.Merging.{no_problem, IsAmong, Taken}
use Rattle.uniting.specs.Calls.{MergeAnswer, written_in, sheet_told, MergeCall}
use Rattle.theorems.specs.Leaving.{Leaves}
use Rattle.theorems.specs.Models.{Model}

-- some call of Merge leaves this text
pub record MergedAs (first second text : List ℕ) : Type 0 where
  pub answer : MergeAnswer
  pub output : List ℕ
  pub output' : List ℕ
  pub call : MergeCall first second answer output output'
  pub leaves : Leaves (written_in answer) output' text

-- the case that a case of the problem m has in it for the symbols of p: of each symbol the table of its name
abbrev pub case_for : Problem → Problem → Case → List ℕ
case_for p m k = case_text k.size p.symbols (tables_for k.size m.symbols p.symbols k.values)

-- each name that both have stands for the same kind and arity in both
abbrev pub NamesAgree : Problem → Problem → Type 0
NamesAgree p q = (f u : Symbol) → IsAmong f p.symbols → IsAmong u q.symbols → f.name ≡ u.name → (f.kind ≡ u.kind) × (f.arity ≡ u.arity)

-- the two made one go into a sheet: 12 functions, 12 predicates, 64 clauses and 16,384 bytes at most
pub record FitsOneSheet (m : Sheet) : Type 0 where
  pub functions : length m.functions ≤ 12
  pub predicates : length m.predicates ≤ 12
  pub clauses : length m.lines ≤ 64
  pub bytes : length (text_of m) ≤ 16384

-- of two sheets that are read as p and q
pub record MergeOfTwo (first second : List ℕ) (p q : Problem) : Type 0 where
  -- what is left is a sheet: it is read, taken apart it is the two made one, and its symbols are those of both
  pub sheet : (text : List ℕ) → MergedAs first second text → Taken first second p q text
  -- a case of it is a model exactly if its tables for each sheet's symbols form a model of that sheet
  pub model : (text : List ℕ) → MergedAs first second text → (m : Problem) → read_problem text ≡ answer m → (case : List ℕ) (k : Case) → read_case m.symbols case ≡ answer k
      → Model m k.size case ↔ (Model p k.size (case_for p m k) × Model q k.size (case_for q m k))
  -- 22 is answered exactly if a shared name differs in kind or arity, and no sheet is named with it
  pub differing : (r : MergeAnswer) (output output' : List ℕ) → MergeCall first second r output output' → (length_in (written_in r) ≡ refused (unplaced 22)) ↔ (NamesAgree p q → ⊥)
  -- 23 is answered exactly if none differs, and the two made one are over a limit of a sheet
  pub too_large : (r : MergeAnswer) (output output' : List ℕ) → MergeCall first second r output output'
      → (length_in (written_in r) ≡ refused (unplaced 23)) ↔ (NamesAgree p q × (FitsOneSheet (merged_sheet (sheet_of p first) (sheet_of q second)) → ⊥))
  pub neither : (r : MergeAnswer) (output output' : List ℕ) → MergeCall first second r output output' → sheet_told r ≡ 0

-- the theorem
pub record Merges : Type 0 where
  pub two : (first second : List ℕ) (p q : Problem) → read_problem first ≡ answer p → read_problem second ≡ answer q → MergeOfTwo first second p q
  -- a refused sheet is told by its own refusal and by which it is, the first before the second
  pub first_refused : (first second : List ℕ) (q : Refusal) → placed_problem first ≡ refused q → (r : MergeAnswer) (output output' : List ℕ) → MergeCall first second r output output'
      → (length_in (written_in r) ≡ refused q) × (sheet_told r ≡ 1)
  pub second_refused : (first second : List ℕ) (p : Problem) (q : Refusal) → read_problem first ≡ answer p → placed_problem second ≡ refused q
      → (r : MergeAnswer) (output output' : List ℕ) → MergeCall first second r output output' → (length_in (written_in r) ≡ refused q) × (sheet_told r ≡ 2)
  -- a sheet without symbols and clauses changes no byte, where there is room for them
  pub nothing_after : (sheet none : List ℕ) (p : Problem) → read_problem sheet ≡ answer p → read_problem none ≡ answer no_problem
      → (r : MergeAnswer) (output output' : List ℕ) → MergeCall sheet none r output output' → length sheet ≤ length output → Leaves (written_in r) output' sheet
  pub nothing_before : (none sheet : List ℕ) (p : Problem) → read_problem none ≡ answer no_problem → read_problem sheet ≡ answer p
      → (r : MergeAnswer) (output output' : List ℕ) → MergeCall none sheet r output output' → length sheet ≤ length output → Leaves (written_in r) output' sheet
  -- three sheets give the same bytes however grouped, where no step is refused
  pub grouped : (a b c ab bc left right : List ℕ) → MergedAs a b ab → MergedAs ab c left → MergedAs b c bc → MergedAs a bc right → left ≡ right
