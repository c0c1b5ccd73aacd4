-- Merging: which refusals there are; the merged text is a sheet with the symbols of both; a sheet without symbols and clauses changes no byte; three sheets give the same bytes however grouped.
use Rattle.std.specs.Prelude.{ℕ, ◌≤◌, ◌<◌, ◌≡◌, ◌⊎◌, ◌↔◌, true, List, [], length}
use Rattle.theory.specs.Syntax.{Symbol, Signature, symbol_at}
use Rattle.theory.specs.Refusals.{Refusal, answer, refused}
use Rattle.theory.specs.Problem.{Problem, read_problem}
use Rattle.theory.specs.Columns.{placed_problem}
use Rattle.sheet_merging.specs.Sheets.{sheet_of}
use Rattle.sheet_merging.specs.Merging.{merged_sheet, agree, merged_text, which_sheet}

-- the problem without symbols and clauses
abbrev pub no_problem : Problem
no_problem = record { symbols = []; clauses = [] }

-- the symbol is one of the signature
abbrev pub IsAmong : Symbol → Signature → Type 0
IsAmong f g = (i : ℕ) × (i < length g) × (symbol_at g i ≡ f)

-- a text that Merge leaves: it is read, and taken apart it is the two sheets made one
pub record Taken (first second : List ℕ) (p q : Problem) (text : List ℕ) : Type 0 where
  pub problem : Problem
  pub read : read_problem text ≡ answer problem
  pub parts : sheet_of problem text ≡ merged_sheet (sheet_of p first) (sheet_of q second)
  -- its symbols are those of both, and no others
  pub symbols : (f : Symbol) → IsAmong f problem.symbols ↔ (IsAmong f p.symbols ⊎ IsAmong f q.symbols)

-- the theorem
pub record Merging : Type 0 where
  -- a refused sheet is told by its number and which it is, the first before the second
  pub first_refused : (first second : List ℕ) (room : ℕ) (r : Refusal) → placed_problem first ≡ refused r → (merged_text first second room ≡ refused r) × (which_sheet first second ≡ 1)
  pub second_refused : (first second : List ℕ) (room : ℕ) (p : Problem) (r : Refusal) → read_problem first ≡ answer p → placed_problem second ≡ refused r
      → (merged_text first second room ≡ refused r) × (which_sheet first second ≡ 2)
  pub both_taken : (first second : List ℕ) (p q : Problem) → read_problem first ≡ answer p → read_problem second ≡ answer q → which_sheet first second ≡ 0
  -- 22 is for a shared name of different kind or arity
  pub shared : (g h : Signature) → (agree g h ≡ true) ↔ ((f u : Symbol) → IsAmong f g → IsAmong u h → f.name ≡ u.name → (f.kind ≡ u.kind) × (f.arity ≡ u.arity))
  -- the merged text is a sheet that Read takes
  pub taken : (first second text : List ℕ) (p q : Problem) (room : ℕ) → read_problem first ≡ answer p → read_problem second ≡ answer q
      → merged_text first second room ≡ answer text → Taken first second p q text
  -- a sheet without symbols and clauses changes no byte
  pub nothing_after : (sheet none : List ℕ) (p : Problem) (room : ℕ) → read_problem sheet ≡ answer p → read_problem none ≡ answer no_problem → length sheet ≤ room
      → merged_text sheet none room ≡ answer sheet
  pub nothing_before : (none sheet : List ℕ) (p : Problem) (room : ℕ) → read_problem none ≡ answer no_problem → read_problem sheet ≡ answer p → length sheet ≤ room
      → merged_text none sheet room ≡ answer sheet
  -- three sheets give the same bytes however grouped, where no step is refused
  pub grouped : (a b c ab bc left right : List ℕ) (r₁ r₂ r₃ r₄ : ℕ)
      → merged_text a b r₁ ≡ answer ab → merged_text ab c r₂ ≡ answer left
      → merged_text b c r₃ ≡ answer bc → merged_text a bc r₄ ≡ answer right
      → left ≡ right
