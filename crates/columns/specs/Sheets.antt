-- What the columns of a sheet's refusals are told from.
use Rattle.std.specs.Prelude.{ℕ, suc, ◌≤◌, ◌<◌, ◌≡◌, Bool, true, cond, List, eqb, length}
use Rattle.std.proofs.Math.Option.{Option, some}
use Rattle.theory.specs.Syntax.{Signature}
use Rattle.theory.specs.Grammar.{Word}
use Rattle.theory.specs.Refusals.{refused, at_line}
use Rattle.theory.specs.Problem.{read_all}
use Rattle.theory.specs.DueLines.{sheet_symbols}
use Rattle.theory.specs.Columns.{is_declaration, line_words, first_unknown, first_misplaced, first_over}
use Rattle.naming.specs.NamedOperations.{read_problem_in}
use Rattle.syntax.specs.declared.signature.Signature as declared
use Rattle.syntax.specs.Signatures.{signature_in}
use Rattle.clauses.specs.Names.{Readable}
use Rattle.columns.specs.declared.due.SheetLine.{SheetLine}
use Rattle.columns.specs.declared.due.SheetLine.TheVariants.{Clause}
use Rattle.columns.specs.Due.{form_of}

-- the number is one of 1 to 4; with 3 a line that declares a symbol has / and a digit
pub record ByteRefused (due : SheetLine) (n : ℕ) (line : List ℕ) : Type 0 where
  pub most : n < 5
  pub arity : n ≡ 3 → is_declaration (form_of due) ≡ true → 2 ≤ length line

-- the sheet is refused with this number on this line, plain or with named terms; there the words do not tell a 7
pub record LineRefused (sheet : List ℕ) (n l : ℕ) : Type 0 where
  pub named : Bool
  pub refusal : read_problem_in named sheet ≡ refused (at_line n l)
  pub other : named ≡ true → n ≡ 7 → ⊥

-- the sheet is refused for a clause
pub record ClauseRefused (sheet : List ℕ) : Type 0 where
  pub number : ℕ
  pub line : ℕ
  pub late : 5 ≤ number
  pub refusal : LineRefused sheet number line

-- s are the symbols of the sheet
pub record SymbolsFound (sheet : List ℕ) (s : declared.Signature) : Type 0 where
  pub readable : Readable sheet s
  pub symbols : signature_in sheet s ≡ sheet_symbols sheet

-- from 6 on all words are known
abbrev pub KnownFrom6 : Signature → ℕ → List (List ℕ) → Type 0
KnownFrom6 g n ws = 6 ≤ n → (us : List Word) × (read_all g ws ≡ some us)

-- the number is one of 5 to 7, and the words of the clause line are as it says
pub record WordsRefused (g : Signature) (n : ℕ) (line : List ℕ) : Type 0 where
  pub least : 5 ≤ n
  pub most : n ≤ 7
  pub known : KnownFrom6 g n (line_words (form_of Clause) line)

-- the place of the word at fault
abbrev pub word_fault : Signature → ℕ → List (List ℕ) → Option ℕ
word_fault g n ws = cond (eqb n 5) (first_unknown g ws) (cond (eqb n 6) (first_misplaced g ws) (first_over g ws))

-- the column where no word is at fault, in a line of this length
abbrev pub wordless : ℕ → ℕ → ℕ
wordless n length = cond (eqb n 6) (suc length) 1
