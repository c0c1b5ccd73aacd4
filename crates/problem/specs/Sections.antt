-- A section of a sheet: a count line, then so many symbol lines.
use Rattle.std.specs.Prelude.{ℕ, ◌+◌, ◌≤◌, ◌≡◌, List, length, drop}
use Rattle.theory.specs.Syntax.{Kind, Signature}
use Rattle.theory.specs.Refusals.{Answer, answer, refused, at_line, ◌>>=◌}
use Rattle.theory.specs.Problem.{max_symbols, count_line, symbol_lines}
use Rattle.syntax.specs.declared.signature.Signature as declared
use Rattle.syntax.specs.Signatures.{signature_in}
use Rattle.problem.specs.declared.sections.Section.{Section}
use Rattle.clauses.specs.Names.{Readable}
use Rattle.problem.specs.declared.sections.SheetFault.{SheetFault}
use Rattle.syntax.specs.Faults.{number_of}
use Rattle.std.specs.Prelude.{Ok, Err, IfOk, IfErr}
use Rattle.std.specs.Prelude as rust

-- the symbols after those of g, the number of the line after them, and the text from there on
abbrev pub Rest : Type 0
Rest = Signature × ℕ × List ℕ

-- n symbol lines from line l on
unfoldable pub lines_from : ℕ → List ℕ → Kind → Signature → ℕ → List ℕ → Answer Rest
lines_from n key k g l text = do
  s ← symbol_lines n key k g l text
  answer (s.0, l + n, s.1)

-- a count line, then so many symbol lines
unfoldable pub section_from : List ℕ → List ℕ → Kind → Signature → ℕ → List ℕ → Answer Rest
section_from count_key key k g l text = do
  c ← count_line count_key max_symbols l text
  lines_from c.0 key k g (l + 1) c.1

-- what was read
abbrev pub section_in : List ℕ → rust.Result Section SheetFault → Answer Rest
section_in sheet (Ok s) = answer (signature_in sheet s.signature, s.line, drop s.next sheet)
section_in sheet (Err f) = refused (at_line (number_of f.fault) f.line)

-- a section within the sheet, with at most so many symbols and a line at most so far
pub record SectionHeld (sheet : List ℕ) (most last : ℕ) (s : Section) : Type 0 where
  pub readable : Readable sheet s.signature
  pub count : s.signature.count ≤ most
  pub line : s.line ≤ last
  pub next : s.next ≤ length sheet

-- r is what was read
pub record SectionRead (sheet : List ℕ) (most last : ℕ) (a : Answer Rest) (r : rust.Result Section SheetFault) : Type 0 where
  pub read : section_in sheet r ≡ a
  pub held : IfOk r (SectionHeld sheet most last)
  pub refused : IfErr r (λ f. f.line ≤ last)

-- r is what `reads` answers from `at` on, where line l starts, after the symbols before; with at most so many symbols and lines more
abbrev pub SectionFrom : List ℕ → ℕ → ℕ → declared.Signature → ℕ → ℕ → (Signature → ℕ → List ℕ → Answer Rest) → rust.Result Section SheetFault → Type 0
SectionFrom sheet at l before symbols lines reads r = SectionRead sheet (before.count + symbols) (l + lines) (reads (signature_in sheet before) l (drop at sheet)) r
