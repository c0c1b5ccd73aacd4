-- What the readers of key lines and count lines answer.
use Rattle.std.specs.Prelude.{ℕ, suc, ◌≤◌, ◌<◌, ◌≡◌, List, leb, length, drop}
use Rattle.theory.specs.Lines.{Cut, count_of}
use Rattle.theory.specs.Refusals.{Answer, answer, refused, at_line, ◌>>=◌, check, or_refuse}
use Rattle.theory.specs.Problem.{key_line, count_line}
use Rattle.text.specs.Lines.{part, LineEnd}
use Rattle.syntax.specs.declared.faults.Fault.{Fault}
use Rattle.syntax.specs.Faults.{number_of}
use Rattle.std.specs.Prelude.{Some, None, Ok, Err}
use Rattle.std.specs.Prelude as rust

-- what line l of the sheet was read to: the value, and the text after the line
abbrev pub key_line_in : List ℕ → ℕ → rust.Option (ℕ × ℕ) → Answer Cut
key_line_in sheet l (Some (from, end)) = answer (part sheet from end, drop (suc end) sheet)
key_line_in sheet l None = refused (at_line 2 l)

-- the line from the value on ends at the LF, which stands within the sheet
abbrev pub ValueWithin : List ℕ → rust.Option (ℕ × ℕ) → Type 0
ValueWithin sheet (Some (from, end)) = LineEnd sheet from end × (end < length sheet)
ValueWithin sheet None = Unit {0}

-- r is what the line from `at` on with this key is read to
pub record KeyRead (sheet : List ℕ) (at : ℕ) (key : List ℕ) (r : rust.Option (ℕ × ℕ)) : Type 0 where
  pub read : (l : ℕ) → key_line_in sheet l r ≡ key_line key l (drop at sheet)
  pub within : ValueWithin sheet r

-- the count of a line's value, and the text after the line
unfoldable pub count_value : ℕ → ℕ → Cut → Answer (ℕ × List ℕ)
count_value limit l p = do
  n ← or_refuse (count_of p.0) (at_line 2 l)
  _ ← check (leb n limit) (at_line 3 l)
  answer (n, p.1)

-- what line l was read to: a count, and the text after the line
abbrev pub count_line_in : List ℕ → ℕ → rust.Result (ℕ × ℕ) Fault → Answer (ℕ × List ℕ)
count_line_in sheet l (Ok (n, next)) = answer (n, drop next sheet)
count_line_in sheet l (Err f) = refused (at_line (number_of f) l)

-- the count is within the limit and the next line within n bytes
abbrev pub CountWithin : ℕ → ℕ → rust.Result (ℕ × ℕ) Fault → Type 0
CountWithin n limit (Ok (m, next)) = (m ≤ limit) × (next ≤ n)
CountWithin n limit (Err f) = Unit {0}

-- r is what the line from `at` on with this key and a count is read to
pub record CountRead (sheet : List ℕ) (at : ℕ) (key : List ℕ) (limit : ℕ) (r : rust.Result (ℕ × ℕ) Fault) : Type 0 where
  pub read : (l : ℕ) → count_line_in sheet l r ≡ count_line key limit l (drop at sheet)
  pub within : CountWithin (length sheet) limit r

-- r is what the value from one place to another is read to as a count
pub record ValueCounted (sheet : List ℕ) (from end limit : ℕ) (r : rust.Result (ℕ × ℕ) Fault) : Type 0 where
  pub read : (l : ℕ) → count_line_in sheet l r ≡ count_value limit l (part sheet from end, drop (suc end) sheet)
  pub within : CountWithin (length sheet) limit r
