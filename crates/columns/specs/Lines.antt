-- Where a line of a text stands.
use Rattle.std.specs.Prelude.{ℕ, ◌≤◌, ◌≡◌, List, length, drop}
use Rattle.theory.specs.DueLines.{first_line, from_line}
use Rattle.text.specs.Lines.{part}
use Rattle.syntax.specs.declared.terms.Span.{Span}

-- r is the place after n lines
pub record LineStart (text : List ℕ) (n r : ℕ) : Type 0 where
  pub within : r ≤ length text
  pub here : from_line n text ≡ drop r text

-- r are the places of the line after n lines: its first byte, and the one after its last
pub record LineAt (text : List ℕ) (n : ℕ) (r : Span) : Type 0 where
  pub from : r.from ≤ r.to
  pub within : r.to ≤ length text
  pub line : first_line (from_line n text) ≡ part text r.from r.to
