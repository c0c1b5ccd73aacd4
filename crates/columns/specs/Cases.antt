-- What is due on a line of a case at a size.
use Rattle.std.specs.Prelude.{ℕ, ◌∷◌, map, get_or}
use Rattle.theory.specs.Bytes.{bytes}
use Rattle.theory.specs.Syntax.{Signature}
use Rattle.theory.specs.LineForms.{no_bytes, size_digit, LineForm, keyed, no_line}
use Rattle.theory.specs.DueLines.{table_form}

-- case=1, the size, a line for each symbol
abbrev pub due_at_size : ℕ → Signature → ℕ → LineForm
due_at_size s g l = get_or (keyed (bytes "case=1") no_bytes ∷ keyed (bytes "size=") size_digit ∷ map (table_form s) g) l no_line
