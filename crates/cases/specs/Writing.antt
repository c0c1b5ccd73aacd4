-- The parts of a case's text as they are written.
use Rattle.std.specs.Prelude.{ℕ, ◌+◌, ◌≤◌, ◌<◌, List, [], ◌∷◌, ◌++◌, length}
use Rattle.theory.specs.Bytes.{bytes, LF, space, zero_digit}
use Rattle.theory.specs.Vectors.{AllBelow}
use Rattle.theory.specs.CaseText.{table_text}
use Rattle.syntax.specs.declared.signature.Symbol.{Symbol}
use Rattle.syntax.specs.Signatures.{symbol_in}

-- the first two lines
abbrev pub heading_text : ℕ → List ℕ
heading_text s = bytes "case=1\nsize=" ++ ((zero_digit + s) ∷ LF ∷ [])

-- bytes, the first after the byte c and every other after a space
abbrev pub paired : ℕ → List ℕ → List ℕ
paired c [] = []
paired c (b ∷ bs) = c ∷ b ∷ paired space bs

-- a symbol of the sheet, the values of its table, and room for its line at the cursor
pub record LineRoom (sheet : List ℕ) (y : Symbol) (table out : List ℕ) (at : ℕ) : Type 0 where
  pub named : y.name + y.length ≤ length sheet
  pub some-value : 0 < length table
  pub below : AllBelow 8 table
  pub room : at + length (table_text (symbol_in sheet y) table) ≤ length out
