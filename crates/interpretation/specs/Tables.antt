-- The tables of a signature's symbols among the cells.
use Rattle.std.specs.Prelude.{ℕ, ◌≤◌, ◌<◌, ◌≡◌, false, length, get_or}
use Rattle.theory.specs.Syntax.{Signature, symbol_at}
use Rattle.theory.specs.Cells.{cell_base, cell_count}
use Rattle.syntax.specs.Signatures.{kind_of, Arities}
use Rattle.interpretation.specs.declared.tables.Tables.{Tables}

-- t has the arity, the kind and the first cell of each symbol of the signature, and the number of cells
pub record TablesOf (g : Signature) (s : ℕ) (t : Tables) : Type 0 where
  pub arities : Arities g t.arities
  pub kinds-held : length g ≤ length t.functions
  pub kind : (i : ℕ) → i < length g → kind_of (get_or t.functions i false) ≡ (symbol_at g i).kind
  pub bases-held : length g ≤ length t.bases
  pub base : (i : ℕ) → i < length g → get_or t.bases i 0 ≡ cell_base s g i
  pub cells : t.cells ≡ cell_count s g
