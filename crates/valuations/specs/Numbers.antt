-- The numbering of a signature's propositional variables as the code holds it.
use Rattle.std.specs.Prelude.{ℕ, ◌*◌, ◌≤◌, ◌<◌, ◌≡◌, length, get_or}
use Rattle.theory.specs.Syntax.{Signature, symbol_at}
use Rattle.theory.specs.Propositional.{width, prop_base, prop_count}
use Rattle.syntax.specs.Signatures.{max_in_all}
use Rattle.valuations.specs.declared.numbering.Numbering.{Numbering}

-- the most propositional variables: 8 ^ 4 of each symbol; a problem has fewer still
abbrev pub max_prop_vars : ℕ
max_prop_vars = 4096 * max_in_all

-- n has the first variable of each symbol of the signature, the number of variables of a cell of it, and V
pub record NumberingOf (g : Signature) (s : ℕ) (n : Numbering) : Type 0 where
  pub bases-held : length g ≤ length n.bases
  pub base : (i : ℕ) → i < length g → get_or n.bases i 0 ≡ prop_base s g i
  pub widths-held : length g ≤ length n.widths
  pub width : (i : ℕ) → i < length g → get_or n.widths i 0 ≡ width s (symbol_at g i).kind
  pub count : n.count ≡ prop_count s g
  pub few : length g ≤ max_in_all
  pub small : n.count ≤ max_prop_vars
