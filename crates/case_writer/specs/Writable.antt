-- Cells that can be written as a case.
use Rattle.std.specs.Prelude.{ℕ, ◌≤◌, ◌≡◌, true, List}
use Rattle.theory.specs.Cells.{is_interpretation}
use Rattle.theory.specs.Operations.{max_size}
use Rattle.syntax.specs.declared.signature.Signature.{Signature}
use Rattle.syntax.specs.Signatures.{signature_in}
use Rattle.clauses.specs.Names.{Readable}

-- the cells are an interpretation of the sheet's symbols at size s
pub record Writable (sheet : List ℕ) (y : Signature) (s : ℕ) (cells : List ℕ) : Type 0 where
  pub readable : Readable sheet y
  pub positive : 1 ≤ s
  pub size : s ≤ max_size
  pub values : is_interpretation s (signature_in sheet y) cells ≡ true
