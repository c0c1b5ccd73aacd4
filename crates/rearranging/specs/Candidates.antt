-- What a walk over the cells of a candidate is lent, and the parts of its tables.
use Rattle.std.specs.Prelude.{ℕ, ◌+◌, ◌^◌, ◌≤◌, ◌≡◌, true, List, map, length, get_or}
use Rattle.theory.specs.Vectors.{vectors, rank, AllBelow}
use Rattle.theory.specs.Syntax.{Kind}
use Rattle.theory.specs.Cells.{cell_count}
use Rattle.renumbering.specs.Rearrangements.{is_rearrangement, comes_from}
use Rattle.renumbering.specs.Renumbering.{new_value}
use Rattle.syntax.specs.declared.signature.Signature.{Signature}
use Rattle.syntax.specs.Signatures.{signature_in}
use Rattle.clauses.specs.Names.{Limited}
use Rattle.rearranging.specs.declared.rearrangement.Rearrangement.{Rearrangement}
use Rattle.rearranging.specs.Entries.{rearrangement_in, EntriesHeld}

-- the new values of a table's part with `left` arguments, of a symbol of kind k, where the part that it comes from starts at cell `from`
abbrev pub part_of : ℕ → Kind → List ℕ → List ℕ → ℕ → ℕ → List ℕ
part_of s k p vs left from = map (λ v. new_value k p (get_or vs (from + rank s (map (comes_from p) v)) 0)) (vectors s left)

-- all entries of a rearrangement
pub record Rearranges (s : ℕ) (r : Rearrangement) : Type 0 where
  pub entries : EntriesHeld r
  pub whole : is_rearrangement s (rearrangement_in r) ≡ true

-- a part of a table, which starts at `at`, and the one that it comes from, which starts at `from`
pub record PartLent (s : ℕ) (r : Rearrangement) (left from at : ℕ) (cells held : List ℕ) : Type 0 where
  pub small : s ≤ 8
  pub arity : left ≤ 3
  pub rearranges : Rearranges s r
  pub values : AllBelow 8 cells
  pub source : from + s ^ left ≤ length cells
  pub target : at + s ^ left ≤ length held

-- the cells of an interpretation of the symbols at size s, and as many cells that are held
pub record InterpretationLent (s : ℕ) (y : Signature) (cells held : List ℕ) : Type 0 where
  pub limited : Limited y
  pub positive : 1 ≤ s
  pub small : s ≤ 8
  pub values : AllBelow 8 cells
  pub counted : (sheet : List ℕ) → length cells ≡ cell_count s (signature_in sheet y)
  pub room : length held ≡ length cells
