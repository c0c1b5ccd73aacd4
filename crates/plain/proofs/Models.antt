-- The model of a size that was found, or was not, and the sizes below high.
use Prim.Native.Nat.{ℕ, ◌-◌, ◌≤◌}
use mathlib.Core.Path.{◌≡◌, sym, ap, ◌∙◌}
use mathlib.Core.Bool.{true}
use mathlib.Core.Option.{none, some}
use mathlib.Core.List.{List}
use native.Mathlib.Omega.{arith}
use lib.ListN.{length, take, length-take}
use Rattle.theory.specs.Cells.{cell_count, is_interpretation}
use Rattle.theory.specs.CaseText.{case_text, case_length}
use Rattle.theory.specs.Least.{least_model}
use Rattle.theory.specs.Operations.{over}
use Rattle.theory.proofs.Interpretations.{length-interpretation}
use Rattle.theory.proofs.Least.{least}
use Rattle.theory.proofs.Monotone.{cell_count-grows, case_length-grows}
use Rattle.theory.specs.PlainSearch.{max_plain_cells}
use Rattle.syntax.specs.declared.limits.Problem.{Problem}
use Rattle.syntax.specs.Signatures.{signature_in}
use Rattle.problem.specs.Problems.{problem_in}
use Rattle.judging.specs.Cases.{cells_of}
use Rattle.ranges.specs.declared.size_range.SizeRange.{SizeRange}
use Rattle.case_writer.specs.Writable.{Writable}
use Rattle.std.specs.Prelude as rust
use Rattle.std.specs.Prelude.{Some, None}
use Rattle.plain.specs.declared.cells.PlainCells.{PlainCells}
use Rattle.plain.specs.Filling.{Searchable, model_in}
use Rattle.plain.specs.Ending.{ProblemAsRead, TriableUpTo}

-- the least model as a filling tells it
module _ (sheet : List ℕ) (p : Problem) (s : ℕ) (r : rust.Option PlainCells) (e : model_in sheet p s r ≡ least_model s (problem_in sheet p)) where
  pub model-found : (cells : PlainCells) → r ≡ Some cells → least_model s (problem_in sheet p) ≡ some (cells_of sheet p cells.values s)
  model-found cells f = sym e ∙ ap (model_in sheet p s) f

  pub model-missed : r ≡ None → least_model s (problem_in sheet p) ≡ none
  model-missed f = sym e ∙ ap (model_in sheet p s) f

-- its cells can be written as a case
module _ (sheet : List ℕ) (p : Problem) (s : ℕ) (h : Searchable sheet p s) (values : List ℕ) (m : least_model s (problem_in sheet p) ≡ some (cells_of sheet p values s)) where
  in-range : is_interpretation s (signature_in sheet p.signature) (cells_of sheet p values s) ≡ true
  unfolding problem_in
  in-range = ((least (problem_in sheet p)).is_least s (cells_of sheet p values s) m).0.interpretation

  pub cells-held : (n : ℕ) → n ≡ cell_count s (signature_in sheet p.signature) → n ≤ length values
  cells-held n e =
      let k : ℕ = cell_count s (signature_in sheet p.signature) in
      omega (arith, e, length-interpretation s (signature_in sheet p.signature) (cells_of sheet p values s) in-range, length-take k values)

  -- the cells as they are lent
  pub cells-taken : (n : ℕ) → n ≡ cell_count s (signature_in sheet p.signature) → take (n - 0) values ≡ cells_of sheet p values s
  cells-taken n e = let z : n - 0 ≡ cell_count s (signature_in sheet p.signature) = omega (arith, e) in ap (λ (k : ℕ). take k values) z

  pub cells-writable : (n : ℕ) → n ≡ cell_count s (signature_in sheet p.signature) → Writable sheet p.signature s (take (n - 0) values)
  cells-writable n e =
      record {
        readable = h.accepted.readable;
        positive = h.positive;
        size = h.size;
        values = ap (is_interpretation s (signature_in sheet p.signature)) (cells-taken n e) ∙ in-range;
      }

  -- what was written, said of the problem
  pub model-written : (n : ℕ) → n ≡ cell_count s (signature_in sheet p.signature) → (out out' : List ℕ) → out' ≡ over (case_text s (signature_in sheet p.signature) (take (n - 0) values)) out
      → out' ≡ over (case_text s (problem_in sheet p).symbols (cells_of sheet p values s)) out
  unfolding problem_in
  model-written n e out out' o = o ∙ ap (λ (vs : List ℕ). over (case_text s (signature_in sheet p.signature) vs) out) (cells-taken n e)

module _ (sheet : List ℕ) (p : Problem) (r : SizeRange) (room : ℕ) (h : TriableUpTo sheet p r.high.0 room) (size : ℕ) (above : r.low.0 ≤ size) (below : size ≤ r.high.0) where
  -- a smaller size is not refused either
  pub size-searchable : Searchable sheet p size
  size-searchable =
      record {
        positive = omega (arith, r.positive);
        size = omega (arith, h.searchable.size);
        accepted = h.searchable.accepted;
        few = omega (arith, h.searchable.few, cell_count-grows size r.high.0 below (signature_in sheet p.signature));
      }

  pub size-case : case_length size (problem_in sheet p).symbols ≤ room
  size-case = omega (arith, h.case, case_length-grows size r.high.0 below (problem_in sheet p).symbols)

-- the number of cells, said of the problem
pub cells_is : (sheet : List ℕ) (p : Problem) (s n : ℕ) → n ≡ cell_count s (signature_in sheet p.signature) → n ≡ cell_count s (problem_in sheet p).symbols
unfolding problem_in
cells_is sheet p s n e = e

-- all checks passed
pub all-sizes : (sheet : List ℕ) (p : Problem) (r : SizeRange) (room : ℕ) → ProblemAsRead sheet p → cell_count r.high.0 (problem_in sheet p).symbols ≤ max_plain_cells
    → case_length r.high.0 (problem_in sheet p).symbols ≤ room → TriableUpTo sheet p r.high.0 room
unfolding problem_in
all-sizes sheet p r room h few case =
    record {
      searchable = record { positive = omega (arith, r.positive, r.ordered); size = r.within; accepted = h.accepted; few = few };
      case = case;
    }

-- the length of a case and the room for it, by the symbols in code and as read
pub length-is : (sheet : List ℕ) (p : Problem) (size n : ℕ) → n ≡ case_length size (signature_in sheet p.signature) → n ≡ case_length size (problem_in sheet p).symbols
unfolding problem_in
length-is sheet p size n e = e

pub case-room : (sheet : List ℕ) (p : Problem) (size room : ℕ) → case_length size (problem_in sheet p).symbols ≤ room → case_length size (signature_in sheet p.signature) ≤ room
unfolding problem_in
case-room sheet p size room h = h
