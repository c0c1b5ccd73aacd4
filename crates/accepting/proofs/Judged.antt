-- The interpretation that a setting says, in the first cells, and whether it is a model.
use Prim.Native.Nat.{ℕ}
use mathlib.Core.Path.{◌≡◌, sym, ap, ◌∙◌}
use mathlib.Core.Bool.{Bool, not}
use mathlib.Core.List.{List}
use native.Mathlib.Omega.{arith}
use lib.ListN.{length, take}
use Rattle.std.specs.Prelude.{is_some}
use Rattle.std.specs.Prelude as rust
use Rattle.theory.specs.Syntax.{Signature}
use Rattle.theory.specs.Cells.{cell_count, is_interpretation, is_model}
use Rattle.theory.specs.Valuation.{read_back}
use Rattle.theory.proofs.Valuations.{read_back-is_interpretation}
use Rattle.syntax.specs.declared.limits.Problem.{Problem}
use Rattle.syntax.specs.Signatures.{max_cells, signature_in}
use Rattle.interpretation.proofs.Tabling.{cells-limited}
use Rattle.problem.specs.Problems.{problem_in}
use Rattle.valuations.specs.declared.numbering.Numbering.{Numbering}
use Rattle.valuations.proofs.Bits.{is-counted}
use Rattle.judging.specs.declared.failures.Failure.{Failure}
use Rattle.judging.specs.Failures.{failure_in}
use Rattle.judging.specs.Cases.{CellsLent, judged_in}
use Rattle.judging.proofs.Verdicts.{model-told}
use Rattle.accepting.specs.Accepting.{SettingLent, FunctionalSetting}

-- a byte for each variable
pub setting-counted : (sheet : List ℕ) (p : Problem) (n : Numbering) (s : ℕ) (σ : List ℕ) → SettingLent sheet p n s σ → length σ ≡ n.count
setting-counted sheet p n s σ h = is-counted s (signature_in sheet p.signature) σ h.valuation ∙ sym (h.numbered sheet).count

module _ (sheet : List ℕ) (p : Problem) (n : Numbering) (s : ℕ) (σ : List ℕ) (h : FunctionalSetting sheet p n s σ) (cells : List ℕ) (long : length cells ≡ max_cells)
    (read : (sheet : List ℕ) → take (cell_count s (signature_in sheet p.signature)) cells ≡ read_back s (signature_in sheet p.signature) σ) where
  abbrev g : Signature
  g = signature_in sheet p.signature

  -- the cells are an interpretation
  pub cells-lent : CellsLent sheet p cells s
  cells-lent =
      record {
        positive = h.lent.sized.positive;
        size = h.lent.sized.size;
        accepted = h.lent.sized.accepted;
        held = omega (arith, long, cells-limited sheet p.signature h.lent.sized.accepted.readable.limited s h.lent.sized.size);
        values = ap (is_interpretation s g) (read sheet) ∙ read_back-is_interpretation s g σ h.lent.valuation h.functional;
      }

  -- a model exactly if nothing fails
  pub is-judged : (o : rust.Option Failure) → failure_in o ≡ judged_in sheet p cells s → (b : Bool) → is_some o ≡ not b → b ≡ is_model s (problem_in sheet p).symbols (problem_in sheet p).clauses (read_back s (problem_in sheet p).symbols σ)
  unfolding problem_in
  is-judged o e b t = model-told sheet p cells s o e b t ∙ ap (is_model s g (problem_in sheet p).clauses) (read sheet)
