-- The first cells as they are lent, and from the first failure to yes or no.
use Prim.Native.Nat.{ℕ, ◌-◌, ◌≤◌}
use mathlib.Core.Path.{◌≡◌, refl, sym, ap, ◌∙◌}
use mathlib.Core.Bool.{Bool, true, false, not}
use mathlib.Core.List.{List}
use native.Mathlib.Omega.{arith}
use lib.ListN.{length, take}
use Rattle.std.specs.Prelude.{Some, None, is_some, is_none}
use Rattle.std.specs.Prelude as rust
use Rattle.theory.specs.Syntax.{Signature}
use Rattle.theory.specs.Truth.{no_failure}
use Rattle.theory.specs.Cells.{cell_count, is_interpretation, is_model, judged}
use Rattle.theory.proofs.Interpretations.{length-interpretation}
use Rattle.syntax.specs.declared.limits.Problem.{Problem}
use Rattle.syntax.specs.Signatures.{signature_in}
use Rattle.interpretation.specs.declared.tables.Tables.{Tables}
use Rattle.interpretation.specs.Tables.{TablesOf}
use Rattle.problem.specs.Problems.{problem_in}
use Rattle.judging.specs.declared.failures.Failure.{Failure}
use Rattle.judging.specs.Failures.{ProblemLent, failure_in}
use Rattle.judging.specs.Cases.{CellsLent, cells_of, judged_in, is_model_in}

-- the first cells, as they are lent
module _ (sheet : List ℕ) (p : Problem) (cells : List ℕ) (s : ℕ) (h : CellsLent sheet p cells s) (t : Tables) (of : (sheet : List ℕ) → TablesOf (signature_in sheet p.signature) s t) where
  abbrev g : Signature
  g = signature_in sheet p.signature

  first-cells : take (t.cells - 0) cells ≡ cells_of sheet p cells s
  first-cells = let e : t.cells - 0 ≡ cell_count s g = omega (arith, (of sheet).cells) in ap (λ (n : ℕ). take n cells) e

  pub cells-held : t.cells ≤ length cells
  cells-held = omega (arith, (of sheet).cells, h.held)

  pub problem-lent : ProblemLent sheet p t.arities t.functions t.bases (take (t.cells - 0) cells) s
  problem-lent =
      let values : is_interpretation s g (take (t.cells - 0) cells) ≡ true = ap (is_interpretation s g) first-cells ∙ h.values in
      record {
        positive = h.positive;
        size = h.size;
        accepted = h.accepted;
        tables =
            record {
              arities = (of sheet).arities;
              kinds-held = (of sheet).kinds-held;
              kind = (of sheet).kind;
              bases-held = (of sheet).bases-held;
              base = (of sheet).base;
              cells = length-interpretation s g (take (t.cells - 0) cells) values;
            };
        values = values;
      }

  pub cells-judged : judged s (problem_in sheet p).symbols (problem_in sheet p).clauses (take (t.cells - 0) cells) ≡ judged_in sheet p cells s
  cells-judged = ap (judged s (problem_in sheet p).symbols (problem_in sheet p).clauses) first-cells

-- a model exactly if nothing fails
module _ (sheet : List ℕ) (p : Problem) (cells : List ℕ) (s : ℕ) (o : rust.Option Failure) (e : failure_in o ≡ judged_in sheet p cells s) where
  unfailed : is_none o ≡ is_model_in sheet p cells s
  unfolding is_model
  unfailed = alike o ∙ ap no_failure e
    where
      alike : (o : rust.Option Failure) → is_none o ≡ no_failure (failure_in o)
      alike (Some f) = refl
      alike None = refl

  pub model-told : (b : Bool) → is_some o ≡ not b → b ≡ is_model_in sheet p cells s
  model-told b t = twice b ∙ ap not (sym t) ∙ unfailed
    where
      twice : (b : Bool) → b ≡ not (not b)
      twice true = refl
      twice false = refl
