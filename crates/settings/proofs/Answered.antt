-- What Setting answers and leaves at each of its refusals, and where it writes.
use Prim.Native.Nat.{ℕ, ◌≤◌, ◌<◌}
use mathlib.Core.Path.{◌≡◌, refl, ap, ◌∙◌}
use mathlib.Core.Bool.{false}
use mathlib.Core.List.{List}
use lib.Dec.{leb}
use lib.ListN.{take}
use Rattle.theory.specs.Syntax.{Signature}
use Rattle.theory.specs.Cells.{cell_count}
use Rattle.theory.specs.Propositional.{prop_count}
use Rattle.theory.specs.Valuation.{valuation_of}
use Rattle.theory.specs.Refusals.{Refusal, Answer, answer, refused, needing, ◌>>=◌, check}
use Rattle.theory.specs.Problem as theory
use Rattle.theory.specs.CaseText.{Case, read_case}
use Rattle.theory.specs.Columns.{placed_problem, placed_case}
use Rattle.theory.specs.Operations.{setting_text}
use Rattle.theory.proofs.Tests.{leb-of-≤, leb-of-<}
use Rattle.theory.proofs.Answers.{bind-step, bind-refused, check-of-true, check-of-false}
use Rattle.syntax.specs.declared.limits.Problem.{Problem}
use Rattle.syntax.specs.Signatures.{signature_in}
use Rattle.problem.specs.Problems.{problem_in}
use Rattle.problem.specs.Modes.{read_in}
use Rattle.columns.proofs.CasesOpened.{sheet-stops, case-stops, goes_on}
use Rattle.settings.specs.Cells.{cells_text}
use Rattle.settings.proofs.Blocks.{first-cells}

-- the cells of a case
module _ (s : ℕ) (g : Signature) (cells : List ℕ) (room : ℕ) where
  pub no_room : room < prop_count s g → cells_text s g cells room ≡ refused (needing 11 (prop_count s g))
  unfolding cells_text
  no_room h = bind-refused _ _ (needing 11 (prop_count s g)) (check-of-false _ (needing 11 (prop_count s g)) (leb-of-< (prop_count s g) room h))

  pub bytes-said : prop_count s g ≤ room → cells_text s g cells room ≡ answer (valuation_of s g cells)
  unfolding cells_text
  bytes-said h = bind-step _ _ tt _ (check-of-true _ (needing 11 (prop_count s g)) (leb-of-≤ (prop_count s g) room h)) refl

-- the whole call: what is left once sheet and case are accepted
abbrev setting_from : ℕ → theory.Problem → Case → Answer (List ℕ)
setting_from room p k = do
  _ ← check (leb (prop_count k.size p.symbols) room) (needing 11 (prop_count k.size p.symbols))
  answer (valuation_of k.size p.symbols k.values)

module _ (sheet case : List ℕ) (room : ℕ) where
  pub sheet-refusal : (q : Refusal) → placed_problem sheet ≡ refused q → setting_text sheet case room ≡ refused q
  unfolding setting_text
  sheet-refusal q e = sheet-stops (setting_from room) sheet case q e

  -- a sheet that was accepted
  module _ (p : Problem) (read : read_in false sheet ≡ answer (problem_in sheet p)) where
    abbrev g : Signature
    g = signature_in sheet p.signature

    pub case-refusal : (q : Refusal) → placed_case g case ≡ refused q → setting_text sheet case room ≡ refused q
    unfolding setting_text
    case-refusal q e = case-stops (setting_from room) sheet case p read q e

    pub cells_left : (s : ℕ) (cells : List ℕ) → read_case g case ≡ answer (record { size = s; values = take (cell_count s g) cells }) → setting_text sheet case room ≡ cells_text s g cells room
    unfolding setting_text cells_text problem_in
    cells_left s cells e =
        goes_on (setting_from room) sheet case p read (record { size = s; values = take (cell_count s g) cells }) e
        ∙ ap (λ (σ : List ℕ). check (leb (prop_count s g) room) (needing 11 (prop_count s g)) >>= (λ (u : Unit {0}). answer σ)) (first-cells s g cells)
