-- What Renumber and Least form answer and leave at each of their refusals, and where they write.
use Prim.Native.Nat.{ℕ, ◌≤◌, ◌<◌}
use mathlib.Core.Path.{◌≡◌, refl}
use mathlib.Core.Bool.{true, false}
use mathlib.Core.List.{List}
use lib.Dec.{leb}
use lib.ListN.{length}
use Rattle.theory.specs.Syntax.{Signature}
use Rattle.theory.specs.Refusals.{Refusal, Answer, answer, refused, unplaced, needing, ◌>>=◌, check}
use Rattle.theory.specs.Problem as theory
use Rattle.theory.specs.CaseText.{Case, case_text, case_length, read_case}
use Rattle.theory.specs.Columns.{placed_problem, placed_case}
use Rattle.theory.proofs.Tests.{leb-of-≤, leb-of-<}
use Rattle.theory.proofs.Answers.{bind-step, bind-refused, check-of-true, check-of-false}
use Rattle.theory.proofs.CaseText.{read-exactly}
use Rattle.renumbering.specs.Renumbering.{renumbered}
use Rattle.renumbering.specs.LeastForm.{least_form}
use Rattle.renumbered_cases.specs.RenumberedCases.{entries_of, is_listed, renumbered_text, least_form_text}
use Rattle.syntax.specs.declared.limits.Problem.{Problem}
use Rattle.syntax.specs.Signatures.{max_cells, signature_in}
use Rattle.clauses.specs.Names.{Readable}
use Rattle.problem.specs.Problems.{problem_in}
use Rattle.problem.specs.Modes.{read_in}
use Rattle.columns.proofs.CasesOpened.{sheet-short, sheet-stops, case-stops, goes_on}
use Rattle.case_forms.specs.Cells.{first_cells, renumbered_cells, least_cells, CaseHeld}

-- the cells of a case
module _ (s : ℕ) (g : Signature) (cells : List ℕ) (room : ℕ) where
  pub no-list : (list : List ℕ) → is_listed s list ≡ false → renumbered_cells s g cells list room ≡ refused (unplaced 25)
  unfolding renumbered_cells
  no-list list h = bind-refused _ _ (unplaced 25) (check-of-false _ (unplaced 25) h)

  pub no_room : (list : List ℕ) → is_listed s list ≡ true → room < case_length s g → renumbered_cells s g cells list room ≡ refused (needing 11 (case_length s g))
  unfolding renumbered_cells
  no_room list l h =
      bind-step _ _ tt _ (check-of-true _ (unplaced 25) l) (bind-refused _ _ (needing 11 (case_length s g)) (check-of-false _ (needing 11 (case_length s g)) (leb-of-< (case_length s g) room h)))

  pub case-said : (list : List ℕ) → is_listed s list ≡ true → case_length s g ≤ room → renumbered_cells s g cells list room ≡ answer (case_text s g (renumbered s g (entries_of list) (first_cells s g cells)))
  unfolding renumbered_cells
  case-said list l h =
      bind-step _ _ tt _ (check-of-true _ (unplaced 25) l) (bind-step _ _ tt _ (check-of-true _ (needing 11 (case_length s g)) (leb-of-≤ (case_length s g) room h)) refl)

  pub no-room-least : room < case_length s g → least_cells s g cells room ≡ refused (needing 11 (case_length s g))
  unfolding least_cells
  no-room-least h = bind-refused _ _ (needing 11 (case_length s g)) (check-of-false _ (needing 11 (case_length s g)) (leb-of-< (case_length s g) room h))

  pub form-said : case_length s g ≤ room → least_cells s g cells room ≡ answer (case_text s g (least_form s g (first_cells s g cells)))
  unfolding least_cells
  form-said h = bind-step _ _ tt _ (check-of-true _ (needing 11 (case_length s g)) (leb-of-≤ (case_length s g) room h)) refl

-- what is left of each call once sheet and case are accepted
abbrev renumbered_from : List ℕ → ℕ → theory.Problem → Case → Answer (List ℕ)
renumbered_from list room p k = do
  _ ← check (is_listed k.size list) (unplaced 25)
  _ ← check (leb (case_length k.size p.symbols) room) (needing 11 (case_length k.size p.symbols))
  answer (case_text k.size p.symbols (renumbered k.size p.symbols (entries_of list) k.values))

abbrev least_from : ℕ → theory.Problem → Case → Answer (List ℕ)
least_from room p k = do
  _ ← check (leb (case_length k.size p.symbols) room) (needing 11 (case_length k.size p.symbols))
  answer (case_text k.size p.symbols (least_form k.size p.symbols k.values))

module _ (sheet case : List ℕ) (room : ℕ) where
  -- a sheet that is refused
  module _ (q : Refusal) (e : placed_problem sheet ≡ refused q) where
    pub sheet-refusal : (list : List ℕ) → renumbered_text sheet case list room ≡ refused q
    unfolding renumbered_text
    sheet-refusal list = sheet-stops (renumbered_from list room) sheet case q e

    pub sheet-refusal-least : least_form_text sheet case room ≡ refused q
    unfolding least_form_text
    sheet-refusal-least = sheet-stops (least_from room) sheet case q e

  -- a sheet that was accepted
  module _ (p : Problem) (read : read_in false sheet ≡ answer (problem_in sheet p)) where
    abbrev g : Signature
    g = signature_in sheet p.signature

    module _ (q : Refusal) (e : placed_case g case ≡ refused q) where
      pub case-refusal : (list : List ℕ) → renumbered_text sheet case list room ≡ refused q
      unfolding renumbered_text
      case-refusal list = case-stops (renumbered_from list room) sheet case p read q e

      pub case-refusal-least : least_form_text sheet case room ≡ refused q
      unfolding least_form_text
      case-refusal-least = case-stops (least_from room) sheet case p read q e

    module _ (s : ℕ) (cells : List ℕ) (e : read_case g case ≡ answer (record { size = s; values = first_cells s g cells })) where
      abbrev case_read : Case
      case_read = record { size = s; values = first_cells s g cells }

      pub case-held : Readable sheet p.signature → max_cells ≤ length cells → CaseHeld sheet p.signature s cells
      case-held n l =
          let o = read-exactly g case case_read e in
          record {
            readable = n;
            short = sheet-short sheet p read;
            positive = o.positive;
            small = o.within;
            room = l;
            values = o.interpretation;
          }

      pub cells_left : (list : List ℕ) → renumbered_text sheet case list room ≡ renumbered_cells s g cells list room
      unfolding renumbered_text renumbered_cells problem_in
      cells_left list = goes_on (renumbered_from list room) sheet case p read case_read e

      pub cells-left-least : least_form_text sheet case room ≡ least_cells s g cells room
      unfolding least_form_text least_cells problem_in
      cells-left-least = goes_on (least_from room) sheet case p read case_read e
