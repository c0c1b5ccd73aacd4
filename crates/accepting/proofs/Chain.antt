-- The chain of From solver's refusals: what comes of a sheet, a size, a text and a setting at each of them.
use Prim.Native.Nat.{ℕ, ◌≤◌, ◌<◌}
use mathlib.Core.Path.{◌≡◌, refl, sym, ap, ◌∙◌}
use mathlib.Core.Bool.{true, false}
use mathlib.Core.Option.{none, some}
use mathlib.Core.List.{List}
use Rattle.theory.specs.Syntax.{Signature}
use Rattle.theory.specs.Cells.{is_model}
use Rattle.theory.specs.Propositional.{prop_count}
use Rattle.theory.specs.Valuation.{is_functional, read_back}
use Rattle.theory.specs.Refusals.{Refusal, answer, refused, unplaced, needing}
use Rattle.theory.specs.Problem.{Problem, read_problem}
use Rattle.theory.specs.CaseText.{case_text, case_length}
use Rattle.theory.specs.Columns.{placed_problem}
use Rattle.theory.specs.Operations.{is_size}
use Rattle.theory.proofs.Tests.{leb-of-≤, leb-of-<}
use Rattle.theory.proofs.Answers.{bind-step, bind-refused, check-of-true, check-of-false, or_refuse-of-some, or_refuse-of-none}
use Rattle.syntax.specs.declared.size.DomainSize.{DomainSize}
use Rattle.std.specs.Prelude.{Some, None}
use Rattle.syntax.specs.Sizes.{checked_size}
use Rattle.syntax.proofs.Sizes.{checked-size, refused-size, size-within}
use Rattle.syntax.specs.declared.limits.Problem as code
use Rattle.problem.specs.Problems.{problem_in, Accepted}
use Rattle.problem.specs.Modes.{read_in}
use Rattle.problem.proofs.ModeRead.{plain_in}
use Rattle.columns.proofs.CasesOpened.{sheet-opened, sheet-short}
use Rattle.solver.specs.Replies.{claims_none, states, read_reply}
use Rattle.solver.specs.SolverText.{model_case, claimed_none, stated_case, solver_text}
use Rattle.accepting.specs.Accepting.{reply_outcome, SizedProblem}
use Rattle.accepting.proofs.MostVariables.{most-variables}

-- a setting that is stated
module _ (p : Problem) (s room : ℕ) (σ : List ℕ) where
  abbrev g : Signature
  g = p.symbols

  pub not-functional : is_functional s g σ ≡ false → stated_case p s room σ ≡ refused (unplaced 14)
  unfolding stated_case
  not-functional h = bind-refused _ _ (unplaced 14) (check-of-false _ (unplaced 14) h)

  module _ (functional : is_functional s g σ ≡ true) where
    pub no-model : is_model s g p.clauses (read_back s g σ) ≡ false → stated_case p s room σ ≡ refused (unplaced 19)
    unfolding stated_case
    no-model h = bind-step _ _ tt _ (check-of-true _ (unplaced 14) functional) (bind-refused _ _ (unplaced 19) (check-of-false _ (unplaced 19) h))

    module _ (model : is_model s g p.clauses (read_back s g σ) ≡ true) where
      pub no_room : room < case_length s g → stated_case p s room σ ≡ refused (needing 11 (case_length s g))
      unfolding stated_case
      no_room h =
          bind-step _ _ tt _ (check-of-true _ (unplaced 14) functional)
          (bind-step _ _ tt _ (check-of-true _ (unplaced 19) model)
          (bind-refused _ _ (needing 11 (case_length s g)) (check-of-false _ (needing 11 (case_length s g)) (leb-of-< (case_length s g) room h))))

      pub case-said : case_length s g ≤ room → stated_case p s room σ ≡ answer (model_case (case_text s g (read_back s g σ)))
      unfolding stated_case
      case-said h =
          bind-step _ _ tt _ (check-of-true _ (unplaced 14) functional)
          (bind-step _ _ tt _ (check-of-true _ (unplaced 19) model)
          (bind-step _ _ tt _ (check-of-true _ (needing 11 (case_length s g)) (leb-of-≤ (case_length s g) room h)) refl))

-- a text
module _ (p : Problem) (s : ℕ) (text : List ℕ) (room : ℕ) where
  pub unread : read_reply (prop_count s p.symbols) text ≡ none → reply_outcome p s text room ≡ refused (unplaced 18)
  unfolding reply_outcome
  unread e = bind-refused _ _ (unplaced 18) (or_refuse-of-none _ (unplaced 18) e)

  pub claimed : read_reply (prop_count s p.symbols) text ≡ some claims_none → reply_outcome p s text room ≡ answer claimed_none
  unfolding reply_outcome
  claimed e = bind-step _ _ claims_none _ (or_refuse-of-some _ (unplaced 18) claims_none e) refl

  pub stated : (σ : List ℕ) → read_reply (prop_count s p.symbols) text ≡ some (states σ) → reply_outcome p s text room ≡ stated_case p s room σ
  unfolding reply_outcome
  stated σ e = bind-step _ _ (states σ) _ (or_refuse-of-some _ (unplaced 18) (states σ) e) refl

-- the whole call: the sheet is refused,
pub sheet-refusal : (sheet : List ℕ) (n : ℕ) (text : List ℕ) (room : ℕ) (q : Refusal) → placed_problem sheet ≡ refused q → solver_text sheet n text room ≡ refused q
unfolding solver_text
sheet-refusal sheet n text room q e = bind-refused _ _ q e

-- or it was read
module _ (sheet : List ℕ) (p : code.Problem) (read : read_in false sheet ≡ answer (problem_in sheet p)) (n : ℕ) where
  plain : read_problem sheet ≡ answer (problem_in sheet p)
  plain = sym (plain_in sheet) ∙ read

  pub size-refusal : (text : List ℕ) (room : ℕ) → checked_size n ≡ None → solver_text sheet n text room ≡ refused (unplaced 8)
  unfolding solver_text
  size-refusal text room e = bind-step _ _ _ _ (sheet-opened sheet p read) (bind-refused _ _ (unplaced 8) (check-of-false _ (unplaced 8) (refused-size n e)))

  module _ (d : DomainSize) (e : checked_size n ≡ Some d) where
    taken : (is_size n ≡ true) × (d.0 ≡ n)
    taken = checked-size n d e

    size-taken : (1 ≤ d.0) × (d.0 ≤ 8)
    size-taken = rw taken.1 (size-within n taken.0)

    pub sized-problem : Accepted sheet p → SizedProblem sheet p d.0
    unfolding problem_in
    sized-problem h =
        record {
          positive = size-taken.0;
          size = size-taken.1;
          bytes = sheet-short sheet p read;
          accepted = h;
          few = most-variables sheet (problem_in sheet p) d.0 plain size-taken.1;
        }

    pub reply-left : (text : List ℕ) (room : ℕ) → solver_text sheet n text room ≡ reply_outcome (problem_in sheet p) d.0 text room
    unfolding solver_text reply_outcome
    reply-left text room =
        bind-step _ _ _ _ (sheet-opened sheet p read) (bind-step _ _ tt _ (check-of-true _ (unplaced 8) taken.0) refl)
        ∙ ap (λ (j : ℕ). reply_outcome (problem_in sheet p) j text room) (sym taken.1)
