-- A refused line of the finder's input, as the answer of a search that is not begun.
use Prim.Native.Nat.{ℕ, ◌<◌, ◌^◌}
use mathlib.Core.Path.{◌≡◌, sym, ap, ◌∙◌, subst}
use mathlib.Core.List.{List}
use native.Mathlib.Omega.{arith}
use lib.ListN.{length, take-append-drop}
use Rattle.std.specs.Prelude.{Err}
use Rattle.theory.specs.Refusals.{at_line, refused, unplaced}
use Rattle.theory.specs.Refusals as theory
use Rattle.theory.proofs.Answers.{refused-inj, answer≢refused}
use Rattle.syntax.specs.Faults.{number_of}
use Rattle.syntax.specs.declared.faults.Fault.{Fault}
use Rattle.syntax.specs.declared.faults.Fault.TheVariants as fault
use Rattle.answers.specs.declared.Refusal.{Refusal}
use Rattle.answers.specs.Answers.{refusal_in}
use Rattle.allowance.specs.AllowedFind.{stopped}
use Rattle.printing.specs.Reports.{Reportable}

-- 8 without a line can be printed over an output that no search was lent
unfoldable pub size-refusal : (out : List ℕ) → length out ≡ 24915 → (f : Fault) → f ≡ fault.Size → (r : Refusal) → refusal_in r ≡ at_line (number_of f) 0 → Reportable (Err r) out
size-refusal out h f s r e =
    let is : refusal_in r ≡ unplaced 8 = e ∙ ap (λ (f : Fault). at_line (number_of f) 0) s in
    record {
      result = refused (unplaced 8);
      answered = ap refused is;
      before = out;
      left = sym (take-append-drop 13 out);
      long = h;
      kept = h;
      placed = λ q p. subst (λ (q : theory.Refusal). (q.place.line < 2 ^ 32) × (q.place.column < 2 ^ 32)) (refused-inj _ _ p) (omega arith, omega arith);
      sized = λ s n p. absurd (answer≢refused (stopped s n) (unplaced 8) (sym p));
    }
