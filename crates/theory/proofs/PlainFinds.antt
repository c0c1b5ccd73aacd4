-- PlainFinds: what Find plain answers is what is found of the sheet's problem.
use Prim.Native.Nat.{ℕ}
use mathlib.Core.Path.{◌≡◌}
use mathlib.Core.List.{List}
use Rattle.theory.specs.Refusals.{answer}
use Rattle.theory.specs.Problem.{Problem, read_problem}
use Rattle.theory.specs.Operations.{Search}
use Rattle.theory.specs.PlainSearch.{plain_result}
use Rattle.theory.specs.Claims.PlainFinds.{PlainFindsHolds}
use Rattle.theory.proofs.Answers.{unbind}
use Rattle.theory.proofs.Parsing.{read_problem-well_formed, clauses-ok}
use Rattle.theory.proofs.FindsLeast.{Searched, searched-of, searched-least}
use Rattle.theory.proofs.Settling.{none-settled}

plain-searched : (sheet : List ℕ) (p : Problem) (low high room : ℕ) (r : Search) → read_problem sheet ≡ answer p → plain_result sheet low high room ≡ answer r → Searched p low high r
unfolding plain_result
plain-searched sheet p low high room r read e =
    unbind _ _ r e λ (q : Problem) h₁ e₁.
    unbind _ _ r e₁ λ (u₁ : Unit {0}) h₂ e₂.
    unbind _ _ r e₂ λ (u₂ : Unit {0}) _ e₃.
    unbind _ _ r e₃ λ (u₃ : Unit {0}) _ e₄.
    searched-of sheet p q low high r u₁ read h₁ h₂ e₄

pub plain-finds : PlainFindsHolds
plain-finds sheet p low high room read =
    record {
      least = searched-least sheet p low high read (plain_result sheet low high room) (λ r e. plain-searched sheet p low high room r read e);
      settles = λ e. none-settled p low high (clauses-ok p (read_problem-well_formed sheet p read)) (plain-searched sheet p low high room _ read e);
    }
