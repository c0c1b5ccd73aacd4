-- NotStopped: an answer that is not stopped is Find's without an allowance, so what is known of that holds of it.
use Prim.Native.Nat.{ℕ}
use mathlib.Core.Path.{◌≡◌, subst}
use mathlib.Core.Bool.{Bool, true, false}
use mathlib.Core.List.{List}
use Rattle.theory.specs.Refusals.{answer}
use Rattle.theory.specs.Problem.{Problem}
use Rattle.theory.specs.Operations.{Search}
use Rattle.theory.specs.Claims.FindsLeast.{FindsLeast}
use Rattle.theory.proofs.Answers.{unbind}
use Rattle.naming.specs.Claims.FindsLeast.{NamedFindsLeast}
use Rattle.symmetry.specs.SymmetricOperations.{find_result_with}
use Rattle.symmetry.specs.Claims.FindsObeying.{FindsObeying}
use Rattle.symmetry.specs.Claims.Switches.{Told}
use Rattle.symmetry.proofs.Searched.{placed-read}
use Rattle.symmetry.proofs.FindsObeying.{finds-obeying}
use Rattle.symmetry.proofs.Switches.{switches}
use Rattle.symmetry.proofs.ToldNo.{told-no}
use Rattle.allowance.specs.AllowedFind.{finished, find_within}
use Rattle.allowance.specs.Claims.NotStopped.{AnswersUnstopped, NotStopped}
use Rattle.allowance.proofs.AllowedFind.{allowed-find}

-- whatever the sheet is
pub not_stopped : (named symmetry : Bool) (sheet : List ℕ) (low high a work room n : ℕ) (r : Search) → find_within named symmetry sheet low high a work room ≡ answer (finished r n)
    → find_result_with named symmetry sheet low high work room ≡ answer r
unfolding find_within
not_stopped named symmetry sheet low high a work room n r e =
    unbind _ _ (finished r n) e λ (p : Problem) h _. ((allowed-find named symmetry sheet p low high work room (placed-read named sheet p h)).same a n r e).0

result-of : (named symmetry : Bool) (sheet : List ℕ) (low high : ℕ) (r : Search) (a : AnswersUnstopped named symmetry sheet low high r) → find_result_with named symmetry sheet low high a.work a.room ≡ answer r
result-of named symmetry sheet low high r a = not_stopped named symmetry sheet low high a.allowance a.work a.room a.choices r a.found

told : (named : Bool) (sheet : List ℕ) (low high : ℕ) (r r⁺ : Search) → AnswersUnstopped named false sheet low high r → AnswersUnstopped named true sheet low high r⁺ → Told sheet named low high r r⁺
told named sheet low high r r⁺ a b =
    record { work = a.work; room = a.room; no = result-of named false sheet low high r a; work⁺ = b.work; room⁺ = b.room; yes = result-of named true sheet low high r⁺ b }

-- the theorem
pub answers-hold : NotStopped
answers-hold =
    record {
      least = λ sheet p low high r read a. subst (FindsLeast sheet p low high) (result-of false false sheet low high r a) (told-no.finds sheet p low high a.work a.room read);
      least_named = λ sheet p low high r read a. subst (NamedFindsLeast p low high) (result-of true false sheet low high r a) (told-no.finds_named sheet p low high a.work a.room read);
      obeying = λ named sheet p low high r read a.
          subst (FindsObeying p low high) (result-of named true sheet low high r a) (finds-obeying named sheet p low high a.work a.room read);
      same_in_both_modes = λ symmetry sheet low high r r⁺ a b.
          switches.same_in_both_modes symmetry sheet low high a.work a.room b.work b.room r r⁺ (result-of false symmetry sheet low high r a) (result-of true symmetry sheet low high r⁺ b);
      same_size = λ named sheet low high r r⁺ a b. switches.same_size named sheet low high r r⁺ (told named sheet low high r r⁺ a b);
      same_case = λ named sheet p low high r r⁺ read first a b. switches.same_case named sheet p low high r r⁺ read first (told named sheet low high r r⁺ a b);
    }
