-- Settles, of the calls, from what is proved of the search's definition.
use Prim.Native.Nat.{ℕ}
use mathlib.Core.Path.{◌≡◌, sym, ap, ◌∙◌}
use mathlib.Core.Bool.{Bool, true, false}
use mathlib.Core.List.{List}
use lib.ListN.{length}
use Rattle.std.specs.Prelude.{Ok}
use Rattle.theory.specs.Refusals.{answer}
use Rattle.theory.specs.Problem.{Problem}
use Rattle.theory.specs.Operations.{nothing}
use Rattle.theory.specs.Claims.Settling.{Unsatisfiable}
use Rattle.theory.specs.PlainSearch.{plain_result}
use Rattle.theory.proofs.Settling.{settling}
use Rattle.theory.proofs.PlainFinds.{plain-finds}
use Rattle.naming.specs.NamedOperations.{read_problem_in}
use Rattle.naming.proofs.FindsLeast.{named-finds-least}
use Rattle.symmetry.specs.SymmetricOperations.{find_result_with}
use Rattle.symmetry.proofs.FindsObeying.{finds-obeying}
use Rattle.answers.specs.Answers.{FindAnswer, find_in}
use Rattle.answers.specs.declared.PlainResult.TheVariants.{Nothing}
use Rattle.theorems.specs.Unstopped.{UnstoppedCall}
use Rattle.theorems.specs.Settles.{Settles}
use Rattle.theorems.proofs.Unstopped.{unstopped, none-taken}
use Rattle.theorems.proofs.Demand2.{no-case}

none_in : (named symmetry : Bool) (sheet : List ℕ) (p : Problem) (low high work room : ℕ) → read_problem_in named sheet ≡ answer p
    → find_result_with named symmetry sheet low high work room ≡ answer (nothing true) → Unsatisfiable p
none_in false false sheet p low high work room read e = settling sheet p low high work room read e
none_in true false sheet p low high work room read e = (named-finds-least sheet p low high work room read).settles e
none_in named true sheet p low high work room read e = (finds-obeying named sheet p low high work room read).settles e

find-settles : (sheet : List ℕ) (p : Problem) (low high : ℕ) (named symmetry : Bool) → read_problem_in named sheet ≡ answer p
    → (r : FindAnswer) (work work' output output' : List ℕ) → UnstoppedCall sheet low high named symmetry r work work' output output' → r ≡ Ok (Nothing true) → Unsatisfiable p
find-settles sheet p low high named symmetry read r work work' output output' f e =
    let c = unstopped sheet low high named symmetry r work work' output output' f (none-taken r true e) in
    none_in named symmetry sheet p low high (length work) (length output) read
    (no-case (find_result_with named symmetry sheet low high (length work) (length output)) true (sym c.answer ∙ ap find_in e))

pub settles : Settles
settles =
    record {
      find = find-settles;
      find_plain = λ sheet p low high read r output output' f e.
          (plain-finds sheet p low high (length output) read).settles (no-case (plain_result sheet low high (length output)) true (sym f.answer ∙ ap find_in e));
    }
