-- NotStopped: the statements about Find hold of its answers that are not stopped, the number left out: with the constant clauses and without them, plain and in the mode of named terms.
use Rattle.std.specs.Prelude.{ℕ, ◌≡◌, Bool, true, false, List}
use Rattle.theory.specs.Refusals.{answer}
use Rattle.theory.specs.Problem.{Problem, read_problem}
use Rattle.theory.specs.Operations.{Search}
use Rattle.theory.specs.Claims.FindsLeast.{FindsLeast}
use Rattle.naming.specs.NamedReading.{read_named}
use Rattle.naming.specs.NamedOperations.{read_problem_in}
use Rattle.naming.specs.Claims.FindsLeast.{NamedFindsLeast}
use Rattle.symmetry.specs.Obeying.{constants_first}
use Rattle.symmetry.specs.Claims.FindsObeying.{FindsObeying}
use Rattle.symmetry.specs.Claims.Switches.{without_case}
use Rattle.allowance.specs.AllowedFind.{finished, find_within}

-- Find with these switches answers r, after some number of choices, under some allowance, and whatever work and output are lent
pub record AnswersUnstopped (named symmetry : Bool) (sheet : List ℕ) (low high : ℕ) (r : Search) : Type 0 where
  pub allowance : ℕ
  pub choices : ℕ
  pub work : ℕ
  pub room : ℕ
  pub found : find_within named symmetry sheet low high allowance work room ≡ answer (finished r choices)

-- the theorem
pub record NotStopped : Type 0 where
  -- told no, what is found is the least model of all
  pub least : (sheet : List ℕ) (p : Problem) (low high : ℕ) (r : Search) → read_problem sheet ≡ answer p → AnswersUnstopped false false sheet low high r → FindsLeast sheet p low high (answer r)
  pub least_named : (sheet : List ℕ) (p : Problem) (low high : ℕ) (r : Search) → read_named sheet ≡ answer p → AnswersUnstopped true false sheet low high r → NamedFindsLeast p low high (answer r)
  -- told yes, the least of those that obey the constant clauses
  pub obeying : (named : Bool) (sheet : List ℕ) (p : Problem) (low high : ℕ) (r : Search) → read_problem_in named sheet ≡ answer p → AnswersUnstopped named true sheet low high r → FindsObeying p low high (answer r)
  -- plain and mode answer alike under one switch
  pub same_in_both_modes : (symmetry : Bool) (sheet : List ℕ) (low high : ℕ) (r r⁺ : Search) → AnswersUnstopped false symmetry sheet low high r → AnswersUnstopped true symmetry sheet low high r⁺ → r ≡ r⁺
  -- told yes or no: the same size, or both none with the same mark; and the same case where all constants are declared before other functions
  pub same_size : (named : Bool) (sheet : List ℕ) (low high : ℕ) (r r⁺ : Search) → AnswersUnstopped named false sheet low high r → AnswersUnstopped named true sheet low high r⁺ → without_case r ≡ without_case r⁺
  pub same_case : (named : Bool) (sheet : List ℕ) (p : Problem) (low high : ℕ) (r r⁺ : Search) → read_problem_in named sheet ≡ answer p → constants_first p.symbols ≡ true
      → AnswersUnstopped named false sheet low high r → AnswersUnstopped named true sheet low high r⁺ → r ≡ r⁺
