-- One call of Find: what it was handed, the answer r, and each lent buffer before and after. This record is its promise, and the theorems on Find speak of it.
use Rattle.std.specs.Prelude.{ℕ, ◌≡◌, Bool, List, length, Ok, Err}
use Rattle.std.specs.Prelude as rust
use Rattle.theory.specs.Refusals.{Answer, answer, refused}
use Rattle.theory.specs.Operations.{Search, Found, found_case, no_case}
use Rattle.allowance.specs.AllowedFind.{Stoppable, finished, stopped, find_within, allowed_answer, allowed_output, allowed_work}
use Rattle.answers.specs.Answers.{refusal_in}
use Rattle.answers.specs.declared.Refusal.{Refusal}
use Rattle.finding.specs.declared.allowed.FindResult.{FindResult}
use Rattle.finding.specs.declared.allowed.FindResult.TheVariants as find

-- what the code's type of the answer is
abbrev pub AllowedAnswer : Type 0
AllowedAnswer = rust.Result FindResult Refusal

-- Find's size and length, or none with the mark settled, each with the choices made; or stopped
abbrev pub allowed_in : AllowedAnswer → Answer (Stoppable Found)
allowed_in (Ok (find.Found s n k)) = answer (finished (found_case s n) k)
allowed_in (Ok (find.Nothing b k)) = answer (finished (no_case b) k)
allowed_in (Ok (find.Stopped s k)) = answer (stopped s k)
allowed_in (Err r) = refused (refusal_in r)

-- a call that searches with this result under an allowance, or is refused
pub record AllowedCall (result : Answer (Stoppable Search)) (r : AllowedAnswer) (work work' output output' : List ℕ) : Type 0 where
  pub answer : allowed_in r ≡ allowed_answer result
  pub worked : work' ≡ allowed_work result work
  pub left : output' ≡ allowed_output result output

-- Find; plain, or with named terms; with the constant clauses where `symmetry` says so; with so many choices allowed
abbrev pub FindCall : List ℕ → ℕ → ℕ → Bool → Bool → ℕ → AllowedAnswer → List ℕ → List ℕ → List ℕ → List ℕ → Type 0
FindCall sheet low high named symmetry allowance r work work' output output' =
    AllowedCall (find_within named symmetry sheet low high allowance (length work) (length output)) r work work' output output'
