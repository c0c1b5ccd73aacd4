-- A call of Find that is not stopped, the number of choices left out: what is said of Find beside its allowance is said of these calls (document 02, slip 12).
use Rattle.std.specs.Prelude.{ℕ, ◌≡◌, Bool, List, Ok, Err}
use Rattle.answers.specs.declared.PlainResult.TheVariants.{Found, Nothing}
use Rattle.finding.specs.declared.allowed.FindResult.TheVariants as allowed
use Rattle.finding.specs.Calls.{AllowedAnswer, FindCall}
use Rattle.answers.specs.Answers.{FindAnswer}

-- the answer with the choices made beside it; a refusal has no number
abbrev pub counting : FindAnswer → ℕ → AllowedAnswer
counting (Ok (Found s n)) k = Ok (allowed.Found s n k)
counting (Ok (Nothing b)) k = Ok (allowed.Nothing b k)
counting (Err q) k = Err q

-- a call of Find, with whatever allowance, that is not stopped and answers r, whatever the number of choices
pub record UnstoppedCall (sheet : List ℕ) (low high : ℕ) (named symmetry : Bool) (r : FindAnswer) (work work' output output' : List ℕ) : Type 0 where
  pub allowance : ℕ
  pub choices : ℕ
  pub call : FindCall sheet low high named symmetry allowance (counting r choices) work work' output output'
