-- The allowance, of the calls (document 02, slip 12), with both switches: the number that found and none hold is that of the written definition; Find is stopped exactly if it needs one more choice and none is left; and a larger
-- allowance that is not refused never turns found or none into another answer. What the choices are says `allowance/specs/AllowedSearch`; that all other answers are those of `Unstopped`, `every_answer`.
use Rattle.std.specs.Prelude.{ℕ, ◌≤◌, ◌<◌, ◌≡◌, ◌⊎◌, ◌↔◌, Bool, true, false, ◌&&◌, List, leb, length, take, replicate, Ok, Err}
use Rattle.theory.specs.Refusals as theory
use Rattle.theory.specs.Refusals.{answer, refused, unplaced}
use Rattle.theory.specs.Problem.{Problem}
use Rattle.theory.specs.Operations.{max_size}
use Rattle.naming.specs.NamedOperations.{read_problem_in, mode_problem}
use Rattle.allowance.specs.AllowedFind.{max_allowance}
use Rattle.allowance.specs.Claims.Allowance.{UsedUp}
use Rattle.allowance.specs.Claims.AllowedFind.{choices_needed}
use Rattle.answers.specs.declared.Refusal.{Refusal}
use Rattle.answers.specs.Answers.{FindAnswer}
use Rattle.finding.specs.declared.allowed.FindResult.TheVariants.{Found, Nothing, Stopped}
use Rattle.finding.specs.Calls.{AllowedAnswer, allowed_in, FindCall}
use Rattle.theorems.specs.Models.{Model}
use Rattle.theorems.specs.Unstopped.{counting}

-- the call is not refused: it found, it says none, or it is stopped
abbrev pub Unrefused : AllowedAnswer → Type 0
Unrefused r = (q : Refusal) → r ≡ Err q → ⊥

-- the call is stopped at some size
abbrev pub IsStopped : AllowedAnswer → Type 0
IsStopped r = (s : ℕ) × (n : ℕ) × (r ≡ Ok (Stopped s n))

-- of a stopped call with this allowance: all choices that are allowed were made, and at this size one more is needed; no case of a smaller searched size is a model of the sheet as handed in;
-- the output is unchanged, and work is all zeros
pub record StoppedCall (named symmetry : Bool) (p : Problem) (low high allowance s n : ℕ) (work work' output output' : List ℕ) : Type 0 where
  pub number : n ≡ allowance
  pub used_up : UsedUp symmetry (mode_problem named p) low high allowance s
  pub below : (t : ℕ) (d : List ℕ) → low ≤ t → t < s → Model p t d → ⊥
  pub cleared : work' ≡ replicate (length work) 0
  pub unchanged : output' ≡ output

-- two calls answer the same: size and length, or the mark, with the number of choices, and the case that is found
pub record SameWithin (r : AllowedAnswer) (output : List ℕ) (s : AllowedAnswer) (other : List ℕ) : Type 0 where
  pub same : r ≡ s
  pub case : (size n k : ℕ) → r ≡ Ok (Found size n k) → take n output ≡ take n other

-- of the calls on a sheet that is read as p, with these sizes and switches
pub record AllowedCalls (sheet : List ℕ) (p : Problem) (low high : ℕ) (named symmetry : Bool) : Type 0 where
  -- found and none hold the choices of the search without an allowance, which are not more than this allows
  pub found_number : (a : ℕ) (r : AllowedAnswer) (work work' output output' : List ℕ) → FindCall sheet low high named symmetry a r work work' output output'
      → (size n k : ℕ) → r ≡ Ok (Found size n k) → (k ≡ choices_needed named symmetry p low high) × (k ≤ a)
  pub none_number : (a : ℕ) (r : AllowedAnswer) (work work' output output' : List ℕ) → FindCall sheet low high named symmetry a r work work' output output'
      → (settled : Bool) (k : ℕ) → r ≡ Ok (Nothing settled k) → (k ≡ choices_needed named symmetry p low high) × (k ≤ a)
  -- where it is not refused, Find is stopped exactly if that search makes more choices than are allowed,
  pub stops : (a : ℕ) (r : AllowedAnswer) (work work' output output' : List ℕ) → FindCall sheet low high named symmetry a r work work' output output'
      → Unrefused r → IsStopped r ↔ (a < choices_needed named symmetry p low high)
  -- at the size where one more is needed and none is left
  pub stopped : (a : ℕ) (r : AllowedAnswer) (work work' output output' : List ℕ) → FindCall sheet low high named symmetry a r work work' output output'
      → (s n : ℕ) → r ≡ Ok (Stopped s n) → StoppedCall named symmetry p low high a s n work work' output output'
  -- a larger allowance that is not refused never turns found or none into another answer, whatever work and output are lent
  pub larger : (a b : ℕ) → a ≤ b → (r : AllowedAnswer) (work work' output output' : List ℕ) → FindCall sheet low high named symmetry a r work work' output output' → Unrefused r → (IsStopped r → ⊥)
      → (s : AllowedAnswer) (area area' other other' : List ℕ) → FindCall sheet low high named symmetry b s area area' other other' → Unrefused s → SameWithin r output' s other'
  -- 24 stands right after 8
  pub too_large : (a : ℕ) (r : AllowedAnswer) (work work' output output' : List ℕ) → FindCall sheet low high named symmetry a r work work' output output'
      → max_allowance < a → (leb 1 low && leb high max_size && leb low high) ≡ true → allowed_in r ≡ refused (unplaced 24)
  pub sizes_first : (a : ℕ) (r : AllowedAnswer) (work work' output output' : List ℕ) → FindCall sheet low high named symmetry a r work work' output output'
      → (leb 1 low && leb high max_size && leb low high) ≡ false → allowed_in r ≡ refused (unplaced 8)

-- the theorem
pub record Allowance : Type 0 where
  -- of every sheet that is read, all sizes and both switches
  pub calls : (sheet : List ℕ) (p : Problem) (low high : ℕ) (named symmetry : Bool) → read_problem_in named sheet ≡ answer p → AllowedCalls sheet p low high named symmetry
  -- of every sheet: which allowance it is changes no refusal, where none is over the limit
  pub same_refusals : (sheet : List ℕ) (low high : ℕ) (named symmetry : Bool) (a b : ℕ) → a ≤ max_allowance → b ≤ max_allowance
      → (r s : AllowedAnswer) (work work' area' output output' other' : List ℕ)
      → FindCall sheet low high named symmetry a r work work' output output' → FindCall sheet low high named symmetry b s work area' output other'
      → (q : theory.Refusal) → allowed_in r ≡ refused q → allowed_in s ≡ refused q
  -- an answer is stopped, or it is one without a number and the choices made
  pub every_answer : (r : AllowedAnswer) → IsStopped r ⊎ ((x : FindAnswer) × (k : ℕ) × (r ≡ counting x k))
