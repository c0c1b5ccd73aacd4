-- AllowedFind: Find with an allowance, on bytes and with both switches. Where it is not stopped it answers as Find does without one; it is stopped exactly if one more choice is needed and none is left;
-- and a larger allowance that is not refused never turns found or none into another answer.
use Rattle.std.specs.Prelude.{ℕ, ◌≤◌, ◌<◌, ◌≡◌, ◌↔◌, Bool, true, false, ◌&&◌, List, leb}
use Rattle.theory.specs.Refusals.{Refusal, answer, refused, unplaced}
use Rattle.theory.specs.Problem.{Problem}
use Rattle.theory.specs.Operations.{max_size, Search}
use Rattle.naming.specs.NamedOperations.{mode_problem, read_problem_in}
use Rattle.symmetry.specs.SymmetricOperations.{find_result_with}
use Rattle.allowance.specs.AllowedSearch.{counted_search}
use Rattle.allowance.specs.AllowedFind.{max_allowance, finished, stopped, find_within}
use Rattle.allowance.specs.Claims.Allowance.{UsedUp}

-- the choices that the search of a problem that was read makes without an allowance
abbrev pub choices_needed : Bool → Bool → Problem → ℕ → ℕ → ℕ
choices_needed named symmetry p low high = (counted_search symmetry (mode_problem named p) low high).choices

-- the theorem, of the arguments of a call other than the allowance
pub record AllowedFind (named symmetry : Bool) (sheet : List ℕ) (p : Problem) (low high work room : ℕ) : Type 0 where
  -- a result that is not stopped is Find's without an allowance, and its number is the choices of that search
  pub same : (a n : ℕ) (r : Search) → find_within named symmetry sheet low high a work room ≡ answer (finished r n)
      → (find_result_with named symmetry sheet low high work room ≡ answer r) × (n ≡ choices_needed named symmetry p low high) × (n ≤ a)
  -- where there is a result without an allowance and the choices are allowed, it is that result
  pub enough : (a : ℕ) (r : Search) → find_result_with named symmetry sheet low high work room ≡ answer r → choices_needed named symmetry p low high ≤ a → a ≤ max_allowance
      → find_within named symmetry sheet low high a work room ≡ answer (finished r (choices_needed named symmetry p low high))
  -- where there is one and fewer are allowed, the answer is stopped at the size at which they are used up; the number is the allowance
  pub too_few : (a : ℕ) (r : Search) → find_result_with named symmetry sheet low high work room ≡ answer r → a < choices_needed named symmetry p low high → a ≤ max_allowance
      → (s : ℕ) × (find_within named symmetry sheet low high a work room ≡ answer (stopped s a)) × UsedUp symmetry (mode_problem named p) low high a s
  -- and stopped is answered only so
  pub only_too_few : (a s n : ℕ) → find_within named symmetry sheet low high a work room ≡ answer (stopped s n)
      → (n ≡ a) × (a < choices_needed named symmetry p low high) × UsedUp symmetry (mode_problem named p) low high a s
  -- a larger allowance that is not refused never turns found or none into another answer
  pub larger : (a b n : ℕ) (r : Search) → find_within named symmetry sheet low high a work room ≡ answer (finished r n) → a ≤ b → b ≤ max_allowance
      → find_within named symmetry sheet low high b work room ≡ answer (finished r n)
  -- a larger allowance than the limit is 24, right after 8
  pub too_large : (a : ℕ) → max_allowance < a → (leb 1 low && leb high max_size && leb low high) ≡ true → find_within named symmetry sheet low high a work room ≡ refused (unplaced 24)
  pub sizes_first : (a : ℕ) → (leb 1 low && leb high max_size && leb low high) ≡ false → find_within named symmetry sheet low high a work room ≡ refused (unplaced 8)

-- it holds of every sheet that is read
abbrev pub AllowedFindHolds : Type 0
AllowedFindHolds = (named symmetry : Bool) (sheet : List ℕ) (p : Problem) (low high work room : ℕ) → read_problem_in named sheet ≡ answer p
    → AllowedFind named symmetry sheet p low high work room

-- and of every sheet: an allowance within its limit adds no refusal and takes none away
abbrev pub SameRefusals : Type 0
SameRefusals = (named symmetry : Bool) (sheet : List ℕ) (low high a work room : ℕ) (r : Refusal) → a ≤ max_allowance
    → (find_within named symmetry sheet low high a work room ≡ refused r) ↔ (find_result_with named symmetry sheet low high work room ≡ refused r)
