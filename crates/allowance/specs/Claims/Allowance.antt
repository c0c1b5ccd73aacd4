-- Allowance: with n choices in the search without an allowance, an allowance of n or more gives its answer and n; a smaller one is used up and the search stopped.
use Rattle.std.specs.Prelude.{ℕ, zero, suc, ◌-◌, ◌≤◌, ◌<◌, ◌≡◌, Bool, true, map}
use Rattle.std.proofs.Math.Option.{Option, none}
use Rattle.theory.specs.Lists.{all, sum, up_from}
use Rattle.theory.specs.Syntax.{clause_ok}
use Rattle.theory.specs.Problem.{Problem}
use Rattle.theory.specs.CaseText.{Case}
use Rattle.symmetry.specs.Obeying.{smallest_with, searched_with}
use Rattle.allowance.specs.AllowedSearch.{counted_search, answered, stopped_at, search_within}

-- the choices that the walks of n sizes from low on make in all
abbrev pub choices_from : Bool → Problem → ℕ → ℕ → ℕ
choices_from used p low n = sum (map (λ s. (searched_with used s p).choices) (up_from low n))

-- the size at which an allowance is used up: the sizes before it have no case and need at most the allowance, and with its own choices more is needed
pub record UsedUp (used : Bool) (p : Problem) (low high allowance s : ℕ) : Type 0 where
  pub from : low ≤ s
  pub to : s ≤ high
  pub before : (t : ℕ) → low ≤ t → t < s → (searched_with used t p).answer ≡ none
  pub allowed : choices_from used p low (s - low) ≤ allowance
  pub needed : allowance < choices_from used p low (suc s - low)

-- the theorem, of a problem and sizes, with the constant clauses and without them
pub record Allowance (used : Bool) (p : Problem) (low high : ℕ) : Type 0 where
  -- the search without an allowance finds what is searched for: the least model at the smallest size that has one, and none exactly if there is none
  pub plain : zero < low → all (clause_ok p.symbols) p.clauses ≡ true → (counted_search used p low high).case ≡ smallest_with used p low high
  -- an allowance of at least its choices gives its answer with their number
  pub enough : (a : ℕ) → (counted_search used p low high).choices ≤ a
      → search_within used p low high a ≡ answered (counted_search used p low high).case (counted_search used p low high).choices
  -- a smaller one is used up
  pub too_few : (a : ℕ) → a < (counted_search used p low high).choices → (s : ℕ) × (search_within used p low high a ≡ stopped_at s) × UsedUp used p low high a s
  -- an answer that is not stopped is that of the search without an allowance, with the number of its choices, which are not more than the allowance
  pub only : (a : ℕ) (o : Option Case) (n : ℕ) → search_within used p low high a ≡ answered o n
      → (o ≡ (counted_search used p low high).case) × (n ≡ (counted_search used p low high).choices) × (n ≤ a)
  -- a larger allowance gives the same
  pub larger : (a b : ℕ) (o : Option Case) (n : ℕ) → a ≤ b → search_within used p low high a ≡ answered o n → search_within used p low high b ≡ answered o n

-- it holds of every problem and all sizes
abbrev pub AllowanceHolds : Type 0
AllowanceHolds = (used : Bool) (p : Problem) (low high : ℕ) → Allowance used p low high
