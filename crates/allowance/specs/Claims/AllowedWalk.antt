-- AllowedWalk: the walk with an allowance is the walk of theory's Walk, with its answer and its number of choices, cut off where it needs more choices than are left.
use Rattle.std.specs.Prelude.{ℕ, ◌≡◌, Bool, cond, List, leb}
use Rattle.theory.specs.Propositional.{PropClause}
use Rattle.theory.specs.Walk.{Walked, walked}
use Rattle.allowance.specs.AllowedWalk.{WalkEnd, ended, stopped, walked_within}

-- the end of a walk with so many choices left
abbrev pub cut : ℕ → Walked → WalkEnd
cut left w = cond (leb w.choices left) (ended w.answer w.choices) stopped

-- the theorem, for all clauses and all orders of values
abbrev pub AllowedWalkHolds : Type 0
AllowedWalkHolds = (v : ℕ) (cs : List PropClause) (first : ℕ → Bool) (left : ℕ) → walked_within v cs first left ≡ cut left (walked v cs first)
