-- The walk with an allowance: the walk of theory's Walk with so many choices left, stopped exactly if one more is needed and none is left (document 02, slip 12).
use Rattle.std.specs.Prelude.{ℕ, zero, suc, pred, ◌+◌, ◌-◌, Bool, not, List, set, replicate}
use Rattle.std.proofs.Math.Option.{Option, none, some}
use Rattle.theory.specs.Propositional.{PropClause, prop_count}
use Rattle.theory.specs.Problem.{Problem}
use Rattle.theory.specs.Walk.{Partial, Status, failed, forces, quiet, event, lowest, bytes_of, yes_first}
use Rattle.symmetry.specs.ConstantClauses.{prop_clauses_with}

-- how it ends: with the valuation found, or none, and the number of choices made; or stopped
pub data WalkEnd : Type 0 where
  ended : Option (List ℕ) → ℕ → WalkEnd
  stopped : WalkEnd

-- k choices made before
abbrev pub after : ℕ → WalkEnd → WalkEnd
after k stopped = stopped
after k (ended o n) = ended o (k + n)

-- after the value tried first, with so many choices left: the other value, where the first finds nothing; that other value is not a choice
abbrev pub other_value : ℕ → WalkEnd → (ℕ → WalkEnd) → WalkEnd
other_value left stopped other = stopped
other_value left (ended (some σ) n) other = ended (some σ) n
other_value left (ended none n) other = after n (other (left - n))

-- a choice, if one is left
abbrev pub choose_within : ℕ → (ℕ → WalkEnd) → (ℕ → WalkEnd) → WalkEnd
choose_within zero one other = stopped
choose_within (suc left) one other = after 1 (other_value left (one left) other)

-- one step: fail, set what a clause forces, end with all variables set, or choose a value for the lowest unset variable
abbrev pub step_within : (Partial → ℕ → WalkEnd) → (ℕ → Bool) → Partial → Status → Option ℕ → ℕ → WalkEnd
step_within go first π failed o left = ended none 0
step_within go first π (forces l) o left = go (set π (pred l.number) (some l.positive)) left
step_within go first π quiet none left = ended (some (bytes_of π)) 0
step_within go first π quiet (some i) left = choose_within left (go (set π i (some (first i)))) (go (set π i (some (not (first i)))))

-- the walk from a partial valuation, at most n steps deep, with so many choices left
abbrev pub walk_within : ℕ → List PropClause → (ℕ → Bool) → Partial → ℕ → WalkEnd
walk_within zero cs first π left = ended none 0
walk_within (suc n) cs first π left = step_within (walk_within n cs first) first π (event π cs) (lowest π) left

-- the walk over v variables, none set
unfoldable pub walked_within : ℕ → List PropClause → (ℕ → Bool) → ℕ → WalkEnd
walked_within v cs first left = walk_within (suc v) cs first (replicate v none) left

-- the walk over a problem's clauses at size s, with the constant clauses where they are used
unfoldable pub searched_within : Bool → ℕ → Problem → ℕ → WalkEnd
searched_within used s p left = walked_within (prop_count s p.symbols) (prop_clauses_with used s p.symbols p.clauses) (yes_first s p.symbols) left
