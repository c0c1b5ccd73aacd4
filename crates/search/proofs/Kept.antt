-- What the search keeps: its frame, counted in the theory's clauses, and the first values.
use mathlib.Core.Path.{◌∙◌, subst}
use mathlib.Core.Bool.{Bool}
use mathlib.Core.List.{List}
use Prim.Native.Nat.{ℕ, ◌+◌, ◌*◌}
use native.Mathlib.Omega.{arith}
use lib.ListN.{length, length-map}
use Rattle.theory.specs.Propositional.{PropClause}
use Rattle.propagation.specs.Clauses.{codes, once, coded}
use Rattle.propagation.specs.WorkArea.{Prefers, Frame}

pub frame-coded : {v : ℕ} {w w' : List ℕ} (cs : List PropClause) → Frame v (length (coded cs)) w w' → Frame v (length cs) w w'
frame-coded {v} {w} {w'} cs f = subst (λ (m : ℕ). Frame v m w w') (length-map cs (λ c. once (codes c))) f

pub frame-prefers : {v m : ℕ} (first : ℕ → Bool) {w w' : List ℕ} → Prefers v v first w → Frame v m w w' → Prefers v v first w'
frame-prefers {v} first p f x h = f.bounds (6 * v + x) (omega arith) (omega arith) ∙ p x h
