-- The place of a variable of a flattened clause: the clause's own in order, then the new ones.
use Rattle.std.specs.Prelude.{ℕ, ◌+◌, List, map, eqb, length}
use Rattle.theory.specs.Lists.{place_that}
use Rattle.theory.specs.Syntax.{Term, Terms}
use Rattle.theory.specs.Flattening.{FlatVariable, own, new, place_or0, variables_for}

abbrev pub place_in : List ℕ → FlatVariable → ℕ
place_in owns (own x) = place_or0 (place_that (eqb x) owns)
place_in owns (new i) = length owns + i

-- the places of the variables that stand for terms
abbrev pub places : List ℕ → List Term → Terms → List ℕ
places owns lifted ts = map (place_in owns) (variables_for lifted ts)
