-- All rearrangements that begin with some entries, and the least of the cells that they make.
use Rattle.std.specs.Prelude.{ℕ, ◌-◌, ◌≤◌, ◌≡◌, true, cond, List, [], ◌∷◌}
use Rattle.theory.specs.Lists.{all}
use Rattle.renumbering.specs.Rearrangements.{is_rearrangement, continued}
use Rattle.renumbering.specs.LeastForm.{not_after}
use Rattle.rearranging.specs.declared.rearrangement.Rearrangement.{Rearrangement}
use Rattle.rearranging.specs.Entries.{rearrangement_in, EntriesHeld}

-- the first in value order of w and the lists us, taken one by one
abbrev pub lesser_of : List ℕ → List (List ℕ) → List ℕ
lesser_of w [] = w
lesser_of w (u ∷ us) = lesser_of (cond (not_after u w) u w) us

-- the first entries of a rearrangement: every way to go on ends in one
pub record Extendable (s : ℕ) (r : Rearrangement) : Type 0 where
  pub entries : EntriesHeld r
  pub within : r.count ≤ s
  pub rearranged : all (is_rearrangement s) (continued s (s - r.count) (rearrangement_in r)) ≡ true
