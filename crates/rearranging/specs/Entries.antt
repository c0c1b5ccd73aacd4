-- The entries that the code's rearrangement has, and the place of each element among them.
use Rattle.std.specs.Prelude.{ℕ, ◌≤◌, ◌<◌, ◌≡◌, cond, List, length, get_or, take}
use Rattle.theory.specs.Lists.{elem}
use Rattle.renumbering.specs.Rearrangements.{comes_from}
use Rattle.rearranging.specs.declared.rearrangement.Rearrangement.{Rearrangement}

-- the entries
abbrev pub rearrangement_in : Rearrangement → List ℕ
rearrangement_in r = take r.count r.entries

-- the first place of an element among entries, 8 where it has none
abbrev pub place_among : List ℕ → ℕ → ℕ
place_among p d = cond (elem d p) (comes_from p d) 8

-- 0 stands behind the last entry, and each element's place among the places
pub record EntriesHeld (r : Rearrangement) : Type 0 where
  pub few : r.count ≤ 8
  pub room : length r.entries ≡ 8
  pub entry : (i : ℕ) → get_or (rearrangement_in r) i 0 ≡ get_or r.entries i 0
  pub placed : length r.places ≡ 8
  pub place : (d : ℕ) → d < 8 → get_or r.places d 0 ≡ place_among (rearrangement_in r) d
