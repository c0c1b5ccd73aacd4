-- How far a pass over the lists of arguments has come: which lists are open, and what is known of each list that is noted.
use Rattle.std.specs.Prelude.{ℕ, suc, ◌≤◌, ◌<◌, ◌≡◌, cond, List, [], ◌∷◌, eqb, get_or, drop, Option, Some, None}
use Rattle.tptp.specs.Written.{Item}
use Rattle.tptp.specs.Scanning.{commas}
use Rattle.argument_lists.specs.Lists.{max_lists, list_arities, Room, Counts}
use Rattle.argument_lists.specs.declared.pass.Pass.{Pass}

-- by what number a list is linked to: one more than its place, or 0 where there is none
abbrev pub link_to : Option ℕ → ℕ
link_to None = 0
link_to (Some k) = suc k

-- the open lists from the innermost on, each noted before the one inside it
abbrev pub Falling : ℕ → List ℕ → Type 0
Falling n [] = Unit {0}
Falling n (k ∷ s) = (k < n) × Falling k s

-- each open list is linked to the next one around it, 0 being none
abbrev pub Linked : List ℕ → ℕ → List ℕ → Type 0
Linked links o [] = o ≡ 0
Linked links o (k ∷ s) = (o ≡ suc k) × Linked links (get_or links k 0) s

-- the arguments of list j that are still to come in these items, where d lists are open inside the innermost of s
abbrev pub to_come : List ℕ → ℕ → List Item → ℕ → ℕ
to_come [] d us j = 0
to_come (k ∷ s) d us j = cond (eqb k j) (commas us d) (to_come s (suc d) us j)

-- of the lists that open from the begin of the pass on, with ns arguments, those before `count` are noted; the items us are left
pub record Telling (ns : List ℕ) (us : List Item) (counts links : List ℕ) (p : Pass) : Type 0 where
  pub stack : List ℕ
  pub falling : Falling p.count stack
  pub linked : Linked links (link_to p.innermost) stack
  pub told : (j : ℕ) → j < p.count → Counts (get_or counts j 0) (to_come stack p.beyond us j) (get_or ns j 0)
  pub left : p.count < max_lists → (p.beyond ≡ 0) × (drop p.count ns ≡ list_arities us)
  pub few : p.count ≤ max_lists
  pub room : Room counts links

-- some pass has come so far
abbrev pub Tellable : List ℕ → List ℕ → Pass → Type 0
Tellable counts links p = (ns : List ℕ) × ((us : List Item) × Telling ns us counts links p)
