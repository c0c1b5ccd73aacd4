-- Loading clauses into a work area, in two passes over the same clauses, and what each step asks: `tally` counts every clause's literals, `bounds` lays out
-- the blocks, `enter` enters every clause; at last `prefer` tells the first values. Clauses are lists of codes of literals, repeats included.
use Rattle.std.specs.Prelude.{◌≡◌, Bool, false, List, [], ◌∷◌, ◌++◌, map, ℕ, ◌+◌, ◌*◌, ◌≤◌, ◌<◌, ◌^◌, length, get_or}
use Rattle.propagation.specs.Clauses.{once}
use Rattle.propagation.specs.WorkArea.{Prefers}
use Rattle.theory.specs.Lists.{elem}
use Rattle.loading.specs.Filling.{from, to, occurrences, literals, area_end, Filling}

-- every literal is one of the v variables'
abbrev pub InRange : ℕ → List ℕ → Type 0
InRange v clause = (i : ℕ) → i < length clause → get_or clause i 0 < 2 * v

-- the literals of the clauses are counted, where the ends of their blocks will stand; the rest is still zero, but for what stands where the first values will
pub record Tallied (v : ℕ) (cs : List (List ℕ)) (w : List ℕ) : Type 0 where
  pub counts : (x : ℕ) → x < 2 * v → get_or w (2 * v + 2 * x + 1) 0 ≡ occurrences x cs
  pub values : (i : ℕ) → i < v → get_or w i 0 ≡ 0
  pub rest : (i : ℕ) → 7 * v ≤ i → get_or w i 0 ≡ 0

-- the clauses es, the first of cs, are entered
abbrev pub Entered : ℕ → List (List ℕ) → List (List ℕ) → List ℕ → Type 0
Entered v cs es w = Filling v cs (map once es) w

-- one clause more can be counted
pub record Tallyable (v : ℕ) (clause w : List ℕ) : Type 0 where
  pub seen : List (List ℕ)
  pub tallied : Tallied v seen w
  pub range : InRange v clause
  pub room : 7 * v ≤ length w
  pub fits : literals seen + length clause < 2 ^ 32

-- the counted clauses, m in all, fit in the work area
pub record Boundable (v m : ℕ) (w : List ℕ) : Type 0 where
  pub clauses : List (List ℕ)
  pub tallied : Tallied v clauses w
  pub number : length clauses ≡ m
  pub small : v < 2 ^ 18
  pub room : area_end v clauses ≤ length w
  pub fits : area_end v clauses < 2 ^ 32

-- the clause is the next one of those counted, of which so many are entered
pub record Enterable (v : ℕ) (clause : List ℕ) (number : ℕ) (w : List ℕ) : Type 0 where
  pub before : List (List ℕ)
  pub after : List (List ℕ)
  pub entered : Entered v (before ++ (clause ∷ after)) before w
  pub at : length before ≡ number
  pub range : InRange v clause
  pub short : length clause < 64
  pub fits : area_end v (before ++ (clause ∷ after)) < 2 ^ 32

-- literal u can be entered in the last of the clauses, es and then d, whose weight stands at c
pub record LiteralEnterable (v u c : ℕ) (w : List ℕ) : Type 0 where
  pub cs : List (List ℕ)
  pub es : List (List ℕ)
  pub d : List ℕ
  pub filling : Filling v cs (es ++ (d ∷ [])) w
  pub literal : u < 2 * v
  pub at : c ≡ 7 * v + length es
  pub space : elem u d ≡ false → to v u w < from v u w + occurrences u cs
  pub short : length d < 63
  pub fits : area_end v cs < 2 ^ 32

-- of whatever clauses were counted before, the clause is counted too
abbrev pub Tallies : ℕ → List ℕ → List ℕ → List ℕ → Type 0
Tallies v clause w w' = (seen : List (List ℕ)) → Tallied v seen w → Tallied v (seen ++ (clause ∷ [])) w'

-- of whatever m clauses were counted, none is entered and each can be
abbrev pub LaysOut : ℕ → ℕ → List ℕ → List ℕ → Type 0
LaysOut v m w w' = (cs : List (List ℕ)) → Tallied v cs w → length cs ≡ m → Entered v cs [] w'

-- of whatever clauses es, so many, are entered and whatever ds come after it, the clause is entered next
abbrev pub EntersNext : ℕ → List ℕ → ℕ → List ℕ → List ℕ → Type 0
EntersNext v clause number w w' =
    (es ds : List (List ℕ)) → Entered v (es ++ (clause ∷ ds)) es w → length es ≡ number
    → Entered v (es ++ (clause ∷ ds)) (es ++ (clause ∷ [])) w'

-- whatever clauses are entered stay so
abbrev pub KeepsClauses : ℕ → List ℕ → List ℕ → Type 0
KeepsClauses v w w' = (cs es : List (List ℕ)) → Entered v cs es w → Entered v cs es w'

-- where the first values of the variables below a are told, those of the variables from a to b are told after them: the given one for each
abbrev pub PrefersMore : ℕ → ℕ → ℕ → Bool → List ℕ → List ℕ → Type 0
PrefersMore v a b value w w' =
    (first : ℕ → Bool) → Prefers v a first w → ((x : ℕ) → a ≤ x → x < b → first x ≡ value) → Prefers v b first w'
