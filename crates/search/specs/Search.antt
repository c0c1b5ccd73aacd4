-- What the parts of the search ask and leave, and what the whole search answers: the theory's walk, cut off where it needs more choices than are allowed.
use Rattle.std.specs.Prelude.{◌≡◌, Bool, true, false, cond, List, [], map, ℕ, zero, suc, ◌+◌, ◌-◌, ◌*◌, ◌≤◌, ◌<◌, eqb, length, get_or, take, Result, Ok, Err, Some, None}
use Rattle.std.specs.Prelude as rust
use Rattle.std.proofs.Math.Option.{Option, none, some}
use Rattle.std.proofs.Math.Seq.{slice}
use Rattle.theory.specs.Lists.{all}
use Rattle.theory.specs.Propositional.{PropClause}
use Rattle.theory.specs.Walk.{Partial, lowest, walked}
use Rattle.theory.specs.Claims.Counts.{is_numbered}
use Rattle.theory.specs.Valuation.{setting_of}
use Rattle.allowance.specs.AllowedWalk.{WalkEnd, ended, stopped}
use Rattle.allowance.specs.Claims.AllowedWalk.{cut}
use Rattle.propagation.specs.Clauses.{coded}
use Rattle.propagation.specs.Weights.{changed, more}
use Rattle.propagation.specs.WorkArea.{trail, WorkHeld, Prefers, Loaded, Frame}
use Rattle.propagation.specs.Forcing.{Forces}
use Rattle.propagation.specs.Advance.{sinking, Calm}
use Rattle.indices.specs.declared.PropVar.{PropVar}
use Rattle.propagation.specs.declared.Front.{Front}
use Rattle.propagation.specs.declared.units.Clash.{Clash}
use Rattle.search.specs.declared.Outcome.{Outcome}
use Rattle.search.specs.declared.Outcome.TheVariants.{Found, Exhausted, Stopped}
use Rattle.search.specs.Moves.{BackTo, NoneOpen, OpenUnder}

-- a number of the values' region as the theory has it: 0 unset, 1 yes, else no
abbrev pub partial_value : ℕ → Option Bool
partial_value zero = none
partial_value (suc zero) = some true
partial_value (suc (suc z)) = some false

abbrev pub partial_of : List ℕ → Partial
partial_of zs = map partial_value zs

-- how the search says that the walk ends: where it found a valuation, that of the values' region, with the choices that it made
abbrev pub end_told : Outcome → List ℕ → WalkEnd
end_told (Found choices) zs = ended (some (setting_of zs)) choices
end_told (Exhausted choices) zs = ended none choices
end_told Stopped zs = stopped

-- From w to w', the search ended as the walk over the clauses does with so many choices allowed, and changed only the values, the trail and the weights.
pub record Solved (v : ℕ) (cs : List PropClause) (first : ℕ → Bool) (allowed : ℕ) (r : Outcome) (w w' : List ℕ) : Type 0 where
  pub ends : end_told r (take v w') ≡ cut allowed (walked v cs first)
  pub frame : Frame v (length cs) w w'

-- What a search asks: a work area that is loaded with m clauses.
pub record Loadable (v m : ℕ) (w : List ℕ) : Type 0 where
  pub clauses : List PropClause
  pub first : ℕ → Bool
  pub loaded : Loaded v clauses first w
  pub number : length clauses ≡ m

-- What a search leaves, of whatever clauses and first values the work area is loaded with.
abbrev pub Solves : ℕ → ℕ → ℕ → List ℕ → Outcome → List ℕ → Type 0
Solves v m allowed w r w' =
    (cs : List PropClause) (first : ℕ → Bool) → Loaded v cs first w → length cs ≡ m → Solved v cs first allowed r w w'

-- a work area from which a search starts: its trail has what the clauses force, none of it false in its clauses yet, and every clause is quiet
pub record Started (v : ℕ) (cs : List PropClause) (first : ℕ → Bool) (len : ℕ) (w : List ℕ) : Type 0 where
  pub numbered : all (all (is_numbered v)) cs ≡ true
  pub held : WorkHeld v (coded cs) 0 len w
  pub prefers : Prefers v v first w
  pub calm : Calm v (coded cs) 0 len w
  pub forces : Forces v (coded cs) [] (trail w v len)

pub record Startable (v len : ℕ) (w : List ℕ) : Type 0 where
  pub clauses : List PropClause
  pub first : ℕ → Bool
  pub started : Started v clauses first len w

-- a search from where it starts, of whatever clauses and first values
abbrev pub Searches : ℕ → ℕ → ℕ → List ℕ → Outcome → List ℕ → Type 0
Searches v len allowed w r w' =
    (cs : List PropClause) (first : ℕ → Bool) → Started v cs first len w → Solved v cs first allowed r w w'

-- From w to w', every clause was looked at once: a search can start, or a clause is wholly false.
pub record Begun (v : ℕ) (cs : List PropClause) (first : ℕ → Bool) (len : ℕ) (clash : Bool) (w w' : List ℕ) : Type 0 where
  pub frame : Frame v (length cs) w w'
  pub started : clash ≡ false → Started v cs first len w'
  pub failed : clash ≡ true → walked v cs first ≡ record { answer = none; choices = 0 }

-- of whatever clauses and first values the work area is loaded with
abbrev pub Begins : ℕ → ℕ → List ℕ → Result ℕ Clash → List ℕ → Type 0
Begins v m w (Ok len) w' =
    (cs : List PropClause) (first : ℕ → Bool) → Loaded v cs first w → length cs ≡ m → Begun v cs first len false w w'
Begins v m w (Err clash) w' =
    (cs : List PropClause) (first : ℕ → Bool) → Loaded v cs first w → length cs ≡ m → Begun v cs first clash.0 true w w'

-- the theory's answer to which variable is the lowest unset one, as the code has it
abbrev pub lowest_of : Option ℕ → rust.Option PropVar
lowest_of none = None
lowest_of (some x) = Some (record { 0 = x })

-- the lowest variable that has no value in the values' region
abbrev pub lowest_unset : List ℕ → rust.Option PropVar
lowest_unset zs = lowest_of (lowest (partial_of zs))

-- the literal of variable x that is tried first
abbrev pub preferred : ℕ → ℕ → List ℕ → ℕ
preferred v x w = 2 * x + cond (eqb (get_or w (6 * v + x) 0) 1) 0 1

-- w with the weights of the clauses that have the literal of entry n raised by its part
abbrev pub floated : ℕ → ℕ → List ℕ → List ℕ
floated v n w =
    changed (more (64 * sinking v n w + 1)) (slice (get_or w (2 * v + 2 * sinking v n w) 0) (get_or w (2 * v + 2 * sinking v n w + 1) 0) w) w

-- the newest of len entries is taken off
pub record Popped (v : ℕ) (cs : List (List ℕ)) (head len : ℕ) (w : List ℕ) (head' : ℕ) (w' : List ℕ) : Type 0 where
  pub held : WorkHeld v cs head' (len - 1) w'
  pub frame : Frame v (length cs) w w'
  pub same : trail w' v (len - 1) ≡ trail w v (len - 1)

-- of whatever clauses the work area holds
abbrev pub Pops : ℕ → ℕ → ℕ → List ℕ → ℕ → List ℕ → Type 0
Pops v head len w head' w' = (cs : List (List ℕ)) → WorkHeld v cs head len w → Popped v cs head len w head' w'

-- the number of entries made false in their clauses, after the newest of len is off
pub record Lowered (head len head' : ℕ) : Type 0 where
  pub down : len - 1 < head → head' ≡ len - 1
  pub kept : head ≤ len - 1 → head' ≡ head

-- back to the latest open choice, or none is open
pub record Returned (v : ℕ) (cs : List (List ℕ)) (head len : ℕ) (w : List ℕ) (head' len' : ℕ) (found : Bool) (w' : List ℕ) : Type 0 where
  pub held : WorkHeld v cs head' len' w'
  pub frame : Frame v (length cs) w w'
  pub back : found ≡ true → BackTo (trail w v len) (trail w' v len')
  pub level : found ≡ true → OpenUnder head (trail w v len) → head' + 1 ≡ len'
  pub closed : found ≡ false → NoneOpen (trail w v len)

-- of whatever clauses the work area holds; where no choice was open the trail is empty
abbrev pub Returns : ℕ → ℕ → ℕ → List ℕ → rust.Option Front → List ℕ → Type 0
Returns v head len w (Some back) w' =
    (cs : List (List ℕ)) → WorkHeld v cs head len w → Returned v cs head len w back.head back.len true w'
Returns v head len w None w' =
    (cs : List (List ℕ)) → WorkHeld v cs head len w → Returned v cs head len w 0 0 false w'
