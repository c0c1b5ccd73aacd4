-- The walk: the search for a valuation by unit propagation and choices, with the number of choices made (document 02, slip 12).
use Rattle.std.specs.Prelude.{ℕ, zero, suc, pred, ◌+◌, Bool, true, false, cond, not, ◌&&◌, List, [], ◌∷◌, eqb, get_or, set, replicate}
use Rattle.std.specs.Bool.{beq}
use Rattle.std.proofs.Math.Option.{Option, none, some}
use Rattle.theory.specs.Lists.{any, all, select, concat_map, place_that}
use Rattle.theory.specs.Syntax.{is_function, Signature}
use Rattle.theory.specs.Cells.{cell_kinds}
use Rattle.theory.specs.Propositional.{PropLiteral, PropClause, width, prop_count}
use Rattle.theory.specs.PropClauses.{prop_clauses}
use Rattle.theory.specs.Problem.{Problem}

-- each variable is unset, or has a truth value
abbrev pub Partial : Type 0
Partial = List (Option Bool)

-- the value of variable n, counted from 1
abbrev pub lookup : Partial → ℕ → Option Bool
lookup π n = get_or (some false ∷ π) n (some false)

-- the variable has no value
abbrev pub is_unset : Option Bool → Bool
is_unset none = true
is_unset (some b) = false

-- the variable has this value
abbrev pub is_set_to : Bool → Option Bool → Bool
is_set_to b none = false
is_set_to b (some v) = beq b v

-- the literal is true
abbrev pub literal_is_true : Partial → PropLiteral → Bool
literal_is_true π l = is_set_to l.positive (lookup π l.number)

-- the literal's variable is unset
abbrev pub literal_is_unset : Partial → PropLiteral → Bool
literal_is_unset π l = is_unset (lookup π l.number)

-- the two are the same literal
abbrev pub same_literal : PropLiteral → PropLiteral → Bool
same_literal l m = beq l.positive m.positive && eqb l.number m.number

-- a clause under a partial valuation: wholly false; forcing its one unset literal, the rest being false; or neither
pub data Status : Type 0 where
  failed : Status
  forces : PropLiteral → Status
  quiet : Status

-- the status of a clause without a true literal, by its unset ones; repeats count once
abbrev pub status_of : PropClause → Status
status_of [] = failed
status_of (l ∷ ls) = cond (all (same_literal l) ls) (forces l) quiet

-- the status of a clause
abbrev pub status : Partial → PropClause → Status
status π c = cond (any (literal_is_true π) c) quiet (status_of (select (literal_is_unset π) c))

-- the first that is not quiet
abbrev pub first_status : Status → Status → Status
first_status failed r = failed
first_status (forces l) r = forces l
first_status quiet r = r

-- the status of the first clause that is not quiet
abbrev pub event : Partial → List PropClause → Status
event π [] = quiet
event π (c ∷ cs) = let r = event π cs in first_status (status π c) r

-- the lowest unset variable, counted from 0
abbrev pub lowest : Partial → Option ℕ
lowest π = place_that is_unset π

-- a truth value as a byte
abbrev pub byte_of : Option Bool → ℕ
byte_of none = 0
byte_of (some b) = cond b 1 0

-- the bytes of a partial valuation whose variables are all set
abbrev pub bytes_of : Partial → List ℕ
bytes_of [] = []
bytes_of (o ∷ π) = byte_of o ∷ bytes_of π

-- the valuation found, and the number of choices made
pub record Walked : Type 0 where
  pub answer : Option (List ℕ)
  pub choices : ℕ

-- a choice: the walk of the value tried first, and that of the other value where the first finds nothing
abbrev pub choose : Option (List ℕ) → Walked → Walked → Walked
choose (some v) a b = record { answer = some v; choices = suc a.choices }
choose none a b = record { answer = b.answer; choices = suc (a.choices + b.choices) }

-- one step: fail, set what a clause forces, end with all variables set, or choose a value for the lowest unset variable
abbrev pub walk_step : (Partial → Walked) → (ℕ → Bool) → Partial → Status → Option ℕ → Walked
walk_step go first π failed o = record { answer = none; choices = 0 }
walk_step go first π (forces l) o = go (set π (pred l.number) (some l.positive))
walk_step go first π quiet none = record { answer = some (bytes_of π); choices = 0 }
walk_step go first π quiet (some i) =
    let one = go (set π i (some (first i))) in
    let other = go (set π i (some (not (first i)))) in
    choose one.answer one other

-- the walk from a partial valuation, at most n steps deep; first tells the value that each variable, counted from 0, is tried at first
abbrev pub walk : ℕ → List PropClause → (ℕ → Bool) → Partial → Walked
walk zero cs first π = record { answer = none; choices = 0 }
walk (suc n) cs first π = walk_step (walk n cs first) first π (event π cs) (lowest π)

-- the walk over v variables, none set; each step sets a variable, so v + 1 steps are enough
unfoldable pub walked : ℕ → List PropClause → (ℕ → Bool) → Walked
walked v cs first = walk (suc v) cs first (replicate v none)

-- the value that each variable is tried at first: yes for a function's, no for a predicate's
unfoldable pub yes_first : ℕ → Signature → ℕ → Bool
yes_first s g i = get_or (concat_map (λ k. replicate (width s k) (is_function k)) (cell_kinds s g)) i false

-- the walk over a problem's clauses at size s
unfoldable pub searched : ℕ → Problem → Walked
searched s p = walked (prop_count s p.symbols) (prop_clauses s p.symbols p.clauses) (yes_first s p.symbols)
