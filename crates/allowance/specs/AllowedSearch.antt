-- The search over the sizes low to high: the one without an allowance and the choices that it makes in all, and the one with an allowance that is handed on from size to size.
use Rattle.std.specs.Prelude.{ℕ, suc, ◌+◌, ◌-◌, Bool, List, [], ◌∷◌}
use Rattle.std.proofs.Math.Option.{Option, none, some}
use Rattle.theory.specs.Lists.{up_from}
use Rattle.theory.specs.Valuation.{read_back}
use Rattle.theory.specs.Problem.{Problem}
use Rattle.theory.specs.CaseText.{Case}
use Rattle.symmetry.specs.Obeying.{searched_with}
use Rattle.allowance.specs.AllowedWalk.{WalkEnd, ended, stopped, searched_within}

-- the sizes low to high
abbrev pub sizes : ℕ → ℕ → List ℕ
sizes low high = up_from low (suc high - low)

-- the case that a valuation found at size s is read back as
abbrev pub case_of : ℕ → Problem → List ℕ → Case
case_of s p σ = record { size = s; values = read_back s p.symbols σ }

-- a search without an allowance: the case found, and the choices made over all sizes until then
pub record Counted : Type 0 where
  pub case : Option Case
  pub choices : ℕ

-- the size s, where the walk found this and made so many choices, and then the other sizes if it found nothing
abbrev pub counted_size : ℕ → Problem → Option (List ℕ) → ℕ → Counted → Counted
counted_size s p (some σ) n others = record { case = some (case_of s p σ); choices = n }
counted_size s p none n others = record { case = others.case; choices = n + others.choices }

-- the search over these sizes, with the constant clauses where they are used
abbrev pub counted_sizes : Bool → Problem → List ℕ → Counted
counted_sizes used p [] = record { case = none; choices = 0 }
counted_sizes used p (s ∷ ss) = counted_size s p (searched_with used s p).answer (searched_with used s p).choices (counted_sizes used p ss)

-- the search over the sizes low to high
unfoldable pub counted_search : Bool → Problem → ℕ → ℕ → Counted
counted_search used p low high = counted_sizes used p (sizes low high)

-- a search with an allowance: the case found, or none, and the choices made over all sizes until then; or stopped at a size
pub data Allowed : Type 0 where
  answered : Option Case → ℕ → Allowed
  stopped_at : ℕ → Allowed

-- n choices made at sizes before
abbrev pub before : ℕ → Allowed → Allowed
before n (answered o m) = answered o (n + m)
before n (stopped_at s) = stopped_at s

-- the size s, where the walk with so many choices left ended so, and then the other sizes with what is left if it found nothing
abbrev pub size_within : ℕ → Problem → ℕ → WalkEnd → (ℕ → Allowed) → Allowed
size_within s p left stopped others = stopped_at s
size_within s p left (ended (some σ) n) others = answered (some (case_of s p σ)) n
size_within s p left (ended none n) others = before n (others (left - n))

-- the search over these sizes with so many choices left
abbrev pub sizes_within : Bool → Problem → List ℕ → ℕ → Allowed
sizes_within used p [] left = answered none 0
sizes_within used p (s ∷ ss) left = size_within s p left (searched_within used s p left) (sizes_within used p ss)

-- the search over the sizes low to high with an allowance
unfoldable pub search_within : Bool → Problem → ℕ → ℕ → ℕ → Allowed
search_within used p low high allowance = sizes_within used p (sizes low high) allowance
