-- The least model: the first list of cell values, in value order, cell by cell, that is a model; at the smallest size that has one.
use Rattle.std.specs.Prelude.{ℕ, suc, ◌-◌, Bool, cond, ◌&&◌, List, [], ◌∷◌, map, eqb, leb, length}
use Rattle.std.proofs.Math.Option.{Option, none, some}
use Rattle.theory.specs.Lists.{all, up_from, up_to, prefix}
use Rattle.theory.specs.Syntax.{Symbol, Signature, functions}
use Rattle.theory.specs.Cells.{cell_kinds, value_count, is_model}
use Rattle.theory.specs.Problem.{Problem}
use Rattle.theory.specs.CaseText.{Case}

-- the first of two that has a value
abbrev pub or_else : {A : Type 0} → Option A → Option A → Option A
or_else (some a) o = some a
or_else none o = o

-- the first answer that one of the numbers has
abbrev pub first_of : {A : Type 0} → (ℕ → Option A) → List ℕ → Option A
first_of f [] = none
first_of f (d ∷ ds) = let r = first_of f ds in or_else (f d) r

-- the first list, place by place, that passes the test; dss has the values of each place in the order in which they are tried
abbrev pub first_list : List (List ℕ) → (List ℕ → Bool) → Option (List ℕ)
first_list [] p = cond (p []) (some []) none
first_list (ds ∷ dss) p = first_of (λ d. prefix d (first_list dss (λ v. p (d ∷ v)))) ds

-- the values of each cell, the least first
abbrev pub candidates : ℕ → Signature → List (List ℕ)
candidates s g = map (λ k. up_to (value_count s k)) (cell_kinds s g)

-- the least model of size s
unfoldable pub least_model : ℕ → Problem → Option (List ℕ)
least_model s p = first_list (candidates s p.symbols) (is_model s p.symbols p.clauses)

-- that model with its size
abbrev pub with_size : ℕ → Option (List ℕ) → Option Case
with_size s none = none
with_size s (some v) = some (record { size = s; values = v })

-- the least model at the smallest of the sizes low to high that has one
unfoldable pub smallest_model : Problem → ℕ → ℕ → Option Case
smallest_model p low high = first_of (λ s. with_size s (least_model s p)) (up_from low (suc high - low))

-- settled: low is 1, no function has arity above 0, and high is at least the number of constants; then none at the sizes low to high is none at any size (Claims/Settling)
unfoldable pub settled : Problem → ℕ → ℕ → Bool
settled p low high = eqb low 1 && all (λ (f : Symbol). eqb f.arity 0) (functions p.symbols) && leb (length (functions p.symbols)) high
