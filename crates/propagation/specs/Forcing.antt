-- Literals that clauses force, clauses that are wholly false, and clauses that ask for nothing.
use Rattle.std.specs.Prelude.{◌≡◌, List, [], ◌∷◌, ℕ, ◌/◌, ◌%◌, ◌<◌, length, get_or}
use Rattle.propagation.specs.WorkArea.{values, falses, live}

-- the second trail has, on top of the first, entries that clauses force one after the other
pub data Forces : ℕ → List (List ℕ) → List ℕ → List ℕ → Type 0 where
  no_more : {v : ℕ} {cs : List (List ℕ)} {ts : List ℕ} → Forces v cs ts ts
  one_more : {v : ℕ} {cs : List (List ℕ)} {ts ts' : List ℕ} (i t : ℕ) → Forces v cs ts ts' → i < length cs → t % 2 ≡ 0
      → live (falses ts') (get_or cs i []) ≡ t / 2 ∷ [] → t / 2 / 2 < v → get_or (values v ts') (t / 2 / 2) 0 ≡ 0 → Forces v cs ts (t ∷ ts')

-- a clause all of whose literals are false
abbrev pub Void : List (List ℕ) → List ℕ → Type 0
Void cs falses = (i : ℕ) × (i < length cs) × (live falses (get_or cs i []) ≡ [])

-- a clause that has a literal that is not false, and where it is the only one its variable is set
abbrev pub Quiet : List ℕ → List ℕ → List ℕ → Type 0
Quiet falses values c =
    (live falses c ≡ [] → ⊥) × ((u : ℕ) → live falses c ≡ u ∷ [] → get_or values (u / 2) 0 ≡ 0 → ⊥)
