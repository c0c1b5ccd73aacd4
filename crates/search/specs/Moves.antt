-- Going back on a trail to the latest choice whose other value is untried.
use Rattle.std.specs.Prelude.{◌≡◌, List, [], ◌∷◌, ℕ, ◌+◌, ◌*◌, ◌/◌, ◌%◌, ◌<◌, length}
use Rattle.propagation.specs.WorkArea.{negated}

-- back to the latest choice whose other value is untried, which takes that value
pub data BackTo : List ℕ → List ℕ → Type 0 where
  flips : {ts : List ℕ} (t : ℕ) → t % 2 ≡ 1 → BackTo (t ∷ ts) ((2 * negated (t / 2) + 0) ∷ ts)
  pops : {ts us : List ℕ} (t : ℕ) → t % 2 ≡ 0 → BackTo ts us → BackTo (t ∷ ts) us

-- no choice has an untried value
abbrev pub NoneOpen : List ℕ → Type 0
NoneOpen [] = Unit
NoneOpen (t ∷ ts) = (t % 2 ≡ 0) × NoneOpen ts

-- every open choice stands below the h-th entry
abbrev pub OpenUnder : ℕ → List ℕ → Type 0
OpenUnder h [] = Unit
OpenUnder h (t ∷ ts) = (t % 2 ≡ 1 → length ts < h) × OpenUnder h ts
