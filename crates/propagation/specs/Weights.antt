-- What lowering and raising the weights at a list of addresses leaves, and what they ask.
use Rattle.std.specs.Prelude.{List, [], ◌∷◌, ℕ, ◌+◌, ◌-◌, ◌^◌, ◌≤◌, ◌<◌, length, get_or, set}

-- w with f applied to the number at each address of the list, one after the other
abbrev pub changed : (ℕ → ℕ) → List ℕ → List ℕ → List ℕ
changed f [] w = w
changed f (q ∷ qs) w = changed f qs (set w q (f (get_or w q 0)))

abbrev pub less : ℕ → ℕ → ℕ
less d z = z - d

abbrev pub more : ℕ → ℕ → ℕ
more d z = z + d

-- From k to `to` stand addresses below base, rising, base is at most k, and the number at each address is right.
pub record Addresses (Right : ℕ → Type 0) (base k to : ℕ) (w : List ℕ) : Type 0 where
  pub based : base ≤ k
  pub ordered : k ≤ to
  pub within : to ≤ length w
  pub below : (i : ℕ) → k ≤ i → i < to → get_or w i 0 < base
  pub rising : (i j : ℕ) → k ≤ i → i < j → j < to → get_or w i 0 < get_or w j 0
  pub right : (i : ℕ) → k ≤ i → i < to → Right (get_or w (get_or w i 0) 0)

-- a number that d can be taken from
abbrev pub AtLeast : ℕ → ℕ → Type 0
AtLeast d z = d ≤ z

-- a number that d can be added to
abbrev pub RoomFor : ℕ → ℕ → Type 0
RoomFor d z = z + d < 2 ^ 32
