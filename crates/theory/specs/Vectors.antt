-- Argument vectors: lists of numbers below s. Document 01: the last argument runs fastest.
use Rattle.std.specs.Prelude.{ℕ, zero, suc, ◌+◌, ◌*◌, ◌^◌, ◌<◌, List, [], ◌∷◌, map, length}
use Rattle.theory.specs.Lists.{concat_map, up_to}

-- all lists of k numbers below s, the last place running fastest
abbrev pub vectors : ℕ → ℕ → List (List ℕ)
vectors s zero = [] ∷ []
vectors s (suc k) = concat_map (λ d. map (λ v. d ∷ v) (vectors s k)) (up_to s)

-- the place of such a list among them: the number with these digits to base s
abbrev pub rank : ℕ → List ℕ → ℕ
rank s [] = 0
rank s (d ∷ v) = d * s ^ length v + rank s v

-- every number of the list is below s
abbrev pub AllBelow : ℕ → List ℕ → Type 0
AllBelow s [] = Unit {0}
AllBelow s (d ∷ v) = (d < s) × AllBelow s v
