-- Explainer: the explainer program needs to read no more than 41,288 bytes of its input.
use Rattle.std.specs.Prelude.{ℕ, ◌≡◌, List, take}
use Rattle.theory.specs.Explainer.{explainer}

-- the largest sheet and one byte more, then the longest case and one byte more
abbrev pub explainer_bytes : ℕ
explainer_bytes = 41288

-- what comes after that many bytes changes nothing
abbrev pub ExplainerReads : Type 0
ExplainerReads = (input : List ℕ) → explainer (take explainer_bytes input) ≡ explainer input
