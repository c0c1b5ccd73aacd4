-- How many bytes of a line are those of its key.
use Rattle.std.specs.Prelude.{ℕ, ◌+◌, ◌≤◌, ◌<◌, ◌≡◌, List, ◌++◌, length, drop}
use Rattle.theory.specs.LineForms.{ValueForm, good_line}

-- the first r bytes of the line are those of the key, and the next is not, whatever follows the key
pub record KeyMet (line key : List ℕ) (r : ℕ) : Type 0 where
  pub within : r ≤ length line
  pub short : r < length key → (more : List ℕ) (v : ValueForm) → good_line (key ++ more) v line ≡ r
  pub whole : length key ≤ r → (more : List ℕ) (v : ValueForm) → good_line (key ++ more) v line ≡ r + good_line more v (drop r line)
