-- The text that a call of Write, Read back or Setting leaves: the output up to the answered length.
use Rattle.std.specs.Prelude.{ℕ, ◌≡◌, List, length, take, Ok}
use Rattle.answers.specs.Answers.{WriteAnswer}

-- of the answer r, and the output after the call
pub record Leaves (r : WriteAnswer) (output : List ℕ) (text : List ℕ) : Type 0 where
  pub answered : r ≡ Ok (length text)
  pub stands : take (length text) output ≡ text
