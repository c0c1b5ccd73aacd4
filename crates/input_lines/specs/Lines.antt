-- What the readers of the input's lines answer.
use Rattle.std.specs.Prelude.{ℕ, suc, ◌≤◌, ◌≡◌, List, length, drop, Some, None}
use Rattle.std.specs.Prelude as rust
use Rattle.std.proofs.Math.Option.{Option, none, some}
use Rattle.theory.specs.Program.{◌>>?◌}
use Rattle.text.specs.Lines.{part}

module _ {A : Type 0} where
  -- what was read, and the text after its line
  abbrev pub line_in : List ℕ → rust.Option (A × ℕ) → Option (A × List ℕ)
  line_in input (Some (x, next)) = some (x, drop next input)
  line_in input None = none

  -- the next line starts within n bytes
  abbrev pub NextWithin : ℕ → rust.Option (A × ℕ) → Type 0
  NextWithin n (Some (x, next)) = next ≤ n
  NextWithin n None = Unit {0}

  -- r is what the text from `at` on begins with, and where the next line starts
  pub record LineRead (reads : List ℕ → Option (A × List ℕ)) (input : List ℕ) (at : ℕ) (r : rust.Option (A × ℕ)) : Type 0 where
    pub read : line_in input r ≡ reads (drop at input)
    pub within : NextWithin (length input) r

  -- r is what the value from one place to another, which ends its line, is read to
  pub record ValueRead (reads : List ℕ → Option A) (input : List ℕ) (from end : ℕ) (r : rust.Option (A × ℕ)) : Type 0 where
    pub read : line_in input r ≡ (reads (part input from end) >>? λ x. some (x, drop (suc end) input))
    pub within : NextWithin (length input) r
