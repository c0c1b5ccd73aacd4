-- The mode of named terms, of the calls (document 02, slip 9): Find in the mode gives the same answers as plain, where neither is refused or stopped, with one setting of `symmetry` on both sides; the number of choices is left out. That the demands hold in the mode too
-- is said where they are: `Demand1`, `Demand2` and `Demand3` have the switch, and so have `Settles` and `Columns`.
use Rattle.std.specs.Prelude.{ℕ, ◌≡◌, Bool, true, false, List, take, Ok}
use Rattle.answers.specs.declared.PlainResult.TheVariants.{Found}
use Rattle.answers.specs.Answers.{FindAnswer}
use Rattle.theorems.specs.Unstopped.{UnstoppedCall}
use Rattle.theorems.specs.SameAnswers.{NotRefused}

-- two calls answer alike: size, length and mark, and the case that is found
pub record AnswersAlike (r : FindAnswer) (output : List ℕ) (s : FindAnswer) (other : List ℕ) : Type 0 where
  pub same : r ≡ s
  pub case : (size n : ℕ) → r ≡ Ok (Found size n) → take n output ≡ take n other

-- it holds of a plain call and a call in the mode, whatever allowance, work and output each has
abbrev pub NamedAnswersHold : Type 0
NamedAnswersHold = (sheet : List ℕ) (low high : ℕ) (symmetry : Bool)
    → (r : FindAnswer) (work work' output output' : List ℕ) → UnstoppedCall sheet low high false symmetry r work work' output output' → NotRefused r
    → (s : FindAnswer) (area area' other other' : List ℕ) → UnstoppedCall sheet low high true symmetry s area area' other other' → NotRefused s → AnswersAlike r output' s other'
