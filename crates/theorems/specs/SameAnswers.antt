-- SameAnswers, of the calls (document 02, slip 8): where neither is refused, Find told no and not stopped and Find plain find the same case at the same size, or both say none with the same mark. It holds of all sheets and sizes,
-- so of all arities, and whatever is lent.
use Rattle.std.specs.Prelude.{ℕ, ◌≡◌, ◌⊎◌, Bool, false, List, length, take, Ok, Err}
use Rattle.answers.specs.declared.Refusal.{Refusal}
use Rattle.answers.specs.declared.PlainResult.TheVariants.{Found, Nothing}
use Rattle.answers.specs.Answers.{FindAnswer}
use Rattle.answers.specs.Calls.{PlainCall}
use Rattle.theorems.specs.Unstopped.{UnstoppedCall}

-- the call is not refused
abbrev pub NotRefused : FindAnswer → Type 0
NotRefused r = (q : Refusal) → r ≡ Err q → ⊥

-- the answer r and the output after the call: the case of this size stands at its front
pub record LeavesFound (r : FindAnswer) (output : List ℕ) (size : ℕ) (case : List ℕ) : Type 0 where
  pub answered : r ≡ Ok (Found size (length case))
  pub stands : take (length case) output ≡ case

-- both leave the same case of the same size
pub record SameCase (r plain : FindAnswer) (output plain_output : List ℕ) : Type 0 where
  pub size : ℕ
  pub case : List ℕ
  pub find : LeavesFound r output size case
  pub find_plain : LeavesFound plain plain_output size case

-- both say none with the same mark
pub record SameMark (r plain : FindAnswer) : Type 0 where
  pub settled : Bool
  pub find : r ≡ Ok (Nothing settled)
  pub find_plain : plain ≡ Ok (Nothing settled)

-- it holds of every two calls with the same sheet and sizes
abbrev pub SameAnswersHold : Type 0
SameAnswersHold = (sheet : List ℕ) (low high : ℕ)
    → (r : FindAnswer) (work work' output output' : List ℕ) → UnstoppedCall sheet low high false false r work work' output output' → NotRefused r
    → (plain : FindAnswer) (plain_output plain_output' : List ℕ) → PlainCall sheet low high plain plain_output plain_output' → NotRefused plain
    → SameCase r plain output' plain_output' ⊎ SameMark r plain
