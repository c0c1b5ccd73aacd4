-- Answers: a result, or a numbered refusal with its place.
use Rattle.std.specs.Prelude.{ℕ, Bool, true, false}
use Rattle.std.proofs.Math.Option.{Option, none, some}

-- where a refusal points: a line of the text and a column of it, both counted from 1, each 0 where it is not named
pub record Place : Type 0 where
  pub line : ℕ
  pub column : ℕ

-- a refusal: its number in document 01, its place, and the needed length with 10 and 11, else 0
pub record Refusal : Type 0 where
  pub number : ℕ
  pub place : Place
  pub needed : ℕ

-- a result, or a refusal
pub data Answer (A : Type 0) : Type 0 where
  answer : A → Answer A
  refused : Refusal → Answer A

-- refusal n at a place
abbrev pub at_place : ℕ → Place → Refusal
at_place n p = record { number = n; place = p; needed = 0 }

-- refusal n at line l, no column named
abbrev pub at_line : ℕ → ℕ → Refusal
at_line n l = at_place n (record { line = l; column = 0 })

-- refusal n without a line
abbrev pub unplaced : ℕ → Refusal
unplaced n = at_line n 0

-- refusal n, which tells the needed length
abbrev pub needing : ℕ → ℕ → Refusal
needing n m = record { number = n; place = record { line = 0; column = 0 }; needed = m }

-- go on with a result; a refusal stays
infixl 20 ◌>>=◌
unfoldable pub ◌>>=◌ : {A B : Type 0} → Answer A → (A → Answer B) → Answer B
◌>>=◌ (answer a) k = k a
◌>>=◌ (refused r) k = refused r

-- refuse unless the test passes
abbrev pub check : Bool → Refusal → Answer (Unit {0})
check true r = answer tt
check false r = refused r

-- refuse unless there is a value
abbrev pub or_refuse : {A : Type 0} → Option A → Refusal → Answer A
or_refuse none r = refused r
or_refuse (some a) r = answer a
