-- Going through the words of a line, with a state: the first word after which it is at fault.
use Rattle.std.specs.Prelude.{ℕ, suc, ◌+◌, ◌≤◌, ◌≡◌, Bool, true, false, cond, ◌||◌, List, [], ◌∷◌, eqb, ltb, length}
use Rattle.std.proofs.Math.Option.{Option, none, some}
use Rattle.theory.specs.Lists.{place_at}
use Rattle.theory.specs.Lines.{cut_words}
use Rattle.theory.specs.Syntax.{Signature}
use Rattle.theory.specs.Grammar.{Word, Due}
use Rattle.theory.specs.Problem.{max_words, max_literals, word_of}
use Rattle.theory.specs.LineForms.{is_some}
use Rattle.theory.specs.Columns.{word_start}
use Rattle.clauses.specs.Grammar.{due_next}
use Rattle.std.specs.Prelude as rust
use Rattle.std.specs.Prelude.{Some, None}
use Rattle.theory.specs.Options.{told}

-- the place of the first word after which the state is at fault
abbrev pub first_stop : {S : Type 0} → (S → List ℕ → S) → (S → Bool) → S → List (List ℕ) → Option ℕ
first_stop next fault s [] = none
first_stop next fault s (w ∷ ws) = place_at (fault (next s w)) (first_stop next fault (next s w) ws)

-- where the word at a place starts, if the first starts at this byte
abbrev pub start_from : ℕ → List (List ℕ) → Option ℕ → Option ℕ
start_from at ws none = none
start_from at ws (some i) = some (at + word_start i ws)

-- it starts within n bytes
abbrev pub StartWithin : ℕ → rust.Option ℕ → Type 0
StartWithin n (Some m) = m ≤ n
StartWithin n None = Unit {0}

-- r is the first word of the value after which the state is at fault
pub record Stopped {S : Type 0} (next : S → List ℕ → S) (fault : S → Bool) (s : S) (value : List ℕ) (r : rust.Option ℕ) : Type 0 where
  pub start : told r ≡ start_from 0 (cut_words value) (first_stop next fault s (cut_words value))
  pub within : StartWithin (length value) r

-- the word is known
abbrev pub is_known_word : Signature → List ℕ → Bool
is_known_word g w = is_some (word_of g w)

-- whether the latest word is known, after one word more
abbrev pub known_after : Signature → Bool → List ℕ → Bool
known_after g b w = is_known_word g w

-- what is due after a word, if it is known
abbrev pub due_then : Signature → Option Due → Option Word → Option Due
due_then g d none = none
due_then g d (some x) = due_next g d x

-- what is due after the word that these bytes are
abbrev pub due_after_word : Signature → Option Due → List ℕ → Option Due
due_after_word g d w = due_then g d (word_of g w)

-- nothing can follow
abbrev pub is_stuck : Option Due → Bool
is_stuck none = true
is_stuck (some d) = false

-- the number of signs that these bytes are
abbrev pub signs_in : List ℕ → ℕ
signs_in [] = 0
signs_in (b ∷ []) = cond (eqb b 43 || eqb b 45) 1 0
signs_in (b ∷ c ∷ w) = 0

-- the numbers of words and signs with one word more
abbrev pub with_word : ℕ × ℕ → List ℕ → ℕ × ℕ
with_word n w = (suc n.0, n.1 + signs_in w)

-- they are more than a clause may have
abbrev pub are_over : ℕ × ℕ → Bool
are_over n = ltb max_words n.0 || ltb max_literals n.1
