-- What the readers of lines and words answer.
use Rattle.std.specs.Prelude.{ℕ, suc, ◌-◌, ◌≤◌, ◌<◌, ◌≡◌, get_or, Bool, true, cond, List, [], ◌∷◌, ltb, length, take, drop}
use Rattle.std.proofs.Math.Option.{none, some}
use Rattle.theory.specs.Lines.{cut_line, after_key, cut_words}

-- the elements from a up to e: what `&s[a..e]` lends
abbrev pub part : {A : Type 0} → List A → ℕ → ℕ → List A
part s a e = take (e - a) (drop a s)

-- r is the place of the first such byte from `at` on, or the text's end where there is none
pub record ByteEnd (text : List ℕ) (at byte r : ℕ) : Type 0 where
  pub from : at ≤ r
  pub within : r ≤ length text
  pub before : (k : ℕ) → at ≤ k → k < r → get_or text k 0 ≡ byte → ⊥
  pub here : r < length text → get_or text r 0 ≡ byte

-- r is where the line from `at` on ends: at its LF, or at the text's end where no LF ends it
pub record LineEnd (text : List ℕ) (at r : ℕ) : Type 0 where
  pub from : at ≤ r
  pub within : r ≤ length text
  pub cut : cut_line (drop at text) ≡ cond (ltb r (length text)) (some (part text at r, drop (suc r) text)) none

-- r is where the word from `at` on ends: at its space, or at the line's end
pub record WordEnd (line : List ℕ) (at r : ℕ) : Type 0 where
  pub from : at ≤ r
  pub within : r ≤ length line
  pub cut : cut_words (drop at line) ≡ part line at r ∷ cond (ltb r (length line)) (cut_words (drop (suc r) line)) []

-- r says whether the line begins with the key
pub record StartsWith (line key : List ℕ) (r : Bool) : Type 0 where
  pub found : after_key key line ≡ cond r (some (drop (length key) line)) none
  pub room : r ≡ true → length key ≤ length line
