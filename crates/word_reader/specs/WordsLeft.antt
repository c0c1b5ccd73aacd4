-- The words that a line has from a place on, and what a reader hands out.
use Rattle.std.specs.Prelude.{ℕ, ◌+◌, ◌≤◌, ◌≡◌, cond, List, [], ◌∷◌, leb, length, drop}
use Rattle.theory.specs.Lines.{cut_words}
use Rattle.word_reader.specs.declared.WordReader.{WordReader}
use Rattle.word_reader.specs.declared.Step.{Step}

-- the words from a place on; none where the place is past the line's end
abbrev pub words_left : List ℕ → ℕ → List (List ℕ)
words_left line at = cond (leb at (length line)) (cut_words (drop at line)) []

-- the word is the first of those left at the place
pub record FirstWord (line : List ℕ) (at : ℕ) (word : List ℕ) : Type 0 where
  pub within : at + length word ≤ length line
  pub first : words_left line at ≡ word ∷ words_left line (at + length word + 1)

-- s is what the reader r hands out: the word at its place, and the reader behind that word and the space after it
pub record Handed (r : WordReader) (s : Step) : Type 0 where
  pub word : FirstWord r.line.now r.at s.word.now
  pub rest : s.rest ≡ record { line = r.line; at = r.at + length s.word.now + 1 }
