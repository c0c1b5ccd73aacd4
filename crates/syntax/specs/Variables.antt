-- The variables of clause words, by their places in order of first appearance.
use Rattle.std.specs.Prelude.{ℕ, ◌<◌, ◌≡◌, Bool, List, [], ◌∷◌, eqb, ltb, length, get_or}
use Rattle.std.proofs.Math.Option.{Option, none, some}
use Rattle.theory.specs.Lists.{concat_map, distinct, place_that}
use Rattle.theory.specs.Grammar.{Word, sign, equals, symbol, letter}
use Rattle.syntax.specs.declared.words.ClauseWords.{ClauseWords}
use Rattle.syntax.specs.declared.variables.Variables.{Variables}
use Rattle.syntax.specs.Codes.{past_letters, words_in}

-- the letter of a word, if it is one
abbrev pub letter_of : Word → List ℕ
letter_of (sign b) = []
letter_of equals = []
letter_of (symbol i) = []
letter_of (letter x) = x ∷ []

-- the letters of words as they appear
abbrev pub letters_of : List Word → List ℕ
letters_of ws = concat_map letter_of ws

-- the number is that of a letter A to H
abbrev pub is_letter : ℕ → Bool
is_letter x = ltb x 8

-- the variables of clause words, in order of first appearance
unfoldable pub variables_in : ClauseWords → List ℕ
variables_in w = distinct (letters_of (words_in w))

-- no code is past that of the letter H
abbrev pub CodesBelow : ClauseWords → Type 0
CodesBelow w = (i : ℕ) → i < w.count → get_or w.words i 0 < past_letters

-- the place, or 8 for none
abbrev pub place_or8 : Option ℕ → ℕ
place_or8 none = 8
place_or8 (some i) = i

-- the count and the places are those of the variables xs
pub record Places (xs : List ℕ) (v : Variables) : Type 0 where
  pub count : v.count ≡ length xs
  pub places : (x : ℕ) → x < 8 → get_or v.place x 0 ≡ place_or8 (place_that (eqb x) xs)
