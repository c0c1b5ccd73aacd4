-- The word that a code stands for, of one word of a clause line.
use Rattle.std.specs.Prelude.{ℕ, ◌≡◌, Bool, true, false, ◌&&◌, ◌||◌, List, [], ◌∷◌, eqb, ltb, leb, length}
use Rattle.std.proofs.Math.Option.{Option, none, some}
use Rattle.theory.specs.Syntax.{Signature}
use Rattle.theory.specs.Grammar as theory
use Rattle.theory.specs.Problem.{word_of}
use Rattle.syntax.specs.Codes as codes
use Rattle.std.specs.Prelude as rust
use Rattle.std.specs.Prelude.{Some, None}

-- the byte of +, -, = or a variable letter
abbrev pub is_fixed : ℕ → Bool
is_fixed c = eqb c 43 || (eqb c 45 || (eqb c 61 || (leb 65 c && ltb c 73)))

-- the word is one of those
abbrev pub is_fixed_word : List ℕ → Bool
is_fixed_word [] = false
is_fixed_word (b ∷ []) = is_fixed b
is_fixed_word (b ∷ c ∷ w) = false

-- the code of one of those
abbrev pub is_fixed_code : ℕ → Bool
is_fixed_code c = eqb c codes.plus_code || (eqb c codes.minus_code || (eqb c codes.equals_code || (leb codes.letter_code c && ltb c codes.past_letters)))

-- the code of a word over n symbols
abbrev pub is_code : ℕ → ℕ → Bool
is_code n c = ltb c n || is_fixed_code c

-- the same of what was read
abbrev pub is_coded : ℕ → (rust.Option ℕ) → Bool
is_coded n (Some c) = is_code n c
is_coded n None = true

-- the word that was read, if it is one
abbrev pub word_in : rust.Option ℕ → Option theory.Word
word_in (Some c) = some (codes.code_word c)
word_in None = none

-- r is the word that the bytes are
pub record WordRead (g : Signature) (word : List ℕ) (r : rust.Option ℕ) : Type 0 where
  pub read : word_in r ≡ word_of g word
  pub coded : is_coded (length g) r ≡ true
