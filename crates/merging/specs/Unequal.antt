-- A negative equality of two variables in words: `- = A B`, and the place of the leftmost.
use Rattle.std.specs.Prelude.{ℕ, suc, Bool, true, false, cond, not, ◌&&◌, List, [], ◌∷◌}
use Rattle.theory.specs.Grammar.{Word, sign, equals, symbol, letter}

-- the word is -
abbrev pub is_minus : Word → Bool
is_minus (sign b) = not b
is_minus equals = false
is_minus (symbol i) = false
is_minus (letter x) = false

-- the word is =
abbrev pub is_equals : Word → Bool
is_equals (sign b) = false
is_equals equals = true
is_equals (symbol i) = false
is_equals (letter x) = false

-- the word is a letter
abbrev pub is_variable : Word → Bool
is_variable (sign b) = false
is_variable equals = false
is_variable (symbol i) = false
is_variable (letter x) = true

-- the four words are - = and two letters
abbrev pub is_unequal : Word → Word → Word → Word → Bool
is_unequal s e x y = is_minus s && (is_equals e && (is_variable x && is_variable y))

-- the words begin so
abbrev pub starts_unequal : List Word → Bool
starts_unequal [] = false
starts_unequal (s ∷ []) = false
starts_unequal (s ∷ (e ∷ [])) = false
starts_unequal (s ∷ (e ∷ (x ∷ []))) = false
starts_unequal (s ∷ (e ∷ (x ∷ (y ∷ ws)))) = is_unequal s e x y

-- the first place from which they do, or the number of words
unfoldable pub unequal_place : List Word → ℕ
unequal_place [] = 0
unequal_place (w ∷ ws) = cond (starts_unequal (w ∷ ws)) 0 (suc (unequal_place ws))
