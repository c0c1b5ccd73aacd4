-- Clause words: the words that codes stand for, and the clause that they are.
use Rattle.std.specs.Prelude.{ℕ, ◌+◌, ◌-◌, ◌≤◌, ◌≡◌, Bool, true, false, cond, List, map, eqb, ltb, length, take}
use Rattle.theory.specs.Lists.{all}
use Rattle.theory.specs.Syntax.{Signature, Clause}
use Rattle.theory.specs.Grammar.{Word, sign, equals, symbol, letter, clause, grammar, read_words}
use Rattle.theory.specs.Problem.{max_words}
use Rattle.syntax.specs.declared.words.ClauseWords.{ClauseWords}

-- the places that symbols may have: the codes of all other words are behind them
abbrev pub max_places : ℕ
max_places = 128

-- the code of a word that is no symbol: its byte, behind the places
abbrev pub fixed_code : ℕ → ℕ
fixed_code b = max_places + b

-- the codes of +, - and =, that of the letter A, which the others follow, and the one after H's
abbrev pub plus_code : ℕ
plus_code = fixed_code 43

abbrev pub minus_code : ℕ
minus_code = fixed_code 45

abbrev pub equals_code : ℕ
equals_code = fixed_code 61

abbrev pub letter_code : ℕ
letter_code = fixed_code 65

abbrev pub past_letters : ℕ
past_letters = letter_code + 8

-- the code of a word: a symbol's place, or the code of the word's byte
abbrev pub code_of : Word → ℕ
code_of (sign true) = plus_code
code_of (sign false) = minus_code
code_of equals = equals_code
code_of (symbol i) = i
code_of (letter x) = letter_code + x

-- the word that a code stands for
abbrev pub code_word : ℕ → Word
code_word n = cond (eqb n plus_code) (sign true) (cond (eqb n minus_code) (sign false) (cond (eqb n equals_code) equals (cond (ltb n letter_code) (symbol n) (letter (n - letter_code)))))

-- the words that clause words stand for
abbrev pub words_in : ClauseWords → List Word
words_in w = map code_word (take w.count w.words)

-- the clause that they are
unfoldable pub clause_in : Signature → ClauseWords → Clause
clause_in g w = (read_words g (words_in w)).clause

-- the word is of a declared symbol, or of a letter A to H, or a sign or =
abbrev pub is_known : Signature → Word → Bool
is_known g (sign b) = true
is_known g equals = true
is_known g (symbol i) = ltb i (length g)
is_known g (letter x) = ltb x 8

-- the clause words are a clause over the signature
pub record IsClause (g : Signature) (w : ClauseWords) : Type 0 where
  pub fits : w.count ≤ max_words
  pub known : all (is_known g) (words_in w) ≡ true
  pub grammatical : grammar g (words_in w) ≡ clause
