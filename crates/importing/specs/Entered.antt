-- The entries of a clause taken one by one: their words, each variable's letter being told by those up to it, and whether each has a word.
use Rattle.std.specs.Prelude.{ℕ, Bool, true, ◌&&◌, List, [], ◌∷◌, ◌++◌, ltb}
use Rattle.theory.specs.Syntax.{Signature}
use Rattle.theory.specs.Grammar.{Word}
use Rattle.theory.specs.Problem.{is_named}
use Rattle.tptp.specs.Symbols.{Occurrence, of_variable, of_symbol, names, first_of_name, letter_of_name}
use Rattle.tptp.specs.Tptp.{max_letters}
use Rattle.tptp.specs.Scanning.{Entry, mark, occurs, occurrence_word}

-- the variables of a list of names, in order of first appearance
abbrev pub letters_by : List (List ℕ) → List (List ℕ)
letters_by U = first_of_name (λ y. y) U

-- the variable that an entry names
abbrev pub entry_names : Entry → List (List ℕ)
entry_names (mark w) = []
entry_names (occurs o) = names o

-- the words of entries after the variables U
abbrev pub entry_words : Signature → List (List ℕ) → List Entry → List Word
entry_words g U [] = []
entry_words g U (mark w ∷ es) = w ∷ entry_words g U es
entry_words g U (occurs o ∷ es) = occurrence_word g (letters_by (U ++ names o)) o ∷ entry_words g (U ++ names o) es

-- an occurrence has a word: its variable is one of the first eight, its symbol stands in the signature
abbrev pub occurrence_fits : Signature → List (List ℕ) → Occurrence → Bool
occurrence_fits g U (of_variable x) = ltb (letter_of_name (letters_by (U ++ (x.bytes ∷ []))) x.bytes) max_letters
occurrence_fits g U (of_symbol f k n) = is_named f.bytes g

-- each entry after the variables U has a word
abbrev pub entries_fit : Signature → List (List ℕ) → List Entry → Bool
entries_fit g U [] = true
entries_fit g U (mark w ∷ es) = entries_fit g U es
entries_fit g U (occurs o ∷ es) = occurrence_fits g U o && entries_fit g (U ++ names o) es
