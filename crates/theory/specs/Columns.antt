-- The column of a refusal that names a line, from 1; without a line 0. Reading a sheet and a case, with the column.
use Rattle.std.specs.Prelude.{ℕ, zero, suc, ◌+◌, Bool, true, false, cond, not, ◌||◌, List, [], ◌∷◌, eqb, ltb, length, take, drop}
use Rattle.std.proofs.Math.Option.{Option, none, some}
use Rattle.theory.specs.Lists.{select, up_to, place_that}
use Rattle.theory.specs.Lines.{words_of}
use Rattle.theory.specs.Syntax.{Signature}
use Rattle.theory.specs.Grammar.{Word, sign, equals, symbol, letter, Grammar, clause, misplaced, unfinished, grammar}
use Rattle.theory.specs.Refusals.{Refusal, Answer, answer, refused}
use Rattle.theory.specs.Problem.{Problem, max_words, max_literals, word_of, read_all, read_problem}
use Rattle.theory.specs.CaseText.{Case, read_case}
use Rattle.theory.specs.LineForms.{no_bytes, count_digits, declaration, any_words, size_digit, cell_values, LineForm, keyed, no_line, is_some, good_bytes}
use Rattle.theory.specs.DueLines.{first_line, from_line, due_in_sheet, sheet_symbols, due_in_case}

-- 2 and 12: the first byte that nothing after it can clear, or one past the line's end
unfoldable pub byte_column : LineForm → List ℕ → ℕ
byte_column d l = suc (good_bytes d l)

-- the length of a line's key
abbrev pub key_length : LineForm → ℕ
key_length (keyed key v) = length key
key_length no_line = 0

-- 4: the name, behind the key
abbrev pub value_column : LineForm → ℕ
value_column d = suc (key_length d)

-- the line declares a symbol
abbrev pub is_declaration : LineForm → Bool
is_declaration (keyed key no_bytes) = false
is_declaration (keyed key count_digits) = false
is_declaration (keyed key declaration) = true
is_declaration (keyed key any_words) = false
is_declaration (keyed key size_digit) = false
is_declaration (keyed key (cell_values s k n)) = false
is_declaration no_line = false

-- 3: the arity, the last byte of a line that declares a symbol; or the count, behind the key
abbrev pub number_column : LineForm → List ℕ → ℕ
number_column d l = cond (is_declaration d) (length l) (value_column d)

-- the bytes in front of word i: the words before it, with a space after each
abbrev pub word_start : ℕ → List (List ℕ) → ℕ
word_start zero ws = 0
word_start (suc i) [] = 0
word_start (suc i) (w ∷ ws) = suc (length w + word_start i ws)

-- the words of a line, behind its key
abbrev pub line_words : LineForm → List ℕ → List (List ℕ)
line_words d l = words_of (drop (key_length d) l)

-- the column of word i of the line
unfoldable pub word_column : LineForm → List ℕ → ℕ → ℕ
word_column d l i = suc (key_length d + word_start i (line_words d l))

-- the column of the word at a place, or this column
abbrev pub word_or : LineForm → List ℕ → ℕ → Option ℕ → ℕ
word_or d l c none = c
word_or d l c (some i) = word_column d l i

-- the place of the first word that is unknown
unfoldable pub first_unknown : Signature → List (List ℕ) → Option ℕ
first_unknown g ws = place_that (λ w. not (is_some (word_of g w))) ws

-- the words, or none
abbrev pub or_no_words : Option (List Word) → List Word
or_no_words none = []
or_no_words (some ws) = ws

-- the place of the word that cannot stand there
abbrev pub misplaced_at : Grammar → Option ℕ
misplaced_at clause = none
misplaced_at (misplaced i) = some i
misplaced_at unfinished = none

-- the place of the first word that the grammar forbids there
unfoldable pub first_misplaced : Signature → List (List ℕ) → Option ℕ
first_misplaced g ws = misplaced_at (grammar g (or_no_words (read_all g ws)))

-- the word is a sign
abbrev pub is_sign : Word → Bool
is_sign (sign b) = true
is_sign equals = false
is_sign (symbol i) = false
is_sign (letter x) = false

-- with the word at place i there are more than 64 words or more than 16 signs
abbrev pub is_over : List Word → ℕ → Bool
is_over ws i = ltb max_words (suc i) || ltb max_literals (length (select is_sign (take (suc i) ws)))

-- the place of the 65th word or the 17th sign, the earlier
unfoldable pub first_over : Signature → List (List ℕ) → Option ℕ
first_over g ws = place_that (is_over (or_no_words (read_all g ws))) (up_to (length ws))

-- the column of refusal n on a line, where this form is due and these symbols are declared
unfoldable pub line_column : Signature → LineForm → List ℕ → ℕ → ℕ
line_column g d l n =
    cond (eqb n 3) (number_column d l)
    (cond (eqb n 4) (value_column d)
    (cond (eqb n 5) (word_or d l 1 (first_unknown g (line_words d l)))
    (cond (eqb n 6) (word_or d l (suc (length l)) (first_misplaced g (line_words d l)))
    (cond (eqb n 7) (word_or d l 1 (first_over g (line_words d l)))
    (byte_column d l)))))

-- the column of a sheet's refusal: its number, its line
unfoldable pub sheet_column : List ℕ → ℕ → ℕ → ℕ
sheet_column sheet n zero = 0
sheet_column sheet n (suc l) = line_column (sheet_symbols sheet) (due_in_sheet sheet l) (first_line (from_line l sheet)) n

-- the column of a case's refusal: its line
unfoldable pub case_column : Signature → List ℕ → ℕ → ℕ
case_column g case zero = 0
case_column g case (suc l) = byte_column (due_in_case g case l) (first_line (from_line l case))

-- the refusal with this column
abbrev pub with_column : ℕ → Refusal → Refusal
with_column c r = record { number = r.number; place = record { line = r.place.line; column = c }; needed = r.needed }

-- the answer, its refusal with the column that its number and line have
abbrev pub with_columns : {A : Type 0} → (ℕ → ℕ → ℕ) → Answer A → Answer A
with_columns column (answer a) = answer a
with_columns column (refused r) = refused (with_column (column r.number r.place.line) r)

-- the problem of a sheet, or its refusal with line and column
unfoldable pub placed_problem : List ℕ → Answer Problem
placed_problem sheet = with_columns (sheet_column sheet) (read_problem sheet)

-- the case of a text, or its refusal with line and column
unfoldable pub placed_case : Signature → List ℕ → Answer Case
placed_case g case = with_columns (λ n l. case_column g case l) (read_case g case)
