-- Columns: that of a 2, a 12 or a 6 is the first place that nothing after it can clear of that number; that of a 3, a 4, a 5 or a 7 is where the faulty number, name or word starts.
use Rattle.std.specs.Prelude.{ℕ, suc, ◌-◌, ◌≤◌, ◌<◌, ◌≡◌, ◌↔◌, ◌⊎◌, Bool, true, false, cond, not, ◌||◌, List, [], ◌++◌, ltb, length, get_or, take, drop}
use Rattle.std.proofs.Math.Option.{Option, none, some}
use Rattle.theory.specs.Lists.{same}
use Rattle.theory.specs.Bytes.{bytes, zero_digit, is_digit}
use Rattle.theory.specs.Lines.{count_of, cut_words}
use Rattle.theory.specs.Syntax.{Kind, Symbol, Signature, Clause}
use Rattle.theory.specs.Grammar.{Word, read_clause}
use Rattle.theory.specs.Refusals.{Answer, answer, refused, at_line}
use Rattle.theory.specs.Problem.{max_bytes, max_symbols, max_clauses, max_arity, max_words, max_literals, is_name, symbol_of, word_of, read_all, within_limits, Problem, read_problem}
use Rattle.theory.specs.CaseText.{read_case}
use Rattle.theory.specs.LineForms.{count_digits, declaration, LineForm, keyed, is_some, is_laid_out}
use Rattle.theory.specs.DueLines.{first_line, from_line, due_in_sheet, sheet_symbols, due_in_case}
use Rattle.theory.specs.Columns.{line_words, word_column, is_over, sheet_column, case_column, with_column, placed_problem, placed_case}

-- the condition of 2 on a line of a sheet, the first being line 0: it is not as laid out
abbrev pub two_on : List ℕ → ℕ → Bool
two_on sheet l = not (is_laid_out (due_in_sheet sheet l) (from_line l sheet))

-- the condition of 12 on a line of a case, given the sheet's symbols: it is not as laid out
abbrev pub twelve_on : Signature → List ℕ → ℕ → Bool
twelve_on g case l = not (is_laid_out (due_in_case g case l) (from_line l case))

-- the column of a condition that a text has on line l
pub record ByteBeyondHelp (condition : List ℕ → ℕ → Bool) (text : List ℕ) (l column : ℕ) : Type 0 where
  -- the bytes before the line
  pub before : List ℕ
  pub whole : before ++ from_line l text ≡ text
  -- the condition holds there
  pub holds : condition text l ≡ true
  -- the column is that of a byte of the line, or one past its end
  pub first : 1 ≤ column
  pub within : column ≤ suc (length (first_line (from_line l text)))
  -- with the bytes up to the column and the one there, an LF too, every continuation has the condition
  pub stays : (rest : List ℕ) → column ≤ length (from_line l text) → condition (before ++ (take column (from_line l text) ++ rest)) l ≡ true
  -- with those before the column some continuation has not
  pub clears : (rest : List ℕ) × (condition (before ++ (take (column - 1) (from_line l text) ++ rest)) l ≡ false)

-- the most that the count behind a key may be
abbrev pub limit_of : List ℕ → ℕ
limit_of key = cond (same key (bytes "clauses=")) max_clauses max_symbols

-- the column of a count over its limit, the line being l: the count's, right behind the key
pub record OverCount (d : LineForm) (l : List ℕ) (column : ℕ) : Type 0 where
  pub key : List ℕ
  pub due : d ≡ keyed key count_digits
  pub behind : column ≡ suc (length key)
  pub whole : key ++ drop (column - 1) l ≡ l
  pub count : ℕ
  pub read : count_of (drop (column - 1) l) ≡ some count
  pub over : limit_of key < count

-- the column of an arity over its limit: that of the line's last byte, a digit behind /
pub record OverArity (d : LineForm) (l : List ℕ) (column : ℕ) : Type 0 where
  pub key : List ℕ
  pub due : d ≡ keyed key declaration
  pub last : column ≡ length l
  pub second : 2 ≤ column
  pub slash : get_or l (column - 2) 0 ≡ 47
  pub digit : is_digit (get_or l (column - 1) 0) ≡ true
  pub over : max_arity < get_or l (column - 1) 0 - zero_digit

-- the column of a number over its limit
abbrev pub OverNumber : LineForm → List ℕ → ℕ → Type 0
OverNumber d l column = OverCount d l column ⊎ OverArity d l column

-- line l of a sheet declares a symbol: from the column on, right behind the key, stand its name, / and a digit
pub record DeclaredOn (sheet : List ℕ) (l column : ℕ) : Type 0 where
  pub key : List ℕ
  pub due : due_in_sheet sheet l ≡ keyed key declaration
  pub behind : column ≡ suc (length key)
  pub whole : key ++ drop (column - 1) (first_line (from_line l sheet)) ≡ first_line (from_line l sheet)
  pub kind : Kind
  pub declared : Symbol
  pub read : symbol_of kind (drop (column - 1) (first_line (from_line l sheet))) ≡ some declared
  pub starts : take (length declared.name) (drop (column - 1) (first_line (from_line l sheet))) ≡ declared.name

-- the column of a name that is none, or is declared on an earlier line
pub record BadName (sheet : List ℕ) (l column : ℕ) : Type 0 where
  pub here : DeclaredOn sheet l column
  pub bad : (is_name here.declared.name ≡ false) ⊎ ((m : ℕ) × (c : ℕ) × (m < l) × (there : DeclaredOn sheet m c) × (there.declared.name ≡ here.declared.name))

-- the clause that the words are, if all are known and they are one
abbrev pub known_clause : Signature → Option (List Word) → Option Clause
known_clause g none = none
known_clause g (some ws) = read_clause g ws

-- the condition of 6 on a line's words: they are no clause
abbrev pub six_on : Signature → List (List ℕ) → Bool
six_on g ws = not (is_some (known_clause g (read_all g ws)))

-- the column of a clause line whose words are no clause, the line being l
pub record WordBeyondHelp (g : Signature) (d : LineForm) (l : List ℕ) (column : ℕ) : Type 0 where
  -- the place of a word, or one past the last
  pub place : ℕ
  pub among : place ≤ length (line_words d l)
  -- the condition holds there
  pub holds : six_on g (line_words d l) ≡ true
  -- the column is that of the word; one past the line's end where the place is one past the last word
  pub at_word : place < length (line_words d l) → column ≡ word_column d l place
  pub at_end : place ≡ length (line_words d l) → column ≡ suc (length l)
  -- with the words up to the place and the one there, every continuation has the condition
  pub stays : (rest : List (List ℕ)) → place < length (line_words d l) → six_on g (take (suc place) (line_words d l) ++ rest) ≡ true
  -- with those before the place some continuation has not
  pub clears : (rest : List (List ℕ)) × (six_on g (take place (line_words d l) ++ rest) ≡ false)

-- the column of a clause line with an unknown word: that of the first
pub record FirstUnknown (g : Signature) (d : LineForm) (l : List ℕ) (column : ℕ) : Type 0 where
  pub place : ℕ
  pub among : place < length (line_words d l)
  pub at_word : column ≡ word_column d l place
  pub unknown : is_some (word_of g (get_or (line_words d l) place [])) ≡ false
  pub known : (i : ℕ) → i < place → is_some (word_of g (get_or (line_words d l) i [])) ≡ true

-- the column of a clause line over a limit
pub record OverLimit (g : Signature) (d : LineForm) (l : List ℕ) (column : ℕ) : Type 0 where
  -- its words and its clause
  pub known : List Word
  pub read : read_all g (line_words d l) ≡ some known
  pub clause : Clause
  pub is : read_clause g known ≡ some clause
  pub over : within_limits known clause ≡ false
  -- with words or literals over, that of the first word with which they are
  pub first : (ltb max_words (length known) || ltb max_literals (length clause)) ≡ true
      → (i : ℕ) × (i < length known) × (column ≡ word_column d l i) × (is_over known i ≡ true) × ((j : ℕ) → j < i → is_over known j ≡ false)
  -- else 1
  pub only : (ltb max_words (length known) || ltb max_literals (length clause)) ≡ false → column ≡ 1

-- the column of each refusal that names a line is that of a byte of the line, or one past its end
abbrev pub WithinLine : Type 0
WithinLine = (sheet : List ℕ) (n l : ℕ) → read_problem sheet ≡ refused (at_line n (suc l))
    → (1 ≤ sheet_column sheet n (suc l)) × (sheet_column sheet n (suc l) ≤ suc (length (first_line (from_line l sheet))))

-- the answer, its refusal without a column
abbrev pub without_column : {A : Type 0} → Answer A → Answer A
without_column (answer a) = answer a
without_column (refused r) = refused (with_column 0 r)

-- the theorem
pub record Columns : Type 0 where
  -- the columns of 2, 6 and 12 are beyond help, those before them are not
  pub two : (sheet : List ℕ) (l : ℕ) → read_problem sheet ≡ refused (at_line 2 (suc l)) → ByteBeyondHelp two_on sheet l (sheet_column sheet 2 (suc l))
  pub six : (sheet : List ℕ) (l : ℕ) → read_problem sheet ≡ refused (at_line 6 (suc l))
      → WordBeyondHelp (sheet_symbols sheet) (due_in_sheet sheet l) (first_line (from_line l sheet)) (sheet_column sheet 6 (suc l))
  pub twelve : (sheet case : List ℕ) (p : Problem) (l : ℕ) → read_problem sheet ≡ answer p → read_case p.symbols case ≡ refused (at_line 12 (suc l))
      → ByteBeyondHelp (twelve_on p.symbols) case l (case_column p.symbols case (suc l))
  -- the columns of 3, 4, 5 and 7
  pub three : (sheet : List ℕ) (l : ℕ) → read_problem sheet ≡ refused (at_line 3 (suc l)) → OverNumber (due_in_sheet sheet l) (first_line (from_line l sheet)) (sheet_column sheet 3 (suc l))
  pub four : (sheet : List ℕ) (l : ℕ) → read_problem sheet ≡ refused (at_line 4 (suc l)) → BadName sheet l (sheet_column sheet 4 (suc l))
  pub five : (sheet : List ℕ) (l : ℕ) → read_problem sheet ≡ refused (at_line 5 (suc l))
      → FirstUnknown (sheet_symbols sheet) (due_in_sheet sheet l) (first_line (from_line l sheet)) (sheet_column sheet 5 (suc l))
  pub seven : (sheet : List ℕ) (l : ℕ) → read_problem sheet ≡ refused (at_line 7 (suc l))
      → OverLimit (sheet_symbols sheet) (due_in_sheet sheet l) (first_line (from_line l sheet)) (sheet_column sheet 7 (suc l))
  -- where a sheet is refused on a line, and other text t stands from that line on, the answer is 2 on that line exactly if the condition holds
  pub given_two : (sheet : List ℕ) (n l : ℕ) → read_problem sheet ≡ refused (at_line n (suc l)) → (before t : List ℕ) → before ++ from_line l sheet ≡ sheet → length (before ++ t) ≤ max_bytes
      → (read_problem (before ++ t) ≡ refused (at_line 2 (suc l))) ↔ (two_on (before ++ t) l ≡ true)
  -- the same of a case and 12
  pub given_twelve : (sheet case : List ℕ) (p : Problem) (l : ℕ) → read_problem sheet ≡ answer p → read_case p.symbols case ≡ refused (at_line 12 (suc l)) → (before t : List ℕ)
      → before ++ from_line l case ≡ case → (read_case p.symbols (before ++ t) ≡ refused (at_line 12 (suc l))) ↔ (twelve_on p.symbols (before ++ t) l ≡ true)
  -- the words from the column of word i on are the line's words from place i on
  pub words : (d : LineForm) (l : List ℕ) (i : ℕ) → i < length (line_words d l) → cut_words (drop (word_column d l i - 1) l) ≡ drop i (line_words d l)
  -- the symbols of a sheet that is read are those that it declares
  pub symbols : (sheet : List ℕ) (p : Problem) → read_problem sheet ≡ answer p → p.symbols ≡ sheet_symbols sheet
  -- number, line, needed length and results are as without columns
  pub problem : (sheet : List ℕ) → without_column (placed_problem sheet) ≡ read_problem sheet
  pub case : (g : Signature) (text : List ℕ) → without_column (placed_case g text) ≡ read_case g text
  -- without a line the column is 0
  pub unplaced : (sheet : List ℕ) (n : ℕ) → sheet_column sheet n 0 ≡ 0
