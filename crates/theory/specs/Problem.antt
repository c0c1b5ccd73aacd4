-- Reading a problem (document 01: a sheet): its symbols and clauses, or the refusal of its first faulty line.
use Rattle.std.specs.Prelude.{ℕ, zero, suc, ◌+◌, ◌-◌, Bool, true, false, cond, not, ◌&&◌, ◌||◌, List, [], ◌∷◌, ◌++◌, eqb, ltb, leb, length, get_or, take}
use Rattle.std.proofs.Math.Option.{Option, none, some}
use Rattle.theory.specs.Lists.{any, all, same, prefix, place_that}
use Rattle.theory.specs.Bytes.{bytes, zero_digit, is_digit}
use Rattle.theory.specs.Lines.{Cut, cut_line, after_key, count_of, words_of}
use Rattle.theory.specs.Syntax.{Kind, function, predicate, declared, Symbol, Signature, Clause}
use Rattle.theory.specs.Grammar.{Word, sign, equals, symbol, letter, read_clause}
use Rattle.theory.specs.Flattening.{flatten, variable_count}
use Rattle.theory.specs.Refusals.{Answer, answer, at_line, unplaced, ◌>>=◌, check, or_refuse}

-- the largest sheet in bytes
abbrev pub max_bytes : ℕ
max_bytes = 16384

-- the most functions, and the most predicates
abbrev pub max_symbols : ℕ
max_symbols = 12

-- the most clauses
abbrev pub max_clauses : ℕ
max_clauses = 64

-- the largest arity
abbrev pub max_arity : ℕ
max_arity = 3

-- the longest name
abbrev pub max_name : ℕ
max_name = 12

-- the most words of a clause
abbrev pub max_words : ℕ
max_words = 64

-- the most literals of a clause, as written
abbrev pub max_literals : ℕ
max_literals = 16

-- the most variables of a clause after flattening
abbrev pub max_variables : ℕ
max_variables = 10

-- line l: what follows its key, and the text after it; 2 where it is not so laid out
abbrev pub key_line : List ℕ → ℕ → List ℕ → Answer Cut
key_line key l text = do
  p ← or_refuse (cut_line text) (at_line 2 l)
  v ← or_refuse (after_key key p.0) (at_line 2 l)
  answer (v, p.1)

-- line l: a count of at most limit, and the text after it
unfoldable pub count_line : List ℕ → ℕ → ℕ → List ℕ → Answer (ℕ × List ℕ)
count_line key limit l text = do
  p ← key_line key l text
  n ← or_refuse (count_of p.0) (at_line 2 l)
  _ ← check (leb n limit) (at_line 3 l)
  answer (n, p.1)

-- a lower-case letter
abbrev pub is_lower : ℕ → Bool
is_lower b = leb 97 b && ltb b 123

-- a lower-case letter, a digit or an underscore
abbrev pub is_name_byte : ℕ → Bool
is_name_byte b = is_lower b || is_digit b || eqb b 95

-- a name: a lower-case letter, then name bytes, 12 bytes at most
unfoldable pub is_name : List ℕ → Bool
is_name [] = false
is_name (b ∷ bs) = is_lower b && all is_name_byte bs && ltb (length bs) max_name

-- a name, then the line's last two bytes: / and one digit
abbrev pub symbol_of : Kind → List ℕ → Option Symbol
symbol_of k v =
    let n = length v - 2 in
    let slash = get_or v n 0 in
    let d = get_or v (suc n) 0 in
    cond (leb 2 (length v) && eqb slash 47 && is_digit d) (some (record { kind = k; name = take n v; arity = d - zero_digit; origin = declared })) none

-- the name is that of a symbol of the list
abbrev pub is_named : List ℕ → List Symbol → Bool
is_named w g = any (λ (f : Symbol). same w f.name) g

-- n lines of symbols of one kind from line l on, after the symbols g; and the text after them
unfoldable pub symbol_lines : ℕ → List ℕ → Kind → Signature → ℕ → List ℕ → Answer (Signature × List ℕ)
symbol_lines zero key k g l text = answer (g, text)
symbol_lines (suc n) key k g l text = do
  p ← key_line key l text
  f ← or_refuse (symbol_of k p.0) (at_line 2 l)
  _ ← check (leb f.arity max_arity) (at_line 3 l)
  _ ← check (is_name f.name && not (is_named f.name g)) (at_line 4 l)
  symbol_lines n key k (g ++ (f ∷ [])) (suc l) p.1

-- the place of the symbol with this name
abbrev pub place_of_name : List ℕ → Signature → Option ℕ
place_of_name w g = place_that (λ (f : Symbol). same w f.name) g

-- the word that a declared name is
abbrev pub name_word : Option ℕ → Option Word
name_word none = none
name_word (some i) = some (symbol i)

-- the word that these bytes are: +, -, =, a variable letter A to H, or a declared name
unfoldable pub word_of : Signature → List ℕ → Option Word
word_of g [] = none
word_of g (b ∷ c ∷ w) = name_word (place_of_name (b ∷ c ∷ w) g)
word_of g (b ∷ []) =
    let r = name_word (place_of_name (b ∷ []) g) in
    cond (eqb b 43) (some (sign true)) (cond (eqb b 45) (some (sign false)) (cond (eqb b 61) (some equals) (cond (leb 65 b && ltb b 73) (some (letter (b - 65))) r)))

-- the words, if all are known
abbrev pub read_all : Signature → List (List ℕ) → Option (List Word)
read_all g [] = some []
read_all g (w ∷ ws) = elim (word_of g w) [ some x ↦ prefix x (read_all g ws) | none ↦ none ]

-- at most 64 words, 16 literals as written, and 10 variables after flattening
unfoldable pub within_limits : List Word → Clause → Bool
within_limits ws c = leb (length ws) max_words && leb (length c) max_literals && leb (variable_count (flatten c)) max_variables

-- the clause of what follows a clause line's key
unfoldable pub clause_of : Signature → ℕ → List ℕ → Answer Clause
clause_of g l v = do
  ws ← or_refuse (read_all g (words_of v)) (at_line 5 l)
  c ← or_refuse (read_clause g ws) (at_line 6 l)
  _ ← check (within_limits ws c) (at_line 7 l)
  answer c

-- n lines of clauses from line l on, and the text after them
unfoldable pub clause_lines : ℕ → Signature → ℕ → List ℕ → Answer ((List Clause) × List ℕ)
clause_lines zero g l text = answer ([], text)
clause_lines (suc n) g l text = do
  p ← key_line (bytes "clause=") l text
  c ← clause_of g l p.0
  r ← clause_lines n g (suc l) p.1
  answer (c ∷ r.0, r.1)

-- a problem: its symbols, the functions first, and its clauses
pub record Problem : Type 0 where
  pub symbols : Signature
  pub clauses : List Clause

-- nothing is left; otherwise 2 at line l
abbrev pub nothing_left : ℕ → List ℕ → Answer (Unit {0})
nothing_left l text = check (same text []) (at_line 2 l)

-- sheet=1, the functions, the predicates, the clauses, and nothing after them
unfoldable pub read_problem : List ℕ → Answer Problem
read_problem text = do
  _ ← check (leb (length text) max_bytes) (unplaced 1)
  a ← key_line (bytes "sheet=1") 1 text
  _ ← nothing_left 1 a.0
  f ← count_line (bytes "funs=") max_symbols 2 a.1
  fs ← symbol_lines f.0 (bytes "fun=") function [] 3 f.1
  p ← count_line (bytes "preds=") max_symbols (3 + f.0) fs.1
  g ← symbol_lines p.0 (bytes "pred=") predicate fs.0 (4 + f.0) p.1
  c ← count_line (bytes "clauses=") max_clauses (4 + f.0 + p.0) g.1
  cs ← clause_lines c.0 g.0 (5 + f.0 + p.0) c.1
  _ ← nothing_left (5 + f.0 + p.0 + c.0) cs.1
  answer (record { symbols = g.0; clauses = cs.0 })
