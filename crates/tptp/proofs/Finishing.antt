-- What is due tells a text that completes the statement.
use Prim.Native.Nat.{ℕ, zero, suc}
use mathlib.Core.Path.{◌≡◌, refl}
use mathlib.Core.Bool.{Bool, true, false}
use mathlib.Core.Option.{some}
use mathlib.Core.List.{List, [], ◌∷◌, ◌++◌}
use Rattle.theory.specs.Bytes.{bytes}
use Rattle.tptp.specs.Tokens.{piece_of, tokens_from}
use Rattle.tptp.specs.Grammar.{Side, first, second, DueToken, statement, opening, name, name_comma, role, role_comma, clause, literal, literal_end, term, word_end, term_end, equality, closing, stop, due_after_token}
use Rattle.tptp.specs.Claims.Places.{due_after_tokens}

-- the end of n argument lists, of the clause and of the statement
abbrev closers : ℕ → Bool → List ℕ
closers zero true = bytes "))."
closers zero false = bytes ")."
closers (suc n) b = 41 ∷ closers n b

-- a text that completes the statement
abbrev pub finish : DueToken → List ℕ
finish statement = []
finish opening = bytes "(a,a,$false)."
finish name = bytes "a,a,$false)."
finish name_comma = bytes ",a,$false)."
finish role = bytes "a,$false)."
finish role_comma = bytes ",$false)."
finish clause = bytes "$false)."
finish (literal b) = bytes "$false" ++ closers 0 b
finish (literal_end b) = closers 0 b
finish (term b s n) = 97 ∷ closers n b
finish (word_end b s n) = closers n b
finish (term_end b s n) = closers n b
finish (equality b c) = bytes "=a" ++ closers 0 b
finish closing = bytes ")."
finish stop = bytes "."

literal-finishes : (b : Bool) (i : ℕ) → due_after_tokens (literal_end b) (tokens_from (closers 0 b) 0 i) ≡ some statement
unfolding piece_of due_after_token
literal-finishes true i = refl
literal-finishes false i = refl

term-finishes : (n : ℕ) (b : Bool) (s : Side) (i : ℕ) → due_after_tokens (term_end b s n) (tokens_from (closers n b) 0 i) ≡ some statement
unfolding piece_of due_after_token
term-finishes zero true (first true) i = refl
term-finishes zero true (first false) i = refl
term-finishes zero true second i = refl
term-finishes zero false (first true) i = refl
term-finishes zero false (first false) i = refl
term-finishes zero false second i = refl
term-finishes (suc n) b s i = term-finishes n b s (suc i)

word-finishes : (n : ℕ) (b : Bool) (s : Side) (i : ℕ) → due_after_tokens (word_end b s n) (tokens_from (closers n b) 0 i) ≡ some statement
unfolding piece_of due_after_token
word-finishes zero true (first true) i = refl
word-finishes zero true (first false) i = refl
word-finishes zero true second i = refl
word-finishes zero false (first true) i = refl
word-finishes zero false (first false) i = refl
word-finishes zero false second i = refl
word-finishes (suc n) b s i = term-finishes n b s (suc i)

-- a word before closing parentheses is a token of its own
one_word : (n : ℕ) (b : Bool) (s : Side) (i : ℕ) → due_after_tokens (term b s n) (tokens_from (97 ∷ closers n b) 0 i) ≡ some statement
unfolding piece_of due_after_token
one_word zero true s i = word-finishes zero true s (suc i)
one_word zero false s i = word-finishes zero false s (suc i)
one_word (suc n) b s i = word-finishes (suc n) b s (suc i)

-- the text that is due completes the statement, wherever it stands
pub finishes : (d : DueToken) (i : ℕ) → due_after_tokens d (tokens_from (finish d) 0 i) ≡ some statement
unfolding piece_of due_after_token
finishes statement i = refl
finishes opening i = refl
finishes name i = refl
finishes name_comma i = refl
finishes role i = refl
finishes role_comma i = refl
finishes clause i = refl
finishes (literal true) i = refl
finishes (literal false) i = refl
finishes (literal_end b) i = literal-finishes b i
finishes (term b s n) i = one_word n b s i
finishes (word_end b s n) i = word-finishes n b s i
finishes (term_end b s n) i = term-finishes n b s i
finishes (equality true true) i = refl
finishes (equality true false) i = refl
finishes (equality false true) i = refl
finishes (equality false false) i = refl
finishes closing i = refl
finishes stop i = refl
