-- Which token may follow which: cnf(name, role, clause). statements, one after the other.
-- All parentheses inside a literal enclose arguments, so how many are open is all that need be kept of them.
use Rattle.std.specs.Prelude.{ℕ, zero, suc, Bool, true, false, cond, ◌&&◌, List, [], ◌∷◌, ◌++◌}
use Rattle.std.proofs.Math.Option.{Option, none, some}
use Rattle.theory.specs.Lists.{same, first_that}
use Rattle.theory.specs.Bytes.{bytes}
use Rattle.tptp.specs.Tokens.{TokenKind, lower_word, upper_word, digits, falsum, left_paren, right_paren, comma, full_stop, bar, tilde, equal_sign, unequal_sign, TptpToken, is}

-- a literal's first term, before which ~ stands or not; or its second
pub data Side : Type 0 where
  first : Bool → Side
  second : Side

-- What is due next. A Bool tells whether the whole clause is in parentheses, a number how many argument lists are open.
pub data DueToken : Type 0 where
  -- a statement's cnf, or the text's end
  statement : DueToken
  -- ( and the clause's name, its comma, the role, its comma
  opening name name_comma role role_comma : DueToken
  -- the clause, perhaps with its parenthesis
  clause : DueToken
  -- a literal, or what follows one
  literal literal_end : Bool → DueToken
  -- a term
  term : Bool → Side → ℕ → DueToken
  -- what follows a lower word in a term: its arguments, or what follows the term
  word_end : Bool → Side → ℕ → DueToken
  -- what follows a term
  term_end : Bool → Side → ℕ → DueToken
  -- = or != after a variable that is a literal's first term, ~ standing before it or not
  equality : Bool → Bool → DueToken
  -- the statement's ) and its full stop
  closing stop : DueToken

-- a token that may come next, and what is due after it
abbrev pub Move : Type 0
Move = (TptpToken → Bool) × DueToken

-- the word cnf
abbrev pub is_cnf : TptpToken → Bool
is_cnf t = is lower_word t && same t.name (bytes "cnf")

-- what may follow a literal: | and one more, or the end of the clause
abbrev pub after_literal : Bool → List Move
after_literal b = (is bar, literal b) ∷ (is right_paren, cond b closing stop) ∷ []

-- = or != after a literal's first term: != not after ~
abbrev pub relations : Bool → Bool → List Move
relations b true = (is equal_sign, term b second 0) ∷ []
relations b false = (is equal_sign, term b second 0) ∷ (is unequal_sign, term b second 0) ∷ []

-- what may follow a term: in a list one more argument or the list's end; outside lists = or != after the first, or what follows a literal
abbrev pub after_term : Bool → Side → ℕ → List Move
after_term b (first c) zero = relations b c ++ after_literal b
after_term b second zero = after_literal b
after_term b s (suc n) = (is comma, term b s (suc n)) ∷ (is right_paren, term_end b s n) ∷ []

-- what is due after a variable: it is no atom
abbrev pub after_variable : Bool → Side → ℕ → DueToken
after_variable b (first c) zero = equality b c
after_variable b (first c) (suc n) = term_end b (first c) (suc n)
after_variable b second n = term_end b second n

-- a term begins: a word or a variable
abbrev pub begins_term : Bool → Side → ℕ → List Move
begins_term b s n = (is lower_word, word_end b s n) ∷ (is upper_word, after_variable b s n) ∷ []

-- a literal begins: $false, ~ and an atom, or an atom or term
abbrev pub begins_literal : Bool → List Move
begins_literal b = (is falsum, literal_end b) ∷ (is tilde, term b (first true) 0) ∷ begins_term b (first false) 0

-- what may come next
abbrev pub moves : DueToken → List Move
moves statement = (is_cnf, opening) ∷ []
moves opening = (is left_paren, name) ∷ []
moves name = (is lower_word, name_comma) ∷ (is digits, name_comma) ∷ []
moves name_comma = (is comma, role) ∷ []
moves role = (is lower_word, role_comma) ∷ []
moves role_comma = (is comma, clause) ∷ []
moves clause = (is left_paren, literal true) ∷ begins_literal false
moves (literal b) = begins_literal b
moves (literal_end b) = after_literal b
moves (term b s n) = begins_term b s n
moves (word_end b s n) = (is left_paren, term b s (suc n)) ∷ after_term b s n
moves (term_end b s n) = after_term b s n
moves (equality b c) = relations b c
moves closing = (is right_paren, stop) ∷ []
moves stop = (is full_stop, statement) ∷ []

-- what is due after one more token; none where the token cannot stand there
unfoldable pub due_after_token : DueToken → TptpToken → Option DueToken
due_after_token d t = elim (first_that (λ (m : Move). m.0 t) (moves d)) [ some m ↦ some m.1 | none ↦ none ]

-- nothing but one more statement is due, so the text may end
abbrev pub may_end : DueToken → Bool
may_end statement = true
may_end opening = false
may_end name = false
may_end name_comma = false
may_end role = false
may_end role_comma = false
may_end clause = false
may_end (literal b) = false
may_end (literal_end b) = false
may_end (term b s n) = false
may_end (word_end b s n) = false
may_end (term_end b s n) = false
may_end (equality b c) = false
may_end closing = false
may_end stop = false
