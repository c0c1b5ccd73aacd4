-- What the code's states of a statement stand for.
use Rattle.std.specs.Prelude.{ℕ, Bool, false, cond, List, [], ◌∷◌, Some, None}
use Rattle.std.specs.Prelude as rust
use Rattle.std.proofs.Math.Option.{Option, none, some}
use Rattle.theory.specs.Lists.{first_that}
use Rattle.theory.specs.Bytes.{bytes}
use Rattle.tptp.specs.Tokens.{TokenKind, TptpToken, is}
use Rattle.tptp.specs.Grammar.{first, second, DueToken, Move, statement, opening, name, name_comma, role, role_comma, clause, literal, literal_end, term, word_end, term_end, equality, closing, stop}
use Rattle.tptp.specs.Grammar as grammar
use Rattle.statements.specs.declared.due.Side.{Side}
use Rattle.statements.specs.declared.due.Side.TheVariants.{First, Second}
use Rattle.statements.specs.declared.due.TermPlace.{TermPlace}
use Rattle.statements.specs.declared.due.Due.{Due}
use Rattle.statements.specs.declared.due.Due.TheVariants.{Statement, Opening, Name, NameComma, Role, RoleComma, Clause, Literal, LiteralEnd, Term, WordEnd, TermEnd, Equality, Closing, Stop}

-- more argument lists than a text has bytes
abbrev pub max_open : ℕ
max_open = 18446744073709551615

abbrev pub side_in : Side → grammar.Side
side_in (First c) = first c
side_in Second = second

-- a term's place outside argument lists
abbrev pub outer_place : Bool → Side → TermPlace
outer_place b s = record { wrapped = b; side = s; lists = 0 }

abbrev pub due_token_in : Due → DueToken
due_token_in Statement = statement
due_token_in Opening = opening
due_token_in Name = name
due_token_in NameComma = name_comma
due_token_in Role = role
due_token_in RoleComma = role_comma
due_token_in Clause = clause
due_token_in (Literal b) = literal b
due_token_in (LiteralEnd b) = literal_end b
due_token_in (Term p) = term p.wrapped (side_in p.side) p.lists
due_token_in (WordEnd p) = word_end p.wrapped (side_in p.side) p.lists
due_token_in (TermEnd p) = term_end p.wrapped (side_in p.side) p.lists
due_token_in (Equality b c) = equality b c
due_token_in Closing = closing
due_token_in Stop = stop

-- what is due next, if the token may stand there
abbrev pub after_in : rust.Option Due → Option DueToken
after_in (Some d) = some (due_token_in d)
after_in None = none

-- a token of this kind, which spells cnf or does not: all that is looked at
abbrev pub kind_token : TokenKind → Bool → TptpToken
kind_token k c = record { kind = k; name = cond c (bytes "cnf") []; place = 0 }

-- what is due after a token of this kind, if it may make one of these moves
abbrev pub moved_by : List Move → TokenKind → Option DueToken
moved_by ms k = elim (first_that (λ (m : Move). m.0 (kind_token k false)) ms) as (λ _. Option DueToken) [ some m ↦ some m.1 | none ↦ none ]

-- one kind of token, and what is due after it
abbrev pub only_move : TokenKind → DueToken → List Move
only_move k d = (is k, d) ∷ []

-- how many argument lists are open
abbrev pub open_lists : DueToken → ℕ
open_lists statement = 0
open_lists opening = 0
open_lists name = 0
open_lists name_comma = 0
open_lists role = 0
open_lists role_comma = 0
open_lists clause = 0
open_lists (literal b) = 0
open_lists (literal_end b) = 0
open_lists (term b s n) = n
open_lists (word_end b s n) = n
open_lists (term_end b s n) = n
open_lists (equality b c) = 0
open_lists closing = 0
open_lists stop = 0
