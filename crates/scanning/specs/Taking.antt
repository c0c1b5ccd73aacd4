-- What one token more of a whole statement is.
use Rattle.std.specs.Prelude.{ℕ, ◌≤◌, ◌<◌, ◌≡◌, Bool, List, [], ◌∷◌, ◌++◌, Option, Some, None}
use Rattle.text.specs.Lines.{part}
use Rattle.tptp.specs.Tokens.{TokenKind, left_paren}
use Rattle.tptp.specs.Grammar.{DueToken}
use Rattle.tptp.specs.Trees.{Name}
use Rattle.tptp.specs.Written.{item_of}
use Rattle.tptp.specs.Scanning.{same_token_kind, arity_ahead, Entry, entries}
use Rattle.statements.specs.Dues.{due_token_in}
use Rattle.statements.specs.Follows.{Inside}
use Rattle.scanning.specs.Ahead.{items_at}
use Rattle.scanning.specs.Entries.{entries_in}
use Rattle.scanning.specs.declared.entries.Entries.{Entries}
use Rattle.scanning.specs.declared.taking.Taken.{Taken}

-- the name from a place up to another
abbrev pub name_in : List ℕ → ℕ → ℕ → Name
name_in text start end = record { bytes = part text start end; place = start }

-- the entries from a place on up to the statement's full stop, where d is due
abbrev pub entries_from : List ℕ → DueToken → ℕ → List Entry
entries_from text d at = entries (items_at text at) d

-- a token from `start` up to `end` adds es, opens a list of arguments or not, and e is due after it
pub record TokenTaken (text : List ℕ) (d : DueToken) (at : ℕ) (es : Entries) (opens : Bool) (start end : ℕ) (e : DueToken) : Type 0 where
  pub kind : TokenKind
  pub items : items_at text at ≡ item_of kind (name_in text start end) ∷ items_at text end
  pub opening : opens ≡ same_token_kind left_paren kind
  pub adds : entries_from text d at ≡ entries_in (name_in text start end) (arity_ahead (items_at text end)) es ++ entries_from text e end
  pub rest : Inside text e end
  pub long : start ≤ end
  pub past : at < end

-- what was taken where d is due at a place
abbrev pub TakenFrom : List ℕ → DueToken → ℕ → Option Taken → Type 0
TakenFrom text d at (Some t) = TokenTaken text d at t.entries t.opens t.start t.end (due_token_in t.due)
TakenFrom text d at None = entries_from text d at ≡ []
