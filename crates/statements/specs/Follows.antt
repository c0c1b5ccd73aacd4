-- What one statement of a text is, from a place on: its tokens, and what it does to the file.
use Rattle.std.specs.Prelude.{ℕ, ◌+◌, ◌≤◌, ◌<◌, ◌≡◌, true, false, List, [], ◌∷◌, ◌++◌, length, Result, Ok, Err}
use Rattle.std.proofs.Math.Option.{some}
use Rattle.tptp.specs.Tokens.{full_stop, TptpToken, is}
use Rattle.tptp.specs.Grammar.{DueToken, statement, opening, is_cnf, due_after_token, may_end}
use Rattle.tptp.specs.Trees.{statement_of}
use Rattle.tptp.specs.Tptp.{File, foreign_at, with_statement, file_from}
use Rattle.tptp.specs.Claims.Places.{due_after_tokens}
use Rattle.tokens.specs.NextTokens.{tokens_at}
use Rattle.statements.specs.Dues.{due_token_in, open_lists}
use Rattle.statements.specs.declared.follow.Followed.{Followed}
use Rattle.statements.specs.declared.follow.Followed.TheVariants as followed
use Rattle.statements.specs.declared.follow.Step.{Step}
use Rattle.statements.specs.declared.follow.Step.TheVariants as step

-- the tokens up to the first full stop, with it
abbrev pub up_to_stop : List TptpToken → List TptpToken
up_to_stop [] = []
up_to_stop (t ∷ ts) = t ∷ (elim (is full_stop t) as (λ _. List TptpToken) [ true ↦ [] | false ↦ up_to_stop ts ])

-- the tokens of the statement that begins at a place, or of what is left of one
abbrev pub own_tokens : List ℕ → ℕ → List TptpToken
own_tokens text at = up_to_stop (tokens_at text at)

-- the file from a place on, where d is due and these tokens of its statement stand before
abbrev pub file_due : List ℕ → ℕ → List TptpToken → DueToken → File
file_due text at before d = file_from (length text) (tokens_at text at) before d

-- the file from a place on where a statement begins or the text ends
abbrev pub file_at : List ℕ → ℕ → File
file_at text at = file_due text at [] statement

-- Where d is due at a place, the tokens from there on end a statement: its full stop is at `stop`, and `end` is the place after it.
pub record WholeFrom (text : List ℕ) (d : DueToken) (at stop end : ℕ) : Type 0 where
  pub parted : tokens_at text at ≡ own_tokens text at ++ tokens_at text end
  pub stands : due_after_tokens d (own_tokens text at) ≡ some statement
  pub file : (before : List TptpToken) → file_due text at before d ≡ with_statement (statement_of (before ++ own_tokens text at)) (file_at text end)
  -- the full stop and the tokens before it
  pub front : List TptpToken
  pub final : TptpToken
  pub ended : own_tokens text at ≡ front ++ (final ∷ [])
  pub placed : final.place ≡ stop
  pub from : at ≤ stop
  pub past : at < end
  pub later : stop ≤ end
  pub within : end ≤ length text

-- Where d is due at a place, the next 15 is at p, before the statement is whole.
pub record ForeignFrom (text : List ℕ) (d : DueToken) (at p : ℕ) : Type 0 where
  pub file : (before : List TptpToken) → file_due text at before d ≡ foreign_at (some p)
  pub within : p ≤ length text

-- the tokens after a place where d is due
abbrev pub RestTo : List ℕ → DueToken → ℕ → Result (ℕ × ℕ) ℕ → Type 0
RestTo text d at (Ok (stop, end)) = WholeFrom text d at stop end
RestTo text d at (Err p) = ForeignFrom text d at p

-- one more token t where d is due inside a statement, up to the place `end`
pub record OneOn (text : List ℕ) (d e : DueToken) (at end : ℕ) : Type 0 where
  pub token : TptpToken
  pub listed : tokens_at text at ≡ token ∷ tokens_at text end
  pub moves : due_after_token d token ≡ some e
  pub goes_on : is full_stop token ≡ false
  pub inside : may_end e ≡ false
  pub lists : open_lists e ≤ end
  pub past : at < end
  pub within : end ≤ length text

abbrev pub Stepped : List ℕ → ℕ → DueToken → Step → Type 0
Stepped text at d (step.On e end) = OneOn text d (due_token_in e) at end
Stepped text at d (step.Stop stop end) = WholeFrom text d at stop end
Stepped text at d (step.Foreign p) = ForeignFrom text d at p

-- Inside a statement: d is due at a place, and the tokens from there on up to the full stop all stand where they may.
pub record Inside (text : List ℕ) (d : DueToken) (at : ℕ) : Type 0 where
  pub stands : due_after_tokens d (own_tokens text at) ≡ some statement
  pub inside : may_end d ≡ false
  pub lists : open_lists d ≤ at
  pub within : at ≤ length text

-- A whole statement from a place on: its cnf is at `start`, its full stop at `stop`, and `end` is the place after it.
pub record WholeAt (text : List ℕ) (at start stop end : ℕ) : Type 0 where
  pub whole : WholeFrom text statement at stop end
  pub cnf : TptpToken
  pub listed : tokens_at text at ≡ cnf ∷ tokens_at text (start + 3)
  pub begins : is_cnf cnf ≡ true
  pub started : cnf.place ≡ start
  pub rest : Inside text opening (start + 3)
  pub from : at ≤ start
  pub past : start < end

-- what the statement that begins at a place is: whole, missing at the text's end, or one with a 15
abbrev pub FollowedTo : List ℕ → ℕ → Followed → Type 0
FollowedTo text at (followed.Whole start stop end) = WholeAt text at start stop end
FollowedTo text at followed.End = tokens_at text at ≡ []
FollowedTo text at (followed.Foreign p) = ForeignFrom text statement at p
