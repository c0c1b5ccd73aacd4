-- What the next token of a text from a place on is.
use Rattle.std.specs.Prelude.{ℕ, ◌≤◌, ◌<◌, ◌≡◌, List, [], ◌∷◌, length, drop, Option, Some, None}
use Rattle.text.specs.Lines.{part}
use Rattle.tptp.specs.Tokens.{TptpToken, tokens_from}
use Rattle.tokens.specs.Pieces.{kind_in}
use Rattle.tokens.specs.declared.next.Token.{Token}

-- the tokens of a text from a place on, where a piece begins
abbrev pub tokens_at : List ℕ → ℕ → List TptpToken
tokens_at text at = tokens_from (drop at text) 0 at

-- the token that the code's token is
abbrev pub token_in : List ℕ → Token → TptpToken
token_in text t = record { kind = kind_in t.kind; name = part text t.start t.end; place = t.start }

-- the next token, if there is one, in front of those from its end on
abbrev pub tokens_by : List ℕ → Option Token → List TptpToken
tokens_by text (Some t) = token_in text t ∷ tokens_at text t.end
tokens_by text None = []

-- the token lies from `at` on within the text, and ends further on
abbrev pub WithinText : List ℕ → ℕ → Option Token → Type 0
WithinText text at (Some t) = (at ≤ t.start) × ((t.start ≤ t.end) × ((at < t.end) × (t.end ≤ length text)))
WithinText text at None = Unit {0}

-- r is the next token from `at` on
pub record NextFound (text : List ℕ) (at : ℕ) (r : Option Token) : Type 0 where
  pub listed : tokens_at text at ≡ tokens_by text r
  pub within : WithinText text at r
