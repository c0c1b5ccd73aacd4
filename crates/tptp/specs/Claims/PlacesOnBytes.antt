-- Places of 15, on bytes: at the first token that nothing after it can put right; else at the text's end, where text is missing.
-- A token is taken as it stands: cn is a token of its own, also at the end of a text that could go on with f.
use Rattle.std.specs.Prelude.{ℕ, ◌+◌, ◌≤◌, ◌<◌, ◌≡◌, ◌⊎◌, Bool, true, List, [], ◌∷◌, ◌++◌, length, take}
use Rattle.std.proofs.Math.Option.{none, some}
use Rattle.theory.specs.Bytes.{bytes}
use Rattle.theory.specs.Refusals.{Refusal, refused}
use Rattle.tptp.specs.Places.{place_of, refused_at}
use Rattle.tptp.specs.Tokens.{TptpToken, open_comment, is_blank, tokens}
use Rattle.tptp.specs.Grammar.{DueToken, statement}
use Rattle.tptp.specs.Tptp.{read_file, tptp_text}
use Rattle.tptp.specs.Claims.Places.{due_after_tokens}
use Rattle.tptp.specs.Claims.Deciding.{first_of_statements}

-- t is one of the tokens of a text
abbrev pub HasToken : List ℕ → TptpToken → Type 0
HasToken text t = (a : List TptpToken) × (b : List TptpToken) × (tokens text ≡ a ++ (t ∷ b))

-- how many bytes of the text there are up to the end of a token
abbrev pub end_of : TptpToken → ℕ
end_of t = t.place + length t.name

-- a token of the text ends after n bytes
abbrev pub TokenEnds : List ℕ → ℕ → Type 0
TokenEnds text n = (t : TptpToken) × HasToken text t × (end_of t ≡ n)

-- a blank comes first, or nothing comes
abbrev pub blank_or_nothing : List ℕ → Bool
blank_or_nothing [] = true
blank_or_nothing (b ∷ bs) = is_blank b

-- a text without a 15: no room makes its answer a 15
pub record Without15 (text : List ℕ) : Type 0 where
  pub whole : (read_file text).foreign ≡ none
  pub other : (room : ℕ) (r : Refusal) → tptp_text text room ≡ refused r → ¬ (r.number ≡ 15)

-- more bytes complete these to a text without a 15
abbrev pub Completable : List ℕ → Type 0
Completable bs = (c : List ℕ) × Without15 (bs ++ c)

-- a 15 at a token of the text
pub record BeyondHelp (text : List ℕ) (r : Refusal) : Type 0 where
  -- the token, which has bytes of the text
  pub token : TptpToken
  pub has : HasToken text token
  pub starts : token.place < end_of token
  pub ends : end_of token ≤ length text
  -- line and column are those of its first byte
  pub place : r.place ≡ place_of text token.place
  -- nothing after it puts it right: the refusal is the same for every text with the same bytes up to the token's end in which a token ends there too
  pub stays : (text' : List ℕ) (room : ℕ) → take (end_of token) text' ≡ take (end_of token) text → TokenEnds text' (end_of token) → tptp_text text' room ≡ refused r
  -- as it does where a blank follows, or nothing
  pub stays-before-blank : (c : List ℕ) (room : ℕ) → blank_or_nothing c ≡ true → tptp_text (take (end_of token) text ++ c) room ≡ refused r
  -- what comes before it can be put right, each token before it staying as it is: a new line may be begun there
  pub before : Completable (take token.place text ++ bytes "\n")

-- a 15 at the end of the text: all of it can be put right, on a new line or after the end of a comment
pub record MissingText (text : List ℕ) (r : Refusal) : Type 0 where
  pub place : r.place ≡ place_of text (length text)
  pub all : Completable (text ++ bytes "\n") ⊎ Completable (text ++ bytes "*/")

-- the theorem
pub record PlacesOnBytes : Type 0 where
  -- a 15 is at a token or at the text's end
  pub where-it-is : (text : List ℕ) (room : ℕ) (r : Refusal) → tptp_text text room ≡ refused r → r.number ≡ 15 → BeyondHelp text r ⊎ MissingText text r
  -- a comment without end is missing text: if the tokens before it may stand and no whole statement has a fault, the answer is a 15 at the text's end, and */ puts it right
  pub unclosed : (text : List ℕ) (room : ℕ) (a : List TptpToken) (t : TptpToken) (d : DueToken) → tokens text ≡ a ++ (t ∷ []) → t.kind ≡ open_comment
      → due_after_tokens statement a ≡ some d → first_of_statements text ≡ none → (tptp_text text room ≡ refused_at text 15 (length text)) × Completable (text ++ bytes "*/")
