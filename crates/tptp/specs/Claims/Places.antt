-- Places of 15: at the first token that cannot stand after those before it, whatever follows it; else at the text's end, where text is missing.
use Rattle.std.specs.Prelude.{ℕ, ◌≡◌, ◌⊎◌, Bool, true, false, List, [], ◌∷◌, ◌++◌, length}
use Rattle.std.proofs.Math.Option.{Option, none, some}
use Rattle.theory.specs.Refusals.{Answer}
use Rattle.tptp.specs.Places.{refused_at}
use Rattle.tptp.specs.Tokens.{TptpToken, tokens}
use Rattle.tptp.specs.Grammar.{DueToken, statement, due_after_token, may_end}
use Rattle.tptp.specs.Tptp.{File, read_file, tptp_text}

-- what is due after tokens that all stand where they may, where d was due before them; none where one of them may not stand
abbrev pub due_after_tokens : DueToken → List TptpToken → Option DueToken
due_after_tokens d [] = some d
due_after_tokens d (t ∷ ts) = elim (due_after_token d t) [ some e ↦ due_after_tokens e ts | none ↦ none ]

-- the tokens a may begin a file, and t may not follow them
abbrev pub Misplaced : List TptpToken → TptpToken → Type 0
Misplaced a t = (d : DueToken) × (due_after_tokens statement a ≡ some d) × (due_after_token d t ≡ none)

-- the 15 of a text is at a misplaced token
abbrev pub AtToken : List ℕ → ℕ → Type 0
AtToken text p = (a : List TptpToken) × (t : TptpToken) × (b : List TptpToken) × (tokens text ≡ a ++ (t ∷ b)) × Misplaced a t × (t.place ≡ p)

-- the 15 of a text is missing text at its end
abbrev pub AtEnd : List ℕ → ℕ → Type 0
AtEnd text p = (d : DueToken) × (due_after_tokens statement (tokens text) ≡ some d) × (may_end d ≡ false) × (p ≡ length text)

-- the theorem
pub record PlacesOf15 : Type 0 where
  -- a 15 is at a misplaced token or at the text's end
  pub where-it-is : (text : List ℕ) (p : ℕ) → (read_file text).foreign ≡ some p → AtToken text p ⊎ AtEnd text p
  -- at a misplaced token there is a 15, whatever follows
  pub stays : (text : List ℕ) (a b : List TptpToken) (t : TptpToken) → tokens text ≡ a ++ (t ∷ b) → Misplaced a t → (read_file text).foreign ≡ some t.place
  -- and if the answer is that 15, it stays the answer
  pub answer-stays : (text text' : List ℕ) (room room' : ℕ) (a b b' : List TptpToken) (t : TptpToken) → tokens text ≡ a ++ (t ∷ b) → tokens text' ≡ a ++ (t ∷ b') → Misplaced a t
      → tptp_text text room ≡ refused_at text 15 t.place → tptp_text text' room' ≡ refused_at text' 15 t.place
  -- at the end of an unfinished text there is a 15
  pub missing : (text : List ℕ) (d : DueToken) → due_after_tokens statement (tokens text) ≡ some d → may_end d ≡ false → (read_file text).foreign ≡ some (length text)
  -- and none in a text that may end
  pub finished : (text : List ℕ) (d : DueToken) → due_after_tokens statement (tokens text) ≡ some d → may_end d ≡ true → (read_file text).foreign ≡ none
  -- tokens that may begin a file can be completed to those of one without a 15
  pub completed : (a : List TptpToken) (d : DueToken) → due_after_tokens statement a ≡ some d → (c : List TptpToken) × (due_after_tokens statement (a ++ c) ≡ some statement)
