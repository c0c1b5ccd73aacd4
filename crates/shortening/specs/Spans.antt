-- Words between two places of a sheet.
use Rattle.std.specs.Prelude.{ℕ, ◌+◌, ◌≤◌, ◌<◌, ◌≡◌, true, List, ◌∷◌, length, get_or}
use Rattle.std.proofs.Math.Option.{Option, some}
use Rattle.theory.specs.Bytes.{space}
use Rattle.theory.specs.Lines.{words_of}
use Rattle.theory.specs.Syntax.{Signature}
use Rattle.theory.specs.Grammar.{Word}
use Rattle.theory.specs.Problem.{word_of, read_all}
use Rattle.text.specs.Lines.{part}
use Rattle.syntax.specs.Codes.{code_word}
use Rattle.clauses.specs.Words.{is_code}
use Rattle.shortening.specs.declared.line.LineWord.{LineWord}

-- the words of the sheet's bytes from one place up to another, if all are known
unfoldable pub words_between : Signature → List ℕ → ℕ → ℕ → Option (List Word)
words_between g sheet at to = read_all g (words_of (part sheet at to))

-- r is the code of the word, if it is known
abbrev pub CodeOf : Signature → List ℕ → ℕ → Type 0
CodeOf g word r = (x : Word) → word_of g word ≡ some x → (code_word r ≡ x) × (is_code (length g) r ≡ true)

-- w is the first of the known words ws between two places, and the others are left behind it
pub record FirstOf (g : Signature) (sheet : List ℕ) (at to : ℕ) (ws : List Word) (w : LineWord) : Type 0 where
  pub others : List Word
  pub words : ws ≡ code_word w.code ∷ others
  pub coded : is_code (length g) w.code ≡ true
  pub filled : at < w.end
  pub left : words_between g sheet (w.end + 1) to ≡ some others
  pub spaced : w.end < to → get_or sheet w.end 0 ≡ space

-- w is the word from one place on, of those up to another
pub record NextWord (g : Signature) (sheet : List ℕ) (at to : ℕ) (w : LineWord) : Type 0 where
  pub from : at ≤ w.end
  pub within : w.end ≤ to
  pub first : (ws : List Word) → words_between g sheet at to ≡ some ws → FirstOf g sheet at to ws w
