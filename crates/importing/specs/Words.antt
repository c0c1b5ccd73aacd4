-- What was read of the words of a statement's clause.
use Rattle.std.specs.Prelude.{ℕ, ◌≤◌, ◌<◌, ◌≡◌, true, List, [], ◌++◌, length}
use Rattle.theory.specs.Lists.{concat_map}
use Rattle.theory.specs.Syntax.{Signature}
use Rattle.theory.specs.Grammar.{Word}
use Rattle.theory.specs.Problem.{max_words}
use Rattle.syntax.specs.declared.signature.Signature as declared
use Rattle.syntax.specs.Signatures.{signature_in}
use Rattle.clauses.specs.declared.clause.Words.{Words}
use Rattle.clauses.specs.Names.{Readable}
use Rattle.clauses.specs.Clauses.{Passed}
use Rattle.tptp.specs.Scanning.{Entry}
use Rattle.declaring.specs.Letters.{Lettered, LettersOf}
use Rattle.importing.specs.declared.words.Coding.{Coding}
use Rattle.importing.specs.Entered.{entry_names, entry_words, entries_fit}

-- words were read before, at most n
pub record Begun (s : declared.Signature) (w : Words) (n : ℕ) : Type 0 where
  pub text : List ℕ
  pub words : List Word
  pub passed : Passed (signature_in text s) words w
  pub few : w.count ≤ n

-- r is what was read after the words xs more than w
abbrev pub Continues : declared.Signature → Words → List Word → Words → Type 0
Continues s w xs r = (text : List ℕ) (ws : List Word) → Passed (signature_in text s) ws w → Passed (signature_in text s) (ws ++ xs) r

-- the words ws were read, and the variables among them are U
pub record CodingOf (text : List ℕ) (s : declared.Signature) (U : List (List ℕ)) (ws : List Word) (c : Coding) : Type 0 where
  pub passed : Passed (signature_in text s) ws c.words
  pub letters : LettersOf text U c.letters
  pub lettered : Lettered text c.letters

-- these entries come next after at most n words, and each has a word
pub record Ready (text : List ℕ) (s : declared.Signature) (c : Coding) (n : ℕ) (es : List Entry) : Type 0 where
  pub readable : Readable text s
  pub variables : List (List ℕ)
  pub words : List Word
  pub coding : CodingOf text s variables words c
  pub few : c.words.count ≤ n
  pub fit : entries_fit (signature_in text s) variables es ≡ true

-- r is what was read after these entries more than c
abbrev pub Coded : List ℕ → declared.Signature → Coding → List Entry → Coding → Type 0
Coded text s c es r = (U : List (List ℕ)) (ws : List Word) → CodingOf text s U ws c → entries_fit (signature_in text s) U es ≡ true
    → CodingOf text s (U ++ concat_map entry_names es) (ws ++ entry_words (signature_in text s) U es) r

-- r is what was read of the entries of a clause: all their words, or more than a clause may have
pub record StatementCoded (g : Signature) (es : List Entry) (r : Words) : Type 0 where
  pub whole : r.count ≤ max_words → Passed g (entry_words g [] es) r
  pub long : max_words < r.count → max_words < length es
