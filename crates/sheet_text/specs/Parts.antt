-- The parts of a sheet's text, and what is asked of the code's symbols and words to write them. Names are places in a text.
use Rattle.std.specs.Prelude.{ℕ, zero, suc, ◌+◌, ◌≤◌, ◌≡◌, true, List, [], ◌∷◌, ◌++◌, map, leb, length, take, drop}
use Rattle.theory.specs.Lists.{all, concat_map}
use Rattle.theory.specs.Bytes.{bytes, space, decimal}
use Rattle.theory.specs.Syntax as theory
use Rattle.theory.specs.Grammar.{Word, clause_words}
use Rattle.theory.specs.Problem.{max_arity, max_name, max_words}
use Rattle.theory.specs.SheetText.{line, symbol_text, word_text, words_text}
use Rattle.syntax.specs.declared.signature.Symbol.{Symbol}
use Rattle.syntax.specs.declared.signature.Signature.{Signature}
use Rattle.syntax.specs.declared.words.ClauseWords.{ClauseWords}
use Rattle.syntax.specs.Signatures.{signature_in}
use Rattle.syntax.specs.Codes.{code_word, words_in, is_known}
use Rattle.clauses.specs.Names.{Limited, Readable}

-- the symbol's name stands within the text, and its arity is one that a sheet may have
pub record Named (text : List ℕ) (y : Symbol) : Type 0 where
  pub within : y.name + y.length ≤ length text
  pub arity : y.arity ≤ max_arity

-- names no longer than a sheet may have, so that the length of what is written fits a number
pub record ShortNames (s : Signature) : Type 0 where
  pub limited : Limited s
  pub short : all (λ (y : Symbol). leb y.length max_name) (take s.count s.symbols) ≡ true

-- places of symbols, the first no later than the second
pub record Span (s : Signature) (from to : ℕ) : Type 0 where
  pub ordered : from ≤ to
  pub within : to ≤ s.count

-- the symbols from one place up to another
abbrev pub between : ℕ → ℕ → theory.Signature → List theory.Symbol
between from to g = drop from (take to g)

-- a line for each symbol
abbrev pub symbol_lines : List ℕ → List theory.Symbol → List ℕ
symbol_lines key fs = concat_map (λ (f : theory.Symbol). line key (symbol_text f)) fs

-- the symbols of one kind: how many, then a line for each
unfoldable pub kind_text : List ℕ → List ℕ → List theory.Symbol → List ℕ
kind_text counting key fs = line counting (decimal (length fs)) ++ symbol_lines key fs

-- the head of a sheet: all up to its first clause; the first symbols, so many, are the functions
unfoldable pub head_text : theory.Signature → ℕ → ℕ → List ℕ
head_text g functions clauses =
    line (bytes "sheet=1") []
    ++ (kind_text (bytes "funs=") (bytes "fun=") (take functions g)
    ++ (kind_text (bytes "preds=") (bytes "pred=") (drop functions g)
    ++ line (bytes "clauses=") (decimal clauses)))

-- a clause's line, by its words
unfoldable pub clause_line : theory.Signature → List Word → List ℕ
clause_line g ws = line (bytes "clause=") (words_text (map (word_text g) ws))

-- the lines of clauses
abbrev pub lines_of_clauses : theory.Signature → List theory.Clause → List ℕ
lines_of_clauses g cs = concat_map (λ (c : theory.Clause). clause_line g (clause_words c)) cs

-- a word as it stands after i others: with a space before it, if there are any
abbrev pub spaced : ℕ → List ℕ → List ℕ
spaced zero w = w
spaced (suc i) w = space ∷ w

-- the code is of a word over the signature
pub record WritableWord (text : List ℕ) (s : Signature) (code : ℕ) : Type 0 where
  pub readable : Readable text s
  pub known : is_known (signature_in text s) (code_word code) ≡ true

-- the words are over the signature, and no more than a clause may have
pub record Writable (text : List ℕ) (s : Signature) (w : ClauseWords) : Type 0 where
  pub readable : Readable text s
  pub fits : w.count ≤ max_words
  pub known : all (is_known (signature_in text s)) (words_in w) ≡ true
