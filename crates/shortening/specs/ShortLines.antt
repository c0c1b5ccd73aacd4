-- Clauses with names in the place of terms, word by word.
use Rattle.std.specs.Prelude.{ℕ, ◌+◌, ◌≤◌, ◌<◌, ◌≡◌, true, List, ◌∷◌, ◌++◌, length}
use Rattle.std.proofs.Math.Option.{some}
use Rattle.std.specs.Prelude as rust
use Rattle.std.specs.Prelude.{Some, None}
use Rattle.theory.specs.Lists.{all}
use Rattle.theory.specs.Syntax.{Signature, Term, apply, empty, Clause, clause_ok}
use Rattle.theory.specs.Grammar.{Word, clause_words}
use Rattle.theory.specs.Problem.{max_words}
use Rattle.theory.specs.Flattening.{add_term, add_terms}
use Rattle.syntax.specs.declared.terms.Span.{Span}
use Rattle.syntax.specs.declared.terms.FixedTerms.{FixedTerms}
use Rattle.syntax.specs.Codes.{code_word, is_known}
use Rattle.clauses.specs.Words.{is_code}
use Rattle.clauses.specs.Clauses.{Passed}
use Rattle.naming.specs.FixedTerms.{clause_named, name_of, short_clause}
use Rattle.naming.specs.NamedReading.{max_helpers}
use Rattle.shortening.specs.declared.short.ShortWord.{ShortWord}
use Rattle.shortening.specs.declared.short.ShortLine.{ShortLine}
use Rattle.shortening.specs.Spans.{words_between}
use Rattle.shortening.specs.Left.{Left, left_words, left_named, short_left, LeftHere}
use Rattle.shortening.specs.Tables.{term_at, terms_in, TermsThere}

-- r is the name of the span's term, where n symbols are declared, and the table with that term
pub record Named (g : Signature) (sheet : List ℕ) (n : ℕ) (ts : FixedTerms) (s : Span) (r : ShortWord) : Type 0 where
  pub end : r.end ≡ s.to
  pub there : TermsThere g sheet r.terms
  pub added : terms_in g sheet r.terms ≡ add_term (terms_in g sheet ts) (term_at g sheet s)
  pub name : (zs : List Term) → name_of n (terms_in g sheet r.terms ++ zs) (term_at g sheet s) ≡ apply r.code empty
  pub code : r.code < n + r.terms.count

-- that, or the table is full
abbrev pub NameGiven : Signature → List ℕ → ℕ → FixedTerms → Span → rust.Option ShortWord → Type 0
NameGiven g sheet n ts s (Some r) = Named g sheet n ts s r
NameGiven g sheet n ts s None = max_helpers < length (add_term (terms_in g sheet ts) (term_at g sheet s))

-- r is the word of the shortened clause for the first words of what is left, and the table with their term if they are one
pub record Stepped (g : Signature) (sheet : List ℕ) (at to : ℕ) (ts : FixedTerms) (l : Left) (r : ShortWord) : Type 0 where
  pub from : at < r.end
  pub within : r.end ≤ to
  pub next : LeftHere g sheet (r.end + 1) to
  pub there : TermsThere g sheet r.terms
  pub found : add_terms (terms_in g sheet ts) (left_named l) ≡ add_terms (terms_in g sheet r.terms) (left_named next.left)
  pub short : (zs : List Term) → left_words (short_left (length g) (terms_in g sheet r.terms ++ zs) l)
      ≡ code_word r.code ∷ left_words (short_left (length g) (terms_in g sheet r.terms ++ zs) next.left)
  pub coded : is_code (length g + r.terms.count) r.code ≡ true

-- that, or the table is full
abbrev pub ShortStep : Signature → List ℕ → ℕ → ℕ → FixedTerms → Left → rust.Option ShortWord → Type 0
ShortStep g sheet at to ts l (Some r) = Stepped g sheet at to ts l r
ShortStep g sheet at to ts l None = max_helpers < length (add_terms (terms_in g sheet ts) (left_named l))

-- the words between two places are those of a clause over the signature
pub record LineClause (g : Signature) (sheet : List ℕ) (from to : ℕ) : Type 0 where
  pub clause : Clause
  pub ok : clause_ok g clause ≡ true
  pub words : words_between g sheet from to ≡ some (clause_words clause)

-- the terms of a table, and those of a clause that are named
abbrev pub names_with : Signature → List ℕ → FixedTerms → Clause → List Term
names_with g sheet ts c = add_terms (terms_in g sheet ts) (clause_named c)

-- the words of the clause with names in their place
abbrev pub short_words : Signature → List ℕ → FixedTerms → Clause → List Word
short_words g sheet ts c = clause_words (short_clause (length g) (names_with g sheet ts c) c)

-- there are constants for these names, 32 at most
abbrev pub RoomFor : Signature → List ℕ → ℕ → ℕ → FixedTerms → ℕ → Type 0
RoomFor g sheet from to ts symbols = (c : LineClause g sheet from to) (k : ℕ) → k ≤ length (names_with g sheet ts c.clause) → k ≤ max_helpers → length g + k ≤ symbols

-- r are all words of the shortened clause over the symbols g⁺, and the table with its terms
pub record ShortWhole (g g⁺ : Signature) (sheet : List ℕ) (ts : FixedTerms) (c : Clause) (r : ShortLine) : Type 0 where
  pub there : TermsThere g sheet r.terms
  pub found : terms_in g sheet r.terms ≡ names_with g sheet ts c
  pub passed : Passed g⁺ (short_words g sheet ts c) r.words
  pub known : all (is_known g⁺) (short_words g sheet ts c) ≡ true

-- that, or there are more words than a clause may have
pub record ShortRead (g g⁺ : Signature) (sheet : List ℕ) (ts : FixedTerms) (c : Clause) (r : ShortLine) : Type 0 where
  pub long : max_words < r.words.count → max_words < length (short_words g sheet ts c)
  pub whole : r.words.count ≤ max_words → ShortWhole g g⁺ sheet ts c r

-- that, or there are more terms than the table has room for
abbrev pub Shortened : Signature → Signature → List ℕ → FixedTerms → Clause → rust.Option ShortLine → Type 0
Shortened g g⁺ sheet ts c (Some r) = ShortRead g g⁺ sheet ts c r
Shortened g g⁺ sheet ts c None = max_helpers < length (names_with g sheet ts c)
