-- What each step of valuing a literal is lent, and what it gives.
use Rattle.std.specs.Prelude.{ℕ, ◌+◌, ◌≤◌, ◌<◌, ◌≡◌, Bool, true, List, ◌++◌, map, length, get_or, drop}
use Rattle.theory.specs.Lists.{all}
use Rattle.theory.specs.Vectors.{AllBelow}
use Rattle.theory.specs.Syntax.{Signature, Terms, empty, cons, Atom, equal, holds, Clause, terms_ok, atom_ok, clause_ok}
use Rattle.theory.specs.Truth.{Assignment, values, atom_true, assign}
use Rattle.theory.specs.Cells.{cell_base, interpretation, is_interpretation}
use Rattle.theory.specs.Grammar.{Word, equals, symbol, letter, terms_words, clause_words, clause, grammar}
use Rattle.text.specs.Lines.{part}
use Rattle.syntax.specs.Signatures.{Arities, Small}
use Rattle.syntax.specs.Codes.{letter_code, code_word, is_known}
use Rattle.truth.specs.declared.values.TermsSpan.{TermsSpan}
use Rattle.truth.specs.Values.{PlacesIn, letters_among}

-- the cells are an interpretation of the signature at size s, and each symbol has its first cell among the bases
pub record Interprets (g : Signature) (bases cells : List ℕ) (s : ℕ) : Type 0 where
  pub size : s ≤ 8
  pub small : Small g
  pub bases-held : length g ≤ length bases
  pub base : (f : ℕ) → f < length g → get_or bases f 0 ≡ cell_base s g f
  pub values : is_interpretation s g cells ≡ true

-- the words are a clause's; from place i on they are those of a literal's terms, then those of the literals behind it
pub record TermsStand (g : Signature) (words : List ℕ) (i : ℕ) : Type 0 where
  pub within : i ≤ length words
  pub known : all (is_known g) (map code_word words) ≡ true
  pub good : grammar g (map code_word words) ≡ clause
  pub terms : Terms
  pub ok : terms_ok g terms ≡ true
  pub behind : Clause
  pub behind-ok : clause_ok g behind ≡ true
  pub stand : drop i (map code_word words) ≡ terms_words terms ++ clause_words behind

-- where the terms end
abbrev pub terms_end : {g : Signature} {words : List ℕ} {i : ℕ} → TermsStand g words i → ℕ
terms_end {i = i} t = i + length (terms_words t.terms)

-- each variable among the words from a up to e has its value at its own place
abbrev pub VariablesHeld : Assignment → List ℕ → ℕ → ℕ → List ℕ → Type 0
VariablesHeld ρ words a e held = (j x : ℕ) → a ≤ j → j < e → code_word (get_or words j 0) ≡ letter x → get_or held j 0 ≡ ρ x

-- from place k on, up to e, the words are variables
pub record Tail (words : List ℕ) (from k e : ℕ) : Type 0 where
  pub start : from ≤ k
  pub within : k ≤ e
  pub letters : (j : ℕ) → k ≤ j → j < e → letter_code ≤ get_or words j 0

-- terms of a literal, and a choice of values for the clause's variables
pub record VariablesLent (words : List ℕ) (from : ℕ) (place choice : List ℕ) : Type 0 where
  pub signature : Signature
  pub small : Small signature
  pub there : TermsStand signature words from
  pub variables : List ℕ
  pub letters : letters_among variables (map code_word words) ≡ true
  pub eight : length place ≡ 8
  pub places : PlacesIn variables place
  pub counted : length choice ≡ length variables

-- their variables are valued, and r tells where the terms end
pub record VariablesValued {words : List ℕ} {from : ℕ} {place choice : List ℕ} (v : VariablesLent words from place choice) (r : TermsSpan) (held : List ℕ) : Type 0 where
  pub end : r.end ≡ terms_end v.there
  pub tail : Tail words from r.tail r.end
  pub values : VariablesHeld (assign v.variables choice) words from r.end held

-- terms of a literal whose variables are valued
pub record TermsLent (words : List ℕ) (from k : ℕ) (arities bases cells : List ℕ) (s : ℕ) (held : List ℕ) : Type 0 where
  pub signature : Signature
  pub interprets : Interprets signature bases cells s
  pub table : Arities signature arities
  pub there : TermsStand signature words from
  pub room : length words ≤ length held
  pub tail : Tail words from k (terms_end there)
  pub assignment : Assignment
  pub below : (j x : ℕ) → from ≤ j → j < terms_end there → code_word (get_or words j 0) ≡ letter x → assignment x < s
  pub variables : VariablesHeld assignment words from (terms_end there) held

-- from `top` on stand the values of the terms
pub record TermsValued {words : List ℕ} {from k : ℕ} {arities bases cells : List ℕ} {s : ℕ} {held : List ℕ} (t : TermsLent words from k arities bases cells s held) (top : ℕ) (held' : List ℕ) : Type 0 where
  pub within : top ≤ terms_end t.there
  pub terms : part held' top (terms_end t.there) ≡ values (interpretation s t.signature cells) t.assignment t.there.terms
  pub below : AllBelow s (part held' top (terms_end t.there))

-- an atom's first word, and its terms
abbrev pub atom_word : Atom → Word
atom_word (equal t u) = equals
atom_word (holds p ts) = symbol p

abbrev pub atom_terms : Atom → Terms
atom_terms (equal t u) = cons t (cons u empty)
atom_terms (holds p ts) = ts

-- an atom's first word, and the values of its terms
pub record AtomLent (word : ℕ) (bases cells : List ℕ) (s : ℕ) (held : List ℕ) : Type 0 where
  pub signature : Signature
  pub interprets : Interprets signature bases cells s
  pub assignment : Assignment
  pub atom : Atom
  pub ok : atom_ok signature atom ≡ true
  pub begins : code_word word ≡ atom_word atom
  pub terms : held ≡ values (interpretation s signature cells) assignment (atom_terms atom)
  pub below : AllBelow s held

-- b is the truth of each such atom
abbrev pub IsAtomValue : ℕ → List ℕ → List ℕ → ℕ → List ℕ → Bool → Type 0
IsAtomValue word bases cells s held b = (a : AtomLent word bases cells s held) → b ≡ atom_true (interpretation s a.signature cells) a.assignment a.atom
