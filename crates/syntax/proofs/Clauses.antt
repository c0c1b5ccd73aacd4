-- Clause words that are a clause: the clause's words are theirs, and its variables.
use Prim.Native.Nat.{ℕ, ◌≤◌}
use mathlib.Core.Path.{◌≡◌, refl, sym, ap, ◌∙◌}
use mathlib.Core.Bool.{true}
use mathlib.Core.Option.{some}
use mathlib.Core.List.{List, [], ◌∷◌, ◌++◌}
use lib.ListN.{length}
use Rattle.theory.specs.Lists.{all, concat_map, distinct}
use Rattle.theory.specs.Syntax.{Signature, Term, variable, apply, Terms, empty, cons, Atom, equal, holds, Literal, Clause, term_variables, terms_variables, atom_variables, variables, clause_ok}
use Rattle.theory.specs.Grammar.{Word, term_words, terms_words, atom_words, clause_words, Grammar, grammar, read_words, clause_if, read_clause}
use Rattle.theory.proofs.Lists.{concat_map-append}
use Rattle.theory.specs.Claims.Grammar.{is_declared}
use Rattle.theory.proofs.Grammar.{clause-passed, clause-read, read_clause-sound}
use Rattle.syntax.specs.declared.words.ClauseWords.{ClauseWords}
use Rattle.syntax.specs.Codes.{max_places, words_in, clause_in, is_known, IsClause}
use Rattle.syntax.specs.Variables.{letter_of, letters_of, variables_in, CodesBelow}
use Rattle.syntax.proofs.Codes.{known-declared, known_at, known-below}

-- the letters of a term's words are its variables
mutual
  term-letters : (t : Term) → letters_of (term_words t) ≡ term_variables t
  term-letters (variable x) = refl
  term-letters (apply f ts) = terms-letters ts

  terms-letters : (ts : Terms) → letters_of (terms_words ts) ≡ terms_variables ts
  terms-letters empty = refl
  terms-letters (cons t ts) =
      concat_map-append letter_of (term_words t) (terms_words ts)
      ∙ ap (λ (l : List ℕ). l ++ letters_of (terms_words ts)) (term-letters t)
      ∙ ap (λ (l : List ℕ). term_variables t ++ l) (terms-letters ts)

atom-letters : (a : Atom) → letters_of (atom_words a) ≡ atom_variables a
atom-letters (equal t u) =
    concat_map-append letter_of (term_words t) (term_words u)
    ∙ ap (λ (l : List ℕ). l ++ letters_of (term_words u)) (term-letters t)
    ∙ ap (λ (l : List ℕ). term_variables t ++ l) (term-letters u)
atom-letters (holds p ts) = terms-letters ts

-- and so of a clause's words
pub clause-letters : (c : Clause) → letters_of (clause_words c) ≡ concat_map (λ (l : Literal). atom_variables l.atom) c
clause-letters [] = refl
clause-letters (l ∷ c) =
    concat_map-append letter_of (atom_words l.atom) (clause_words c)
    ∙ ap (λ (m : List ℕ). m ++ letters_of (clause_words c)) (atom-letters l.atom)
    ∙ ap (λ (m : List ℕ). atom_variables l.atom ++ m) (clause-letters c)

module _ (g : Signature) (w : ClauseWords) (h : IsClause g w) where
  pub declared : all (is_declared g) (words_in w) ≡ true
  declared = known-declared g (words_in w) h.known

  -- they are read as that clause
  pub read_clause-clause_in : read_clause g (words_in w) ≡ some (clause_in g w)
  unfolding read_clause clause_in
  read_clause-clause_in = ap (λ (t : Grammar). clause_if t (read_words g (words_in w)).clause) h.grammatical

  pub clause_ok-clause_in : clause_ok g (clause_in g w) ≡ true
  clause_ok-clause_in = (read_clause-sound g (words_in w) (clause_in g w) declared read_clause-clause_in).0

  pub clause_words-clause_in : clause_words (clause_in g w) ≡ words_in w
  clause_words-clause_in = (read_clause-sound g (words_in w) (clause_in g w) declared read_clause-clause_in).1

  pub variables-clause_in : variables (clause_in g w) ≡ variables_in w
  unfolding variables_in
  variables-clause_in = ap distinct (sym (clause-letters (clause_in g w)) ∙ ap letters_of clause_words-clause_in)

  pub codes_below : length g ≤ max_places → w.count ≤ length w.words → CodesBelow w
  codes_below small fits i l = known-below g small _ (known_at w fits g i h.known l)

-- clause words that stand for the words of a clause are that clause
pub clause_words-is_clause : (g : Signature) (w : ClauseWords) (c : Clause) → w.count ≤ 64 → all (is_known g) (words_in w) ≡ true → clause_ok g c ≡ true → words_in w ≡ clause_words c
    → IsClause g w
unfolding grammar
clause_words-is_clause g w c fits known ok e = record { fits = fits; known = known; grammatical = ap (grammar g) e ∙ clause-passed g c 0 ok }

pub clause_in-clause_words : (g : Signature) (w : ClauseWords) (c : Clause) → clause_ok g c ≡ true → words_in w ≡ clause_words c → clause_in g w ≡ c
unfolding clause_in
clause_in-clause_words g w c ok e = ap (λ (ws : List Word). (read_words g ws).clause) e ∙ clause-read g c ok
