-- Clauses over another signature: each symbol stands for the one at another place, in trees and in words.
use Prim.Native.Nat.{ℕ, suc}
use mathlib.Core.Path.{◌≡◌, refl, sym, ap, ◌∙◌}
use mathlib.Core.List.{List, ◌∷◌, ◌++◌, map, map-append}
use lib.ListN.{length-map}
use Rattle.theory.specs.Syntax.{Term, variable, apply, Terms, empty, cons, Atom, equal, holds, Literal, Clause, count}
use Rattle.theory.specs.Grammar.{Word, sign, equals, symbol, letter, term_words, terms_words, atom_words, clause_words}
use Rattle.theory.specs.Problem.{within_limits}
use Rattle.theory.proofs.Lists.{concat_map-map, map-concat_map, concat_map-cong}
use Rattle.theory.proofs.Renamed.{renamed_term, renamed_terms, renamed_atom, renamed_literal, renamed_clause, limits-renamed}

-- the symbol at place i is moved to place π i
abbrev pub move_atom : (ℕ → ℕ) → Atom → Atom
move_atom π a = renamed_atom π π a

abbrev pub move_clause : (ℕ → ℕ) → Clause → Clause
move_clause π c = renamed_clause π π c

abbrev pub move_word : (ℕ → ℕ) → Word → Word
move_word π (sign b) = sign b
move_word π equals = equals
move_word π (symbol i) = symbol (π i)
move_word π (letter x) = letter x

module _ (π : ℕ → ℕ) where
  -- words
  mutual
    term_words-is : (t : Term) → term_words (renamed_term π t) ≡ map (move_word π) (term_words t)
    term_words-is (variable x) = refl
    term_words-is (apply f ts) = ap (λ (l : List Word). symbol (π f) ∷ l) (terms-words ts)

    terms-words : (ts : Terms) → terms_words (renamed_terms π ts) ≡ map (move_word π) (terms_words ts)
    terms-words empty = refl
    terms-words (cons t ts) =
        ap (λ (l : List Word). l ++ terms_words (renamed_terms π ts)) (term_words-is t) ∙ ap (λ (l : List Word). map (move_word π) (term_words t) ++ l) (terms-words ts)
        ∙ sym (map-append (move_word π) (term_words t) (terms_words ts))

  atom-words : (a : Atom) → atom_words (move_atom π a) ≡ map (move_word π) (atom_words a)
  atom-words (equal t u) =
      ap (λ (l : List Word). equals ∷ l) (
      ap (λ (l : List Word). l ++ term_words (renamed_term π u)) (term_words-is t) ∙ ap (λ (l : List Word). map (move_word π) (term_words t) ++ l) (term_words-is u)
      ∙ sym (map-append (move_word π) (term_words t) (term_words u)))
  atom-words (holds p ts) = ap (λ (l : List Word). symbol (π p) ∷ l) (terms-words ts)

  pub clause-words : (c : Clause) → clause_words (move_clause π c) ≡ map (move_word π) (clause_words c)
  clause-words c =
      concat_map-map (λ (l : Literal). sign l.sign ∷ atom_words l.atom) (renamed_literal π π) c
      ∙ concat_map-cong (λ (l : Literal). sign l.sign ∷ atom_words (move_atom π l.atom)) (λ (l : Literal). map (move_word π) (sign l.sign ∷ atom_words l.atom)) c
      (λ l. ap (λ (ws : List Word). sign l.sign ∷ ws) (atom-words l.atom))
      ∙ sym (map-concat_map (move_word π) (λ (l : Literal). sign l.sign ∷ atom_words l.atom) c)

  pub count-moved : (ts : Terms) → count (renamed_terms π ts) ≡ count ts
  count-moved empty = refl
  count-moved (cons t ts) = ap suc (count-moved ts)

  pub limits-moved : ((i j : ℕ) → π i ≡ π j → i ≡ j) → (ws : List Word) (c : Clause) → within_limits (map (move_word π) ws) (move_clause π c) ≡ within_limits ws c
  limits-moved apart ws c = limits-renamed π π apart (map (move_word π) ws) ws c (length-map ws (move_word π))
