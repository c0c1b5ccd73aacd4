-- Laws for code: the tokens from the next piece on, and the words of a clause in the order of the text.
use Prim.Native.Nat.{ℕ, zero, suc, ◌+◌}
use mathlib.Core.Path.{◌≡◌, refl, sym, ap, ◌∙◌}
use mathlib.Core.Bool.{true, false}
use mathlib.Core.List.{List, [], ◌∷◌, ◌++◌, map, map-append, append-nil}
use native.Mathlib.Omega.{arith}
use native.Mathlib.Nat.{add-zero}
use lib.ListN.{drop}
use Rattle.theory.specs.Lists.{concat_map}
use Rattle.theory.specs.Syntax.{Signature}
use Rattle.theory.specs.Syntax as sheet
use Rattle.theory.proofs.Lists.{concat_map-append}
use Rattle.theory.specs.Grammar.{Word, symbol}
use Rattle.theory.specs.Grammar as words
use Rattle.tptp.specs.Tokens.{piece_of, more_bytes, piece_tokens, TptpToken, tokens_from}
use Rattle.tptp.specs.Trees.{NameTerm, name_variable, name_apply, NameTerms, no_terms, term_and, NameAtom, name_holds, name_equal, NameLiteral, never, plain, tilded, unequal, NameClause}
use Rattle.tptp.specs.Symbols.{Occurrence, term_occurrences, terms_occurrences, atom_occurrences, literal_occurrences, clause_occurrences, variables_of, symbol_of_name, term_over, terms_over, atom_over, literal_as_written, clause_over}
use Rattle.tptp.specs.Scanning.{mark, occurs, atom_marks, literal_marks, literal_entries, clause_entries, occurrence_in, occurrence_word, entry_word}

-- bytes of a piece that began before are passed
pub skipped : (bs : List ℕ) (n i : ℕ) → tokens_from bs n i ≡ tokens_from (drop n bs) 0 (i + n)
skipped [] zero i = refl
skipped [] (suc n) i = refl
skipped (b ∷ bs) zero i = ap (tokens_from (b ∷ bs) 0) (sym (add-zero i))
skipped (b ∷ bs) (suc n) i = let e : suc i + n ≡ i + suc n = omega arith in skipped bs n (suc i) ∙ ap (tokens_from (drop n bs) 0) e

-- the tokens of the first piece, then those from the place after it
pub next-piece : (b : ℕ) (bs : List ℕ) (i : ℕ)
    → tokens_from (b ∷ bs) 0 i ≡ piece_tokens (piece_of b bs) i (b ∷ bs) ++ tokens_from (drop (more_bytes (piece_of b bs) bs) bs) 0 (suc i + more_bytes (piece_of b bs) bs)
next-piece b bs i = ap (λ (ts : List TptpToken). piece_tokens (piece_of b bs) i (b ∷ bs) ++ ts) (skipped bs (more_bytes (piece_of b bs) bs) (suc i))

module _ (g : Signature) (xs : List (List ℕ)) where
  -- a term's words are those of its variables and symbols in the order of the text
  mutual
    term_words-is : (t : NameTerm) → words.term_words (term_over g xs t) ≡ map (occurrence_word g xs) (term_occurrences t)
    term_words-is (name_variable x) = refl
    term_words-is (name_apply f ts) = ap (λ (ws : List Word). symbol (symbol_of_name g f.bytes) ∷ ws) (terms-words ts)

    terms-words : (ts : NameTerms) → words.terms_words (terms_over g xs ts) ≡ map (occurrence_word g xs) (terms_occurrences ts)
    terms-words no_terms = refl
    terms-words (term_and t ts) =
        ap (λ (ws : List Word). ws ++ words.terms_words (terms_over g xs ts)) (term_words-is t)
        ∙ ap (λ (ws : List Word). map (occurrence_word g xs) (term_occurrences t) ++ ws) (terms-words ts)
        ∙ sym (map-append (occurrence_word g xs) (term_occurrences t) (terms_occurrences ts))

  atom-words : (a : NameAtom) → words.atom_words (atom_over g xs a) ≡ atom_marks a ++ map (occurrence_word g xs) (atom_occurrences a)
  atom-words (name_holds p ts) = ap (λ (ws : List Word). symbol (symbol_of_name g p.bytes) ∷ ws) (terms-words ts)
  atom-words (name_equal t u) =
      ap (λ (ws : List Word). words.equals ∷ ws)
      (ap (λ (ws : List Word). ws ++ words.term_words (term_over g xs u)) (term_words-is t)
      ∙ ap (λ (ws : List Word). map (occurrence_word g xs) (term_occurrences t) ++ ws) (term_words-is u)
      ∙ sym (map-append (occurrence_word g xs) (term_occurrences t) (term_occurrences u)))

  -- a literal's words: its sign, perhaps =, and its variables and symbols in the order of the text; $false has none
  literal-words : (l : NameLiteral) → words.clause_words (literal_as_written g xs l) ≡ literal_marks l ++ map (occurrence_word g xs) (literal_occurrences l)
  literal-words never = refl
  literal-words (plain a) = ap (λ (ws : List Word). words.sign true ∷ ws) (append-nil (words.atom_words (atom_over g xs a)) ∙ atom-words a)
  literal-words (tilded a) = ap (λ (ws : List Word). words.sign false ∷ ws) (append-nil (words.atom_words (atom_over g xs a)) ∙ atom-words a)
  literal-words (unequal t u) = ap (λ (ws : List Word). words.sign false ∷ ws) (append-nil (words.atom_words (atom_over g xs (name_equal t u))) ∙ atom-words (name_equal t u))

  marks-words : (ws : List Word) → map (entry_word g xs) (map mark ws) ≡ ws
  marks-words [] = refl
  marks-words (w ∷ ws) = ap (λ (l : List Word). w ∷ l) (marks-words ws)

  occur-words : (os : List Occurrence) → map (entry_word g xs) (map occurs os) ≡ map (occurrence_word g xs) os
  occur-words [] = refl
  occur-words (o ∷ os) = ap (λ (l : List Word). occurrence_word g xs o ∷ l) (occur-words os)

  entered-words : (l : NameLiteral) → map (entry_word g xs) (literal_entries l) ≡ words.clause_words (literal_as_written g xs l)
  entered-words l =
      map-append (entry_word g xs) (map mark (literal_marks l)) (map occurs (literal_occurrences l))
      ∙ ap (λ (ws : List Word). ws ++ map (entry_word g xs) (map occurs (literal_occurrences l))) (marks-words (literal_marks l))
      ∙ ap (λ (ws : List Word). literal_marks l ++ ws) (occur-words (literal_occurrences l))
      ∙ sym (literal-words l)

  clause-words : (c : NameClause) → map (entry_word g xs) (clause_entries c) ≡ words.clause_words (concat_map (literal_as_written g xs) c)
  clause-words [] = refl
  clause-words (l ∷ c) =
      map-append (entry_word g xs) (literal_entries l) (clause_entries c)
      ∙ ap (λ (ws : List Word). ws ++ map (entry_word g xs) (clause_entries c)) (entered-words l)
      ∙ ap (λ (ws : List Word). words.clause_words (literal_as_written g xs l) ++ ws) (clause-words c)
      ∙ sym (concat_map-append (λ (l : sheet.Literal). words.sign l.sign ∷ words.atom_words l.atom) (literal_as_written g xs l) (concat_map (literal_as_written g xs) c))

-- the entries of a clause become the words of the sheet's clause
pub entry-words : (g : Signature) (c : NameClause) → map (entry_word g (variables_of c)) (clause_entries c) ≡ words.clause_words (clause_over g c)
unfolding clause_over
entry-words g c = clause-words g (variables_of c) c

pub marks-occur-not : (ws : List Word) → concat_map occurrence_in (map mark ws) ≡ []
marks-occur-not [] = refl
marks-occur-not (w ∷ ws) = marks-occur-not ws

pub occur-all : (os : List Occurrence) → concat_map occurrence_in (map occurs os) ≡ os
occur-all [] = refl
occur-all (o ∷ os) = ap (λ (l : List Occurrence). o ∷ l) (occur-all os)

-- and have the clause's variables and symbols
pub entry-occurrences : (c : NameClause) → concat_map occurrence_in (clause_entries c) ≡ clause_occurrences c
entry-occurrences [] = refl
entry-occurrences (l ∷ c) =
    concat_map-append occurrence_in (literal_entries l) (clause_entries c)
    ∙ ap (λ (os : List Occurrence). os ++ concat_map occurrence_in (clause_entries c))
    (concat_map-append occurrence_in (map mark (literal_marks l)) (map occurs (literal_occurrences l))
    ∙ ap (λ (os : List Occurrence). os ++ concat_map occurrence_in (map occurs (literal_occurrences l))) (marks-occur-not (literal_marks l))
    ∙ occur-all (literal_occurrences l))
    ∙ ap (λ (os : List Occurrence). literal_occurrences l ++ os) (entry-occurrences c)
