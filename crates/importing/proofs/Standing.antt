-- A clause whose occurrences have no fault stands over the signature: each of its entries has a word, and the words are known.
use Prim.Native.Nat.{ℕ}
use mathlib.Core.Path.{◌≡◌, refl, ap, ◌∙◌}
use mathlib.Core.Bool.{Bool, true, false, false≢true}
use mathlib.Core.Option.{Option}
use mathlib.Core.List.{List, [], ◌∷◌, ◌++◌, map}
use lib.Dec.{ltb}
use lib.ListN.{length}
use Rattle.theory.specs.Lists.{all, concat_map, same, or_zero}
use Rattle.theory.specs.Syntax.{Symbol, Signature}
use Rattle.theory.specs.Grammar.{Word, letter}
use Rattle.theory.specs.Grammar as words
use Rattle.theory.specs.Problem.{is_named}
use Rattle.theory.specs.WellFormed.{is_known_letter}
use Rattle.theory.proofs.Tests.{and_left, and_right, and-join, ltb-of-<}
use Rattle.theory.proofs.Lists.{all_append}
use Rattle.theory.proofs.Finding.{any→place_that}
use Rattle.theory.proofs.Names.{named-place}
use Rattle.syntax.specs.Codes.{is_known}
use Rattle.tptp.specs.Trees.{name_holds, name_equal, NameLiteral, never, plain, tilded, unequal, NameClause}
use Rattle.tptp.specs.Symbols.{Occurrence, of_variable, of_symbol, declares, names, symbol_of_name, literal_occurrences, clause_over}
use Rattle.tptp.specs.Scanning.{Entry, mark, occurs, literal_marks, literal_entries, clause_entries, occurrence_in, occurrence_word}
use Rattle.tptp.specs.Claims.Order.{declared_by}
use Rattle.tptp.proofs.Stepping.{entry-occurrences}
use Rattle.tptp.proofs.Taken.{named}
use Rattle.importing.specs.Entered.{letters_by, entry_words, occurrence_fits, entries_fit}
use Rattle.importing.proofs.EntryLists.{clause-words}

module _ (g : Signature) where
  -- letters A to H, and symbols that are named
  fit-by : (es : List Entry) (U : List (List ℕ)) → all is_known_letter (entry_words g U es) ≡ true → all (named g) (concat_map declares (concat_map occurrence_in es)) ≡ true → entries_fit g U es ≡ true
  fit-by [] U h k = refl
  fit-by (mark w ∷ es) U h k = fit-by es U (and_right (is_known_letter w) (all is_known_letter (entry_words g U es)) h) k
  fit-by (occurs (of_variable x) ∷ es) U h k =
      let o : Occurrence = of_variable x in
      let w : Word = occurrence_word g (letters_by (U ++ names o)) o in
      and-join (occurrence_fits g U o) (entries_fit g (U ++ names o) es) (and_left (is_known_letter w) (all is_known_letter (entry_words g (U ++ names o) es)) h)
      (fit-by es (U ++ names o) (and_right (is_known_letter w) (all is_known_letter (entry_words g (U ++ names o) es)) h) k)
  fit-by (occurs (of_symbol f l n) ∷ es) U h k =
      let o : Occurrence = of_symbol f l n in
      and-join (is_named f.bytes g) (entries_fit g (U ++ names o) es) (and_left (is_named f.bytes g) (all (named g) (concat_map declares (concat_map occurrence_in es))) k)
      (fit-by es (U ++ names o) h (and_right (is_named f.bytes g) (all (named g) (concat_map declares (concat_map occurrence_in es))) k))

  -- a mark is a sign or =
  abbrev pub plain_mark : Entry → Bool
  plain_mark (mark (words.sign b)) = true
  plain_mark (mark words.equals) = true
  plain_mark (mark (words.symbol i)) = false
  plain_mark (mark (words.letter x)) = false
  plain_mark (occurs o) = true

  occurs-plain : (os : List Occurrence) → all plain_mark (map occurs os) ≡ true
  occurs-plain [] = refl
  occurs-plain (o ∷ os) = occurs-plain os

  marks-plain : (l : NameLiteral) → all plain_mark (map mark (literal_marks l)) ≡ true
  marks-plain never = refl
  marks-plain (plain (name_holds p ts)) = refl
  marks-plain (plain (name_equal t u)) = refl
  marks-plain (tilded (name_holds p ts)) = refl
  marks-plain (tilded (name_equal t u)) = refl
  marks-plain (unequal t u) = refl

  pub clause-plain : (c : NameClause) → all plain_mark (clause_entries c) ≡ true
  clause-plain [] = refl
  clause-plain (l ∷ c) =
      all_append plain_mark (literal_entries l) (clause_entries c)
      ∙ and-join (all plain_mark (literal_entries l)) (all plain_mark (clause_entries c))
      (all_append plain_mark (map mark (literal_marks l)) (map occurs (literal_occurrences l))
      ∙ and-join (all plain_mark (map mark (literal_marks l))) (all plain_mark (map occurs (literal_occurrences l))) (marks-plain l) (occurs-plain (literal_occurrences l))) (clause-plain c)

  named-known : (w : List ℕ) → is_named w g ≡ true → ltb (symbol_of_name g w) (length g) ≡ true
  named-known w h =
      let r = any→place_that (λ (f : Symbol). same w f.name) g h in
      ap (λ (o : Option ℕ). ltb (or_zero o) (length g)) r.1 ∙ ltb-of-< r.0 (length g) (named-place g w r.0 r.1).0

  known-fit : (es : List Entry) (U : List (List ℕ)) → all plain_mark es ≡ true → entries_fit g U es ≡ true → all (is_known g) (entry_words g U es) ≡ true
  known-fit [] U p h = refl
  known-fit (mark (words.sign b) ∷ es) U p h = known-fit es U p h
  known-fit (mark words.equals ∷ es) U p h = known-fit es U p h
  known-fit (mark (words.symbol i) ∷ es) U p h = absurd (false≢true p)
  known-fit (mark (words.letter x) ∷ es) U p h = absurd (false≢true p)
  known-fit (occurs (of_variable x) ∷ es) U p h =
      let o : Occurrence = of_variable x in
      let w : Word = occurrence_word g (letters_by (U ++ names o)) o in
      and-join (is_known g w) (all (is_known g) (entry_words g (U ++ names o) es)) (and_left (occurrence_fits g U o) (entries_fit g (U ++ names o) es) h)
      (known-fit es (U ++ names o) p (and_right (occurrence_fits g U o) (entries_fit g (U ++ names o) es) h))
  known-fit (occurs (of_symbol f l n) ∷ es) U p h =
      let o : Occurrence = of_symbol f l n in
      and-join (is_known g (words.symbol (symbol_of_name g f.bytes))) (all (is_known g) (entry_words g (U ++ names o) es)) (named-known f.bytes (and_left (is_named f.bytes g) (entries_fit g (U ++ names o) es) h))
      (known-fit es (U ++ names o) p (and_right (is_named f.bytes g) (entries_fit g (U ++ names o) es) h))

  -- the words of a clause whose entries have words are known
  pub entries-known : (c : NameClause) → entries_fit g [] (clause_entries c) ≡ true → all (is_known g) (entry_words g [] (clause_entries c)) ≡ true
  entries-known c h = known-fit (clause_entries c) [] (clause-plain c) h

  -- each entry of a clause has a word, where its letters are A to H and its symbols are named
  pub clause-fits : (c : NameClause) → all is_known_letter (words.clause_words (clause_over g c)) ≡ true → all (named g) (declared_by c) ≡ true → entries_fit g [] (clause_entries c) ≡ true
  clause-fits c h k =
      fit-by (clause_entries c) [] (ap (all is_known_letter) (clause-words g c) ∙ h) (ap (λ (os : List Occurrence). all (named g) (concat_map declares os)) (entry-occurrences c) ∙ k)
