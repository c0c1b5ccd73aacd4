-- The line of a clause, whatever signature its words are over: marks, letters, and the names of the symbols themselves.
use Prim.Native.Nat.{ℕ, ◌+◌}
use mathlib.Core.Path.{◌≡◌, refl, sym, ap, ◌∙◌}
use mathlib.Core.Bool.{true, false, false≢true}
use mathlib.Core.Option.{Option}
use mathlib.Core.List.{List, [], ◌∷◌, ◌++◌, map}
use Rattle.theory.specs.Lists.{all, same, or_zero}
use Rattle.theory.specs.Bytes.{bytes}
use Rattle.theory.specs.Syntax.{Symbol, Signature, symbol_at}
use Rattle.theory.specs.Grammar as words
use Rattle.theory.specs.Problem.{is_named}
use Rattle.theory.specs.SheetText.{line, word_text, words_text}
use Rattle.theory.proofs.Tests.{and_left, and_right}
use Rattle.theory.proofs.Finding.{any→place_that}
use Rattle.theory.proofs.Names.{named-place}
use Rattle.tptp.specs.Trees.{NameClause}
use Rattle.tptp.specs.Symbols.{Occurrence, of_variable, of_symbol, names, letter_of_name, symbol_of_name, clause_over}
use Rattle.tptp.specs.Scanning.{Entry, mark, occurs, clause_entries}
use Rattle.sheet_text.specs.Parts.{clause_line}
use Rattle.importing.specs.Entered.{letters_by, entry_words, occurrence_fits, entries_fit}
use Rattle.importing.proofs.EntryLists.{clause-words}
use Rattle.importing.proofs.Standing.{plain_mark, clause-plain}

-- the text of an occurrence after the variables U
abbrev occurrence_text : List (List ℕ) → Occurrence → List ℕ
occurrence_text U (of_variable x) = (65 + letter_of_name (letters_by (U ++ (x.bytes ∷ []))) x.bytes) ∷ []
occurrence_text U (of_symbol f k n) = f.bytes

-- the texts of entries after the variables U
abbrev entry_texts : List (List ℕ) → List Entry → List (List ℕ)
entry_texts U [] = []
entry_texts U (mark w ∷ es) = word_text [] w ∷ entry_texts U es
entry_texts U (occurs o ∷ es) = occurrence_text U o ∷ entry_texts (U ++ names o) es

-- the line of a clause
abbrev pub line_text : NameClause → List ℕ
line_text c = line (bytes "clause=") (words_text (entry_texts [] (clause_entries c)))

module _ (g : Signature) where
  name_back : (w : List ℕ) → is_named w g ≡ true → (symbol_at g (symbol_of_name g w)).name ≡ w
  name_back w h =
      let r = any→place_that (λ (f : Symbol). same w f.name) g h in
      ap (λ (o : Option ℕ). (symbol_at g (or_zero o)).name) r.1 ∙ sym (named-place g w r.0 r.1).1

  texts-of : (es : List Entry) (U : List (List ℕ)) → all (plain_mark g) es ≡ true → entries_fit g U es ≡ true → map (word_text g) (entry_words g U es) ≡ entry_texts U es
  texts-of [] U p h = refl
  texts-of (mark (words.sign true) ∷ es) U p h = ap (λ (l : List (List ℕ)). bytes "+" ∷ l) (texts-of es U p h)
  texts-of (mark (words.sign false) ∷ es) U p h = ap (λ (l : List (List ℕ)). bytes "-" ∷ l) (texts-of es U p h)
  texts-of (mark words.equals ∷ es) U p h = ap (λ (l : List (List ℕ)). bytes "=" ∷ l) (texts-of es U p h)
  texts-of (mark (words.symbol i) ∷ es) U p h = absurd (false≢true p)
  texts-of (mark (words.letter x) ∷ es) U p h = absurd (false≢true p)
  texts-of (occurs (of_variable x) ∷ es) U p h =
      let o : Occurrence = of_variable x in
      ap (λ (l : List (List ℕ)). occurrence_text U o ∷ l) (texts-of es (U ++ names o) p (and_right (occurrence_fits g U o) (entries_fit g (U ++ names o) es) h))
  texts-of (occurs (of_symbol f k n) ∷ es) U p h =
      let o : Occurrence = of_symbol f k n in
      ap (λ (w : List ℕ). w ∷ map (word_text g) (entry_words g (U ++ names o) es)) (name_back f.bytes (and_left (is_named f.bytes g) (entries_fit g (U ++ names o) es) h))
      ∙ ap (λ (l : List (List ℕ)). f.bytes ∷ l) (texts-of es (U ++ names o) p (and_right (is_named f.bytes g) (entries_fit g (U ++ names o) es) h))

  pub line_of : (c : NameClause) → entries_fit g [] (clause_entries c) ≡ true → clause_line g (words.clause_words (clause_over g c)) ≡ line_text c
  unfolding clause_line
  line_of c h =
      ap (λ (ws : List words.Word). line (bytes "clause=") (words_text (map (word_text g) ws))) (sym (clause-words g c))
      ∙ ap (λ (ts : List (List ℕ)). line (bytes "clause=") (words_text ts)) (texts-of (clause_entries c) [] (clause-plain g c) h)
