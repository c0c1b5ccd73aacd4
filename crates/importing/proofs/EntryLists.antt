-- Laws of entries taken one by one: after others, with marks in front, and all together.
use Prim.Native.Nat.{ℕ, suc}
use mathlib.Core.Path.{◌≡◌, refl, sym, ap, ◌∙◌}
use mathlib.Core.Bool.{Bool, true, false, ◌&&◌}
use mathlib.Core.List.{List, [], ◌∷◌, ◌++◌, map, append_assoc, append-nil}
use lib.ListN.{length}
use Rattle.theory.specs.Lists.{concat_map}
use Rattle.theory.specs.Syntax.{Signature}
use Rattle.theory.specs.Grammar.{Word, letter}
use Rattle.theory.specs.Grammar as words
use Rattle.tptp.specs.Trees.{NameClause}
use Rattle.tptp.specs.Symbols.{Occurrence, of_variable, of_symbol, names, letter_of_name, variables_of, clause_over}
use Rattle.tptp.specs.Scanning.{Entry, mark, occurs, clause_entries, occurrence_in, occurrence_word, entry_word}
use Rattle.tptp.proofs.Stepping.{entry-words, entry-occurrences}
use Rattle.tptp.proofs.Deciding.{letter-so-far, here}
use Rattle.importing.specs.Entered.{letters_by, entry_names, entry_words, occurrence_fits, entries_fit}

-- the variables that entries name
abbrev pub names_in : List Entry → List (List ℕ)
names_in es = concat_map entry_names es

module _ (g : Signature) where
  and_assoc : (a b c : Bool) → (a && (b && c)) ≡ ((a && b) && c)
  and_assoc true b c = refl
  and_assoc false b c = refl

  -- one list of entries after another
  pub fit-both : (xs ys : List Entry) (U : List (List ℕ)) → entries_fit g U (xs ++ ys) ≡ (entries_fit g U xs && entries_fit g (U ++ names_in xs) ys)
  fit-both [] ys U = ap (λ (T : List (List ℕ)). entries_fit g T ys) (sym (append-nil U))
  fit-both (mark w ∷ xs) ys U = fit-both xs ys U
  fit-both (occurs o ∷ xs) ys U =
      ap (λ (b : Bool). occurrence_fits g U o && b) (fit-both xs ys (U ++ names o))
      ∙ and_assoc (occurrence_fits g U o) (entries_fit g (U ++ names o) xs) (entries_fit g ((U ++ names o) ++ names_in xs) ys)
      ∙ ap (λ (T : List (List ℕ)). (occurrence_fits g U o && entries_fit g (U ++ names o) xs) && entries_fit g T ys) (append_assoc U (names o) (names_in xs))

  pub words-both : (xs ys : List Entry) (U : List (List ℕ)) → entry_words g U (xs ++ ys) ≡ entry_words g U xs ++ entry_words g (U ++ names_in xs) ys
  words-both [] ys U = ap (λ (T : List (List ℕ)). entry_words g T ys) (sym (append-nil U))
  words-both (mark w ∷ xs) ys U = ap (λ (l : List Word). w ∷ l) (words-both xs ys U)
  words-both (occurs o ∷ xs) ys U =
      ap (λ (l : List Word). occurrence_word g (letters_by (U ++ names o)) o ∷ l)
      (words-both xs ys (U ++ names o) ∙ ap (λ (T : List (List ℕ)). entry_words g (U ++ names o) xs ++ entry_words g T ys) (append_assoc U (names o) (names_in xs)))

  -- marks in front
  pub fit-marked : (ms : List Word) (es : List Entry) (U : List (List ℕ)) → entries_fit g U (map mark ms ++ es) ≡ entries_fit g U es
  fit-marked [] es U = refl
  fit-marked (m ∷ ms) es U = fit-marked ms es U

  pub words-marked : (ms : List Word) (es : List Entry) (U : List (List ℕ)) → entry_words g U (map mark ms ++ es) ≡ ms ++ entry_words g U es
  words-marked [] es U = refl
  words-marked (m ∷ ms) es U = ap (λ (l : List Word). m ∷ l) (words-marked ms es U)

  -- as many words as entries
  pub words-length : (es : List Entry) (U : List (List ℕ)) → length (entry_words g U es) ≡ length es
  words-length [] U = refl
  words-length (mark w ∷ es) U = ap suc (words-length es U)
  words-length (occurs o ∷ es) U = ap suc (words-length es (U ++ names o))

  -- a variable's letter does not change when more come
  word-so-far : (o : Occurrence) (U W : List (List ℕ)) → occurrence_word g (letters_by (U ++ names o)) o ≡ occurrence_word g (letters_by (U ++ (names o ++ W))) o
  word-so-far (of_symbol f k n) U W = refl
  word-so-far (of_variable x) U W =
      let w : List ℕ = x.bytes in
      ap letter (sym (letter-so-far (U ++ (w ∷ [])) W w (here w U)) ∙ ap (λ (T : List (List ℕ)). letter_of_name (letters_by T) w) (append_assoc U (w ∷ []) W))

  -- so the words are those by all variables
  pub words-all : (es : List Entry) (U : List (List ℕ)) → entry_words g U es ≡ map (entry_word g (letters_by (U ++ names_in es))) es
  words-all [] U = refl
  words-all (mark w ∷ es) U = ap (λ (l : List Word). w ∷ l) (words-all es U)
  words-all (occurs o ∷ es) U =
      ap (λ (w : Word). w ∷ entry_words g (U ++ names o) es) (word-so-far o U (names_in es))
      ∙ ap (λ (l : List Word). occurrence_word g (letters_by (U ++ (names o ++ names_in es))) o ∷ l)
      (words-all es (U ++ names o) ∙ ap (λ (T : List (List ℕ)). map (entry_word g (letters_by T)) es) (append_assoc U (names o) (names_in es)))

pub names_marked : (ms : List Word) (es : List Entry) → names_in (map mark ms ++ es) ≡ names_in es
names_marked [] es = refl
names_marked (m ∷ ms) es = names_marked ms es

-- the variables of entries are those of their occurrences
names-occur : (es : List Entry) → names_in es ≡ concat_map names (concat_map occurrence_in es)
names-occur [] = refl
names-occur (mark w ∷ es) = names-occur es
names-occur (occurs o ∷ es) = ap (λ (l : List (List ℕ)). names o ++ l) (names-occur es)

-- the entries of a clause have the words of the sheet's clause
pub clause-words : (g : Signature) (c : NameClause) → entry_words g [] (clause_entries c) ≡ words.clause_words (clause_over g c)
unfolding variables_of
clause-words g c =
    words-all g (clause_entries c) []
    ∙ ap (λ (T : List (List ℕ)). map (entry_word g (letters_by T)) (clause_entries c)) (names-occur (clause_entries c) ∙ ap (concat_map names) (entry-occurrences c))
    ∙ entry-words g c
