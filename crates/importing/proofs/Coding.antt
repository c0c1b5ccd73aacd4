-- One entry more: its code, and what was read after it.
use Prim.Native.Nat.{ℕ, ◌+◌, ◌-◌, ◌≤◌, ◌<◌}
use mathlib.Core.Path.{◌≡◌, refl, sym, ap, ◌∙◌, subst}
use mathlib.Core.Bool.{Bool, true, ◌&&◌, ◌||◌, false≢true}
use mathlib.Core.List.{List, [], ◌∷◌, ◌++◌, map, append_assoc}
use native.Mathlib.Omega.{arith}
use lib.Dec.{eqb, ltb, leb}
use lib.ListN.{length, length-append}
use borrow.Author.Tests.{lt-ltb, le-leb}
use Rattle.std.specs.Prelude.{Some, None, IsSome}
use Rattle.std.specs.Prelude as rust
use Rattle.theory.specs.Options.{told}
use Rattle.theory.specs.Syntax as theory
use Rattle.theory.specs.Grammar.{Word, letter}
use Rattle.theory.specs.Problem.{is_named, place_of_name}
use Rattle.theory.proofs.Tests.{and_left, and-join, or_left, or_right}
use Rattle.syntax.specs.declared.signature.Signature.{Signature}
use Rattle.syntax.specs.Signatures.{signature_in}
use Rattle.syntax.specs.Codes.{plus_code, minus_code, equals_code, letter_code, past_letters, code_word}
use Rattle.syntax.proofs.Codes.{word_of-letter}
use Rattle.clauses.specs.declared.clause.Words.{Words}
use Rattle.clauses.specs.Words.{is_fixed_code, is_code}
use Rattle.clauses.specs.Clauses.{WordsBounded, Passed}
use Rattle.clauses.proofs.Passing.{passed-bounded}
use Rattle.problem.proofs.Declaring.{name-not-found}
use Rattle.tptp.specs.Trees.{Name}
use Rattle.tptp.specs.Symbols.{of_variable, letter_of_name}
use Rattle.tptp.specs.Scanning.{Entry, mark, occurs}
use Rattle.scanning.specs.declared.entries.Marks.TheVariants.{None}
use Rattle.scanning.specs.declared.entries.Named.TheVariants.{Symbol}
use Rattle.scanning.specs.Entries.{occurrences_in}
use Rattle.declaring.specs.declared.letters.Lettering.{Lettering}
use Rattle.declaring.specs.Letters.{LettersOf, LetterFound}
use Rattle.importing.specs.declared.words.Coding.{Coding}
use Rattle.importing.specs.Entered.{letters_by, entry_words}
use Rattle.importing.specs.Words.{Begun, Continues, CodingOf, Ready, Coded}
use Rattle.importing.proofs.EntryLists.{fit-marked, words-marked, names_marked}

-- the codes of a sign, of = and of a letter
pub fixed-code : (n c : ℕ) → is_fixed_code c ≡ true → is_code n c ≡ true
fixed-code n c h = or_right (ltb c n) (is_fixed_code c) h

pub letter-code : (n p : ℕ) → p < 8 → is_code n (letter_code + p) ≡ true
letter-code n p h =
    let c : ℕ = letter_code + p in
    let low : (leb letter_code c && ltb c past_letters) ≡ true = and-join (leb letter_code c) (ltb c past_letters) (le-leb letter_code c (omega arith)) (lt-ltb c past_letters (omega arith)) in
    fixed-code n c (or_right (eqb c plus_code) (eqb c minus_code || (eqb c equals_code || (leb letter_code c && ltb c past_letters))) (or_right (eqb c minus_code) (eqb c equals_code || (leb letter_code c && ltb c past_letters)) (or_right (eqb c equals_code) (leb letter_code c && ltb c past_letters) low)))

letter-word : (p : ℕ) → code_word (letter_code + p) ≡ letter p
letter-word p = let e : letter_code + p - letter_code ≡ p = omega arith in word_of-letter (letter_code + p) (omega arith) ∙ ap letter e

pub symbol-code : (n i : ℕ) → i < n → is_code n i ≡ true
symbol-code n i h = or_left (ltb i n) (is_fixed_code i) (lt-ltb i n h)

module _ (s : Signature) where
  pub begun-bounded : (w : Words) (n : ℕ) → n ≤ 67 → Begun s w n → WordsBounded w
  begun-bounded w n h b = passed-bounded (signature_in b.text s) b.words w b.passed (omega (arith, b.few))

  pub begun_more : (w r : Words) (n m : ℕ) (xs : List Word) → Begun s w n → Continues s w xs r → n + length xs ≤ m → Begun s r m
  begun_more w r n m xs b k h =
      let p = k b.text b.words b.passed in
      record { text = b.text; words = b.words ++ xs; passed = p; few = omega (arith, p.count, length-append b.words xs, b.passed.count, b.few) }

module _ (text : List ℕ) (s : Signature) where
  abbrev g : theory.Signature
  g = signature_in text s

  pub ready-begun : (c : Coding) (n : ℕ) (es : List Entry) → Ready text s c n es → Begun s c.words n
  ready-begun c n es r = record { text = text; words = r.words; passed = r.coding.passed; few = r.few }

  -- a variable
  module _ (c : Coding) (n : Name) where
    abbrev variable : List Entry
    variable = occurs (of_variable n) ∷ []

    pub variable-coded : (r : Lettering) → LetterFound text c.letters n.bytes (Some r) → (w : Words) → Continues s c.words (code_word (letter_code + r.place) ∷ []) w → Coded text s c variable (record { words = w; letters = r.letters })
    variable-coded r found w h U ws k f =
        let e : code_word (letter_code + r.place) ≡ letter (letter_of_name (letters_by (U ++ (n.bytes ∷ []))) n.bytes) = letter-word r.place ∙ ap letter (found.number U k.letters) in
        record {
          passed = subst (λ (x : Word). Passed g (ws ++ (x ∷ [])) w) e (h text ws k.passed);
          letters = found.taken.letters U k.letters;
          lettered = found.taken.lettered;
        }

  -- a symbol
  module _ (c : Coding) (n : Name) where
    abbrev its : Bool → ℕ → List Entry
    its f a = map occurs (occurrences_in n a (Symbol f))

    -- which stands in the signature
    pub some-place : (o : rust.Option ℕ) → told o ≡ place_of_name n.bytes g → (m : ℕ) (f : Bool) (a : ℕ) → Ready text s c m (its f a) → IsSome o
    some-place (Some i) e m f a z = refl
    some-place None absent m f a z = absurd (false≢true (sym (name-not-found n.bytes g None absent refl) ∙ and_left (is_named n.bytes g) true z.fit))

  -- marks, then what is named
  module _ (c : Coding) (ms : List Word) (es : List Entry) (v : Words) (marked : Continues s c.words ms v) where
    abbrev between : Coding
    between = record { words = v; letters = c.letters }

    marked-coding : (U : List (List ℕ)) (ws : List Word) → CodingOf text s U ws c → CodingOf text s U (ws ++ ms) between
    marked-coding U ws k = record { passed = marked text ws k.passed; letters = k.letters; lettered = k.lettered }

    pub marked-coded : (r : Coding) → Coded text s between es r → Coded text s c (map mark ms ++ es) r
    marked-coded r h U ws k f =
        let q = h U (ws ++ ms) (marked-coding U ws k) (sym (fit-marked g ms es U) ∙ f) in
        record {
          passed = subst (λ (l : List Word). Passed g l r.words) (append_assoc ws ms (entry_words g U es) ∙ ap (λ (l : List Word). ws ++ l) (sym (words-marked g ms es U))) q.passed;
          letters = subst (λ (N : List (List ℕ)). LettersOf text (U ++ N) r.letters) (sym (names_marked ms es)) q.letters;
          lettered = q.lettered;
        }
