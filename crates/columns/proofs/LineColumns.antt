-- The column of a line, by the refusal's number.
use Prim.Native.Nat.{ℕ, suc, ◌+◌, ◌≤◌, ◌<◌}
use mathlib.Core.Path.{◌≡◌, refl, sym, ap, ◌∙◌}
use mathlib.Core.Bool.{Bool, true, false, cond}
use mathlib.Core.Option.{Option, none, some, some-injective}
use mathlib.Core.List.{List, []}
use native.Mathlib.Omega.{arith}
use lib.Dec.{eqb}
use lib.ListN.{length, drop, length-drop, drop_of_length-le}
use borrow.Author.Tests.{ne_eqb}
use Rattle.theory.specs.Lines.{cut_words, words_of}
use Rattle.theory.specs.Syntax.{Signature}
use Rattle.theory.specs.Grammar.{grammar}
use Rattle.theory.specs.LineForms.{LineForm, good_bytes}
use Rattle.theory.specs.Columns.{byte_column, key_length, value_column, is_declaration, word_start, line_words, word_column, word_or, first_unknown, first_misplaced, first_over, line_column}
use Rattle.theory.proofs.Tests.{eqb-true, eqb-ne}
use Rattle.text.specs.Lines.{part}
use Rattle.clauses.proofs.Going.{all_words}
use Rattle.columns.specs.declared.due.SheetLine.{SheetLine}
use Rattle.columns.specs.declared.due.SheetLine.TheVariants.{Heading, FunctionCount, Function, PredicateCount, Predicate, ClauseCount, Clause, End}
use Rattle.columns.specs.Due.{form_of}
use Rattle.columns.specs.Words.{start_from}
use Rattle.columns.specs.Sheets.{word_fault, wordless}
use Rattle.columns.proofs.KeyBytes.{lent-rest}

pub key-small : (d : SheetLine) → key_length (form_of d) ≤ 8
key-small Heading = omega arith
key-small FunctionCount = omega arith
key-small Function = omega arith
key-small PredicateCount = omega arith
key-small Predicate = omega arith
key-small ClauseCount = omega arith
key-small Clause = omega arith
key-small End = omega arith

module _ (g : Signature) (d : LineForm) (l : List ℕ) (n : ℕ) where
  pub name-column : (k : ℕ) → n ≡ 4 → k ≡ key_length d → 1 + k ≡ line_column g d l n
  unfolding line_column
  name-column k e h = let z : 1 + k ≡ suc (key_length d) = omega arith in z ∙ ap (line_column g d l) (sym e)

  pub arity-column : n ≡ 3 → is_declaration d ≡ true → length l ≡ line_column g d l n
  unfolding line_column
  arity-column e h = ap (λ (q : Bool). cond q (length l) (value_column d)) (sym h) ∙ ap (line_column g d l) (sym e)

  pub count-column : (k : ℕ) → n ≡ 3 → is_declaration d ≡ false → k ≡ key_length d → 1 + k ≡ line_column g d l n
  unfolding line_column
  count-column k e h z =
      let w : 1 + k ≡ suc (key_length d) = omega arith in
      w ∙ ap (λ (q : Bool). cond q (length l) (value_column d)) (sym h) ∙ ap (line_column g d l) (sym e)

  pub other-column : (k : ℕ) → n < 5 → (n ≡ 3 → ⊥) → (n ≡ 4 → ⊥) → k ≡ good_bytes d l → 1 + k ≡ line_column g d l n
  unfolding line_column byte_column
  other-column k lt h₃ h₄ e =
      let z : 1 + k ≡ suc (good_bytes d l) = omega arith in
      z ∙ sym (rw (ne_eqb n 3 h₃, ne_eqb n 4 h₄, ne_eqb n 5 (λ e. omega arith), ne_eqb n 6 (λ e. omega arith), ne_eqb n 7 (λ e. omega arith)) refl)

  -- 5 to 7
  words-column : 5 ≤ n → n ≤ 7 → line_column g d l n ≡ word_or d l (wordless n (length l)) (word_fault g n (line_words d l))
  unfolding line_column
  words-column h k = five (eqb n 5) refl
    where
      is : (m : ℕ) → n ≡ m → line_column g d l m ≡ word_or d l (wordless m (length l)) (word_fault g m (line_words d l)) → line_column g d l n ≡ word_or d l (wordless n (length l)) (word_fault g n (line_words d l))
      is m e z = ap (line_column g d l) e ∙ z ∙ ap (λ (i : ℕ). word_or d l (wordless i (length l)) (word_fault g i (line_words d l))) (sym e)

      six : (q : Bool) → eqb n 6 ≡ q → eqb n 5 ≡ false → line_column g d l n ≡ word_or d l (wordless n (length l)) (word_fault g n (line_words d l))
      six true e f = is 6 (eqb-true n 6 e) refl
      six false e f = let a = eqb-ne n 5 f in let b = eqb-ne n 6 e in let z : n ≡ 7 = omega arith in is 7 z refl

      five : (q : Bool) → eqb n 5 ≡ q → line_column g d l n ≡ word_or d l (wordless n (length l)) (word_fault g n (line_words d l))
      five true e = is 5 (eqb-true n 5 e) refl
      five false e = six (eqb n 6) refl e

-- a clause line, its key of k bytes
module _ (g : Signature) (l : List ℕ) (n : ℕ) (least : 5 ≤ n) (most : n ≤ 7) (k : ℕ) (key : k ≡ key_length (form_of Clause)) where
  -- no words, none at fault
  no-fault : word_fault g n [] ≡ none
  unfolding first_unknown first_misplaced first_over grammar
  no-fault = go (eqb n 5) (eqb n 6)
    where
      go : (p q : Bool) → cond p (first_unknown g []) (cond q (first_misplaced g []) (first_over g [])) ≡ none
      go true q = refl
      go false true = refl
      go false false = refl

  column : line_column g (form_of Clause) l n ≡ word_or (form_of Clause) l (wordless n (length l)) (word_fault g n (line_words (form_of Clause) l))
  column = words-column g (form_of Clause) l n least most

  pub line-short : (r : ℕ) → length l ≤ k → r ≡ wordless n (length l) → r ≡ line_column g (form_of Clause) l n
  line-short r h e =
      e ∙ sym (column ∙ ap (word_or (form_of Clause) l (wordless n (length l))) (ap (λ (v : List ℕ). word_fault g n (words_of v)) (drop_of_length-le l {i = 7} (omega arith)) ∙ no-fault))

  module _ (long : k < length l) where
    -- the words behind the key
    abbrev words : List (List ℕ)
    words = cut_words (part l k (length l))

    pub words-behind : line_words (form_of Clause) l ≡ words
    words-behind = all_words (drop 7 l) (λ e. omega (arith, length-drop 7 l)) ∙ ap cut_words (sym (lent-rest l k ∙ ap (λ (i : ℕ). drop i l) key))

    behind : line_column g (form_of Clause) l n ≡ word_or (form_of Clause) l (wordless n (length l)) (word_fault g n words)
    behind = column ∙ ap (λ (ws : List (List ℕ)). word_or (form_of Clause) l (wordless n (length l)) (word_fault g n ws)) words-behind

    pub word-found : (start : ℕ) → some start ≡ start_from 0 words (word_fault g n words) → 1 + k + start ≡ line_column g (form_of Clause) l n
    unfolding word_column
    word-found start e = go (word_fault g n words) e ∙ sym behind
      where
        go : (o : Option ℕ) → some start ≡ start_from 0 words o → 1 + k + start ≡ word_or (form_of Clause) l (wordless n (length l)) o
        go none z = let q : ◌≡◌ {A = ℕ} 0 1 = cc in absurd (omega arith)
        go (some i) z =
            let q : start ≡ 0 + word_start i words = some-injective start _ z in
            let w : word_start i words ≡ word_start i (line_words (form_of Clause) l) = ap (word_start i) (sym words-behind) in
            omega (arith, q, w)

    pub no_word : (r : ℕ) → none ≡ start_from 0 words (word_fault g n words) → r ≡ wordless n (length l) → r ≡ line_column g (form_of Clause) l n
    no_word r e h = h ∙ go (word_fault g n words) e ∙ sym behind
      where
        go : (o : Option ℕ) → none ≡ start_from 0 words o → wordless n (length l) ≡ word_or (form_of Clause) l (wordless n (length l)) o
        go none z = refl
        go (some i) z = let q : ◌≡◌ {A = ℕ} 0 1 = cc in absurd (omega arith)
