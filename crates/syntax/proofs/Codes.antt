-- Laws of codes: a known word and its code, the words that clause words stand for.
use Prim.Native.Nat.{ℕ, ◌+◌, ◌-◌, ◌≤◌, ◌<◌}
use mathlib.Core.Path.{◌≡◌, refl, sym, ap, ◌∙◌}
use mathlib.Core.Bool.{Bool, true, false, cond}
use mathlib.Core.List.{List}
use native.Mathlib.Omega.{arith}
use lib.Dec.{eqb, ltb}
use lib.ListN.{length, get_or, take, length-map}
use lib.Seq.{get_or-take, length-take-le}
use borrow.Author.Tests.{lt-ltb, le-ltb, ne_eqb}
use Rattle.theory.specs.Lists.{all}
use Rattle.theory.specs.Syntax.{Signature}
use Rattle.theory.specs.Grammar.{Word, sign, equals, symbol, letter}
use Rattle.theory.specs.Claims.Grammar.{is_declared}
use Rattle.theory.proofs.Tests.{ltb-true, ltb-false, eqb-true}
use Rattle.theory.proofs.Lists.{all-imply, all-at, map_at}
use Rattle.syntax.specs.declared.words.ClauseWords.{ClauseWords}
use Rattle.syntax.specs.Codes.{max_places, plus_code, minus_code, equals_code, letter_code, past_letters, code_of, code_word, words_in, is_known}

-- a code that is no sign and no = is a symbol's below 65 and a letter's from there on
pub word_of-symbol : (n : ℕ) → n < plus_code → code_word n ≡ symbol n
word_of-symbol n h =
    let a : eqb n plus_code ≡ false = ne_eqb n plus_code (λ e. omega arith) in
    let b : eqb n minus_code ≡ false = ne_eqb n minus_code (λ e. omega arith) in
    let c : eqb n equals_code ≡ false = ne_eqb n equals_code (λ e. omega arith) in
    let d : ltb n letter_code ≡ true = lt-ltb n letter_code (omega arith) in
    simp (a, b, c, d)

pub word_of-letter : (n : ℕ) → letter_code ≤ n → code_word n ≡ letter (n - letter_code)
word_of-letter n h =
    let a : eqb n plus_code ≡ false = ne_eqb n plus_code (λ e. omega arith) in
    let b : eqb n minus_code ≡ false = ne_eqb n minus_code (λ e. omega arith) in
    let c : eqb n equals_code ≡ false = ne_eqb n equals_code (λ e. omega arith) in
    let d : ltb n letter_code ≡ false = le-ltb n letter_code h in
    simp (a, b, c, d)

-- the code of the word that a code stands for
pub code_of-word_of : (n : ℕ) → code_of (code_word n) ≡ n
code_of-word_of n = a (eqb n plus_code) refl
  where
    d : (b : Bool) → ltb n letter_code ≡ b → code_of (cond b (symbol n) (letter (n - letter_code))) ≡ n
    d true e = refl
    d false e = omega (arith, ltb-false n letter_code e)

    c : (b : Bool) → eqb n equals_code ≡ b → code_of (cond b equals (cond (ltb n letter_code) (symbol n) (letter (n - letter_code)))) ≡ n
    c true e = sym (eqb-true n equals_code e)
    c false e = d (ltb n letter_code) refl

    b : (b : Bool) → eqb n minus_code ≡ b → code_of (cond b (sign false) (cond (eqb n equals_code) equals (cond (ltb n letter_code) (symbol n) (letter (n - letter_code))))) ≡ n
    b true e = sym (eqb-true n minus_code e)
    b false e = c (eqb n equals_code) refl

    a : (b : Bool) → eqb n plus_code ≡ b → code_of (cond b (sign true) (cond (eqb n minus_code) (sign false) (cond (eqb n equals_code) equals (cond (ltb n letter_code) (symbol n) (letter (n - letter_code)))))) ≡ n
    a true e = sym (eqb-true n plus_code e)
    a false e = b (eqb n minus_code) refl

module _ (g : Signature) (small : length g ≤ max_places) where
  -- the word that the code of a known word stands for
  pub word_of-code_of : (w : Word) → is_known g w ≡ true → code_word (code_of w) ≡ w
  word_of-code_of (sign true) h = refl
  word_of-code_of (sign false) h = refl
  word_of-code_of equals h = refl
  word_of-code_of (symbol i) h = word_of-symbol i (omega (arith, ltb-true i (length g) h))
  word_of-code_of (letter x) h = let e : letter_code + x - letter_code ≡ x = omega arith in word_of-letter (letter_code + x) (omega arith) ∙ ap letter e

  -- the codes of known words are below 73
  code_of-below : (w : Word) → is_known g w ≡ true → code_of w < past_letters
  code_of-below (sign true) h = omega arith
  code_of-below (sign false) h = omega arith
  code_of-below equals h = omega arith
  code_of-below (symbol i) h = omega (arith, ltb-true i (length g) h)
  code_of-below (letter x) h = omega (arith, ltb-true x 8 h)

  pub known-below : (n : ℕ) → is_known g (code_word n) ≡ true → n < past_letters
  known-below n h = omega (arith, code_of-below (code_word n) h, code_of-word_of n)

-- a known word's symbol is declared
pub known-declared : (g : Signature) (ws : List Word) → all (is_known g) ws ≡ true → all (is_declared g) ws ≡ true
known-declared g ws h = all-imply (is_known g) (is_declared g) ws one h
  where
    one : (w : Word) → is_known g w ≡ true → is_declared g w ≡ true
    one (sign b) k = refl
    one equals k = refl
    one (symbol i) k = k
    one (letter x) k = refl

module _ (w : ClauseWords) (fits : w.count ≤ length w.words) where
  pub length-words_in : length (words_in w) ≡ w.count
  length-words_in = length-map (take w.count w.words) code_word ∙ length-take-le w.count w.words fits

  -- the word at a place
  pub words_in-at : (i : ℕ) (d : Word) → i < w.count → get_or (words_in w) i d ≡ code_word (get_or w.words i 0)
  words_in-at i d h =
      map_at code_word (take w.count w.words) i 0 d (omega (arith, length-take-le w.count w.words fits)) ∙ ap code_word (get_or-take w.count w.words i 0 h)

  -- is known where all are
  pub known_at : (g : Signature) (i : ℕ) → all (is_known g) (words_in w) ≡ true → i < w.count → is_known g (code_word (get_or w.words i 0)) ≡ true
  known_at g i k h = ap (is_known g) (sym (words_in-at i equals h)) ∙ all-at (is_known g) equals (words_in w) i k (omega (arith, length-words_in))
