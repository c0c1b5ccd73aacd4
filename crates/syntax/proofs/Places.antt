-- Laws of the places of variables: one word more, and what its place says of a letter.
use Prim.Native.Nat.{ℕ, zero, suc, ◌+◌, ◌-◌, ◌≤◌, ◌<◌}
use mathlib.Core.Path.{◌≡◌, refl, sym, ap, ◌∙◌, subst}
use mathlib.Core.Bool.{Bool, true, false, ◌||◌}
use mathlib.Core.Option.{Option, none, some}
use mathlib.Core.List.{List, [], ◌∷◌, ◌++◌, append-nil, map, map-append}
use native.Mathlib.Omega.{arith}
use lib.Dec.{eqb, ltb}
use lib.ListN.{length, get_or, take, set, replicate, length-append, get_or-replicate}
use lib.Seq.{get_or-set_same, get_or-set_other, take-suc}
use Rattle.theory.specs.Lists.{any, all, elem, distinct, place_that}
use Rattle.theory.specs.Grammar.{Word, sign, equals, symbol, letter}
use Rattle.theory.proofs.Tests.{eqb-true, eqb-ne, ltb-of-<, not-true, and-join, or_left, or_right, or-false-join}
use Rattle.theory.proofs.Lists.{any_append, all_append, elem-append, elem-here, elem-distinct, concat_map-append}
use Rattle.theory.specs.Truth.{assign}
use Rattle.theory.proofs.Truth.{assign-place}
use Rattle.theory.proofs.Finding.{place_that-some, any→place_that, any→place_that-none, place_that-none, place_that-append, place_that-snoc}
use Rattle.theory.proofs.Distinct.{elem-any, distinct-new, distinct-old, distinct-elem, length-distinct}
use Rattle.syntax.specs.declared.words.ClauseWords.{ClauseWords}
use Rattle.syntax.specs.declared.variables.Variables.{Variables}
use Rattle.syntax.specs.Codes.{letter_code, past_letters, code_word, code_of, words_in}
use Rattle.syntax.specs.Variables.{letter_of, letters_of, is_letter, place_or8, Places, variables_in}
use Rattle.syntax.proofs.Codes.{word_of-letter, code_of-word_of}

-- a code below that of A is of no letter
no-letter : (n : ℕ) → n < letter_code → letter_of (code_word n) ≡ []
no-letter n h = go (code_word n) (code_of-word_of n)
  where
    go : (w : Word) → code_of w ≡ n → letter_of w ≡ []
    go (sign b) e = refl
    go equals e = refl
    go (symbol i) e = refl
    go (letter x) e = absurd (omega arith)

module _ (xs : List ℕ) (letters : all is_letter xs ≡ true) (v : Variables) (h : Places (distinct xs) v) where
  -- there are at most 8
  pub few : length (distinct xs) ≤ 8
  few = length-distinct 8 xs letters

  -- a word that is no letter adds none
  pub none-added : (n : ℕ) → n < letter_code → Places (distinct (xs ++ letter_of (code_word n))) v
  none-added n l = subst (λ (ys : List ℕ). Places (distinct ys) v) (sym (ap (λ (ys : List ℕ). xs ++ ys) (no-letter n l) ∙ append-nil xs)) h

  unplaced-none : (x : ℕ) → elem x xs ≡ false → place_that (eqb x) (distinct xs) ≡ none
  unplaced-none x e = any→place_that-none (eqb x) (distinct xs) (sym (elem-any x (distinct xs)) ∙ distinct-elem x xs e)

  placed-elem : (x : ℕ) → x < 8 → get_or v.place x 0 < 8 → elem x xs ≡ true
  placed-elem x l k = go (elem x xs) refl
    where
      go : (b : Bool) → elem x xs ≡ b → b ≡ true
      go true e = refl
      go false e = absurd (omega (arith, h.places x l, ap place_or8 (unplaced-none x e)))

  unplaced : (x : ℕ) → x < 8 → 8 ≤ get_or v.place x 0 → elem x xs ≡ false
  unplaced x l k = not-true (elem x xs) (λ e.
      let r = any→place_that (eqb x) (distinct xs) (sym (elem-any x (distinct xs)) ∙ elem-distinct x xs e) in
      let s = place_that-some (eqb x) (distinct xs) r.0 0 r.1 in
      omega (arith, h.places x l, ap place_or8 r.1, s.0, few))

  -- nor does a letter that has a place
  pub old-added : (n : ℕ) → letter_code ≤ n → n < past_letters → get_or v.place (n - letter_code) 0 < 8 → Places (distinct (xs ++ letter_of (code_word n))) v
  old-added n l k p =
      subst (λ (ys : List ℕ). Places ys v) (sym (ap (λ (w : Word). distinct (xs ++ letter_of w)) (word_of-letter n l) ∙ distinct-old xs (n - letter_code) (placed-elem (n - letter_code) (omega arith) p))) h

  -- any other gets the next one
  added : (x : ℕ) → x < 8 → elem x xs ≡ false → length v.place ≡ 8 → Places (distinct xs ++ (x ∷ [])) (record { place = set v.place x v.count; count = v.count + 1 })
  added x l new q = record { count = omega (arith, h.count, length-append (distinct xs) (x ∷ [])); places = λ z m. go z m (eqb z x) refl }
    where
      other : (z : ℕ) → eqb z x ≡ false → (o : Option ℕ) → place_that (eqb z) (distinct xs) ≡ o → place_that (eqb z) (distinct xs ++ (x ∷ [])) ≡ o
      other z e none k =
          any→place_that-none (eqb z) (distinct xs ++ (x ∷ []))
          (any_append (eqb z) (distinct xs) (x ∷ []) ∙ or-false-join (any (eqb z) (distinct xs)) (eqb z x || false) (place_that-none (eqb z) (distinct xs) k) (or-false-join (eqb z x) false e refl))
      other z e (some i) k = place_that-append (eqb z) (distinct xs) (x ∷ []) i k

      go : (z : ℕ) → z < 8 → (b : Bool) → eqb z x ≡ b → get_or (set v.place x v.count) z 0 ≡ place_or8 (place_that (eqb z) (distinct xs ++ (x ∷ [])))
      go z m true e =
          let r : z ≡ x = eqb-true z x e in
          ap (λ (i : ℕ). get_or (set v.place x v.count) i 0) r
          ∙ get_or-set_same v.place x v.count 0 (omega arith)
          ∙ h.count
          ∙ sym (ap place_or8 (place_that-snoc (eqb z) (distinct xs) x (ap (λ (i : ℕ). place_that (eqb i) (distinct xs)) r ∙ unplaced-none x new) e))
      go z m false e =
          get_or-set_other v.place x z v.count 0 (eqb-ne z x e) ∙ h.places z m ∙ ap place_or8 (sym (other z e (place_that (eqb z) (distinct xs)) refl))

  pub new-added : (n : ℕ) → letter_code ≤ n → n < past_letters → 8 ≤ get_or v.place (n - letter_code) 0 → length v.place ≡ 8
      → Places (distinct (xs ++ letter_of (code_word n))) (record { place = set v.place (n - letter_code) v.count; count = v.count + 1 })
  new-added n l k p q =
      let new : elem (n - letter_code) xs ≡ false = unplaced (n - letter_code) (omega arith) p in
      subst (λ (ys : List ℕ). Places ys (record { place = set v.place (n - letter_code) v.count; count = v.count + 1 }))
      (sym (ap (λ (w : Word). distinct (xs ++ letter_of w)) (word_of-letter n l) ∙ distinct-new xs (n - letter_code) new)) (added (n - letter_code) (omega arith) new q)

-- there is none at first
pub none-placed : Places [] (record { place = replicate 8 8; count = 0 })
none-placed = record { count = refl; places = λ x l. get_or-replicate 8 x 8 0 l }

-- the letters of codes below 73
letter-below : (n : ℕ) → n < past_letters → all is_letter (letter_of (code_word n)) ≡ true
letter-below n h = go (code_word n) (code_of-word_of n)
  where
    go : (w : Word) → code_of w ≡ n → all is_letter (letter_of w) ≡ true
    go (sign b) e = refl
    go equals e = refl
    go (symbol i) e = refl
    go (letter x) e = and-join (ltb x 8) true (ltb-of-< x 8 (omega arith)) refl

pub letters-below : (ns : List ℕ) (i : ℕ) → ((j : ℕ) → j < i → get_or ns j 0 < past_letters) → all is_letter (letters_of (map code_word (take i ns))) ≡ true
letters-below [] zero h = refl
letters-below [] (suc i) h = refl
letters-below (n ∷ ns) zero h = refl
letters-below (n ∷ ns) (suc i) h =
    all_append is_letter (letter_of (code_word n)) (letters_of (map code_word (take i ns)))
    ∙ and-join (all is_letter (letter_of (code_word n))) (all is_letter (letters_of (map code_word (take i ns)))) (letter-below n (h 0 (omega arith))) (letters-below ns i (λ j l. h (suc j) (omega arith)))

-- the letters with those of one more code
pub letters-more : (ns : List ℕ) (i : ℕ) → i < length ns → letters_of (map code_word (take (suc i) ns)) ≡ letters_of (map code_word (take i ns)) ++ letter_of (code_word (get_or ns i 0))
letters-more ns i h =
    ap (λ (l : List ℕ). letters_of (map code_word l)) (take-suc ns i 0 h)
    ∙ ap letters_of (map-append code_word (take i ns) (get_or ns i 0 ∷ []))
    ∙ concat_map-append letter_of (map code_word (take i ns)) (code_word (get_or ns i 0) ∷ [])
    ∙ ap (λ (l : List ℕ). letters_of (map code_word (take i ns)) ++ l) (append-nil (letter_of (code_word (get_or ns i 0))))

-- a letter that occurs has its place among the variables, and the value assigned to it is the one there
module _ (xs : List ℕ) (v : Variables) (h : Places xs v) (x : ℕ) (l : x < 8) (e : elem x xs ≡ true) where
  placed : place_that (eqb x) xs ≡ some (get_or v.place x 0)
  placed =
      let r = any→place_that (eqb x) xs (sym (elem-any x xs) ∙ e) in
      let p : r.0 ≡ get_or v.place x 0 = sym (h.places x l ∙ ap place_or8 r.1) in
      r.1 ∙ ap {B = Option ℕ} some p

  pub place-below : get_or v.place x 0 < length xs
  place-below = (place_that-some (eqb x) xs (get_or v.place x 0) 0 placed).0

  pub assign-placed : (values : List ℕ) → assign xs values x ≡ get_or values (get_or v.place x 0) 0
  assign-placed values = assign-place xs values x (get_or v.place x 0) placed

-- a letter among the words occurs
elem-letters_of : (ws : List Word) (i x : ℕ) → i < length ws → get_or ws i equals ≡ letter x → elem x (letters_of ws) ≡ true
elem-letters_of [] i x l e = absurd (omega arith)
elem-letters_of (w ∷ ws) zero x l e =
    elem-append x (letter_of w) (letters_of ws) ∙ ap (λ (w : Word). elem x (letter_of w) || elem x (letters_of ws)) e ∙ or_left (elem x (x ∷ [])) (elem x (letters_of ws)) (elem-here x [])
elem-letters_of (w ∷ ws) (suc i) x l e =
    elem-append x (letter_of w) (letters_of ws) ∙ or_right (elem x (letter_of w)) (elem x (letters_of ws)) (elem-letters_of ws i x (omega arith) e)

pub letter-occurs : (w : ClauseWords) (i x : ℕ) → i < length (words_in w) → get_or (words_in w) i equals ≡ letter x → elem x (variables_in w) ≡ true
unfolding variables_in
letter-occurs w i x l e = elem-distinct x (letters_of (words_in w)) (elem-letters_of (words_in w) i x l e)
