-- The words of a clause, as they are written on a sheet, are read back.
use Prim.Native.Nat.{ℕ, ◌+◌, ◌-◌, ◌≤◌, ◌<◌}
use mathlib.Core.Path.{◌≡◌, refl, sym, ap, ◌∙◌}
use mathlib.Core.Bool.{Bool, true, false, cond, not, ◌&&◌, false≢true}
use mathlib.Core.Option.{Option, none, some}
use mathlib.Core.List.{List, [], ◌∷◌, ◌++◌, map, append-nil}
use native.Mathlib.Omega.{arith}
use lib.Dec.{eqb, ltb, leb}
use lib.ListN.{length}
use Rattle.theory.specs.Lists.{all, same, concat_map, prefix}
use Rattle.theory.specs.Bytes.{LF, space}
use Rattle.theory.specs.Lines.{add_byte, cut_words, words_of}
use Rattle.theory.specs.Syntax.{Symbol, Signature, no_symbol, symbol_at, Term, variable, apply, Terms, empty, cons, Atom, equal, holds, Clause, count, function_of, predicate_of, term_ok, terms_ok, atom_ok, clause_ok}
use Rattle.theory.specs.Grammar.{Word, sign, equals, symbol, letter, term_words, terms_words, atom_words, clause_words, read_clause}
use Rattle.theory.specs.Problem.{is_lower, is_name_byte, is_name, place_of_name, name_word, word_of, read_all, within_limits, clause_of}
use Rattle.theory.specs.Claims.Grammar.{is_declared}
use Rattle.theory.specs.Refusals.{answer, at_line}
use Rattle.theory.specs.WellFormed.{symbol_ok, is_known_letter, clause_accepted, NamesDiffer}
use Rattle.theory.proofs.Tests.{eqb-false, ltb-true, ltb-of-<, ltb-of-≤, leb-true, leb-of-≤, and_left, and_right, and-join, false_of_not}
use Rattle.theory.proofs.Lists.{all_append, all-at, any_at, all-imply, all-and, same_refl}
use Rattle.theory.proofs.Finding.{any→place_that}
use Rattle.theory.proofs.Names.{name-length, name-without, named-place}
use Rattle.theory.proofs.Declared.{function_of→, predicate_of→}
use Rattle.theory.proofs.Answers.{bind-step, check-of-true, or_refuse-of-some}
use Rattle.theory.proofs.Grammar.{read_clause-complete}
use Rattle.theory.specs.SheetText.{word_text, words_text, clause_words_text}

-- the byte is not x
abbrev pub is_not : ℕ → ℕ → Bool
is_not x b = not (eqb b x)

-- Words with one space between are cut into these words.
cut-one : (w r v : List ℕ) (vs : List (List ℕ)) → all (is_not space) w ≡ true → cut_words r ≡ v ∷ vs → cut_words (w ++ r) ≡ (w ++ v) ∷ vs
cut-one [] r v vs h e = e
cut-one (b ∷ w) r v vs h e =
    ap (λ (q : Bool). cond q ([] ∷ cut_words (w ++ r)) (add_byte b (cut_words (w ++ r)))) (false_of_not (eqb b space) (and_left (is_not space b) (all (is_not space) w) h))
    ∙ ap (add_byte b) (cut-one w r v vs (and_right (is_not space b) (all (is_not space) w) h) e)

cut-more : (ws : List (List ℕ)) → all (all (is_not space)) ws ≡ true → cut_words (concat_map (λ (v : List ℕ). space ∷ v) ws) ≡ [] ∷ ws
cut-more [] h = refl
cut-more (w ∷ ws) h =
    ap (λ (l : List (List ℕ)). [] ∷ l)
    (cut-one w (concat_map (λ (v : List ℕ). space ∷ v) ws) [] ws (and_left (all (is_not space) w) (all (all (is_not space)) ws) h) (cut-more ws (and_right (all (is_not space) w) (all (all (is_not space)) ws) h))
    ∙ ap (λ (v : List ℕ). v ∷ ws) (append-nil w))

-- a word of at least one byte and no space
abbrev pub is_piece : List ℕ → Bool
is_piece w = ltb 0 (length w) && all (is_not space) w

pub words-cut : (ws : List (List ℕ)) → all is_piece ws ≡ true → words_of (words_text ws) ≡ ws
words-cut [] h = refl
words-cut ([] ∷ ws) h = absurd (false≢true h)
words-cut ((b ∷ w) ∷ ws) h =
    let k : all (all (is_not space)) ((b ∷ w) ∷ ws) ≡ true = all-imply is_piece (all (is_not space)) ((b ∷ w) ∷ ws) (λ v. and_right (ltb 0 (length v)) (all (is_not space) v)) h in
    cut-one (b ∷ w) (concat_map (λ (v : List ℕ). space ∷ v) ws) [] ws (and_left (all (is_not space) (b ∷ w)) (all (all (is_not space)) ws) k)
    (cut-more ws (and_right (all (is_not space) (b ∷ w)) (all (all (is_not space)) ws) k))
    ∙ ap (λ (v : List ℕ). v ∷ ws) (append-nil (b ∷ w))

-- a name is no sign, no = and no letter
name-word : (g : Signature) (w : List ℕ) → is_name w ≡ true → word_of g w ≡ name_word (place_of_name w g)
unfolding word_of is_name
name-word g [] h = absurd (false≢true h)
name-word g (b ∷ c ∷ w) h = refl
name-word g (b ∷ []) h =
    let k : is_lower b ≡ true = and_left (is_lower b) true (and_left (is_lower b && true) (ltb 0 12) h) in
    let lo : 97 ≤ b = leb-true 97 b (and_left (leb 97 b) (ltb b 123) k) in
    let r : Option Word = name_word (place_of_name (b ∷ []) g) in
    let e₁ : eqb b 43 ≡ false = eqb-false b 43 (λ e. omega arith) in
    let e₂ : eqb b 45 ≡ false = eqb-false b 45 (λ e. omega arith) in
    let e₃ : eqb b 61 ≡ false = eqb-false b 61 (λ e. omega arith) in
    let e₄ : ltb b 73 ≡ false = ltb-of-≤ b 73 (omega arith) in
    ap (λ (q : Bool). cond q (some (sign true)) (cond (eqb b 45) (some (sign false)) (cond (eqb b 61) (some equals) (cond (leb 65 b && ltb b 73) (some (letter (b - 65))) r)))) e₁
    ∙ ap (λ (q : Bool). cond q (some (sign false)) (cond (eqb b 61) (some equals) (cond (leb 65 b && ltb b 73) (some (letter (b - 65))) r))) e₂
    ∙ ap (λ (q : Bool). cond q (some equals) (cond (leb 65 b && ltb b 73) (some (letter (b - 65))) r)) e₃
    ∙ ap (λ (q : Bool). cond (q && ltb b 73) (some (letter (b - 65))) r) (leb-of-≤ 65 b (omega arith))
    ∙ ap (λ (q : Bool). cond q (some (letter (b - 65))) r) e₄

letter-word : (g : Signature) (x : ℕ) → x < 8 → word_of g ((65 + x) ∷ []) ≡ some (letter x)
unfolding word_of
letter-word g x h =
    let b : ℕ = 65 + x in
    let r : Option Word = name_word (place_of_name (b ∷ []) g) in
    let e₁ : eqb (65 + x) 43 ≡ false = eqb-false (65 + x) 43 (λ e. omega arith) in
    let e₂ : eqb (65 + x) 45 ≡ false = eqb-false (65 + x) 45 (λ e. omega arith) in
    let e₃ : eqb (65 + x) 61 ≡ false = eqb-false (65 + x) 61 (λ e. omega arith) in
    let e₄ : (leb 65 (65 + x) && ltb (65 + x) 73) ≡ true =
    and-join (leb 65 (65 + x)) (ltb (65 + x) 73) (leb-of-≤ 65 (65 + x) (omega arith)) (ltb-of-< (65 + x) 73 (omega arith)) in
    let e₅ : 65 + x - 65 ≡ x = omega arith in
    ap (λ (q : Bool). cond q (some (sign true)) (cond (eqb b 45) (some (sign false)) (cond (eqb b 61) (some equals) (cond (leb 65 b && ltb b 73) (some (letter (b - 65))) r)))) e₁
    ∙ ap (λ (q : Bool). cond q (some (sign false)) (cond (eqb b 61) (some equals) (cond (leb 65 b && ltb b 73) (some (letter (b - 65))) r))) e₂
    ∙ ap (λ (q : Bool). cond q (some equals) (cond (leb 65 b && ltb b 73) (some (letter (b - 65))) r)) e₃
    ∙ ap (λ (q : Bool). cond q (some (letter (b - 65))) r) e₄
    ∙ ap (λ (y : ℕ). some (letter y)) e₅

-- a symbol is found by its name
pub place-of-name : (g : Signature) → NamesDiffer g → (i : ℕ) → i < length g → place_of_name (symbol_at g i).name g ≡ some i
place-of-name g d i lt =
    let w : List ℕ = (symbol_at g i).name in
    let r = any→place_that (λ (f : Symbol). same w f.name) g (any_at (λ (f : Symbol). same w f.name) no_symbol g i lt (same_refl w)) in
    let s = named-place g w r.0 r.1 in
    r.1 ∙ ap {B = Option ℕ} some (d r.0 i s.0 lt (sym s.1))

module _ (g : Signature) (ok : all symbol_ok g ≡ true) where
  abbrev known : Word → Bool
  known w = is_declared g w && is_known_letter w

  name-at : (i : ℕ) → ltb i (length g) ≡ true → is_name (symbol_at g i).name ≡ true
  name-at i h =
      let f : Symbol = symbol_at g i in
      and_right (leb f.arity 3) (is_name f.name) (all-at symbol_ok no_symbol g i ok (ltb-true i (length g) h))

  -- a word's text has at least one byte, and no byte that is no word's, as LF and space
  text-piece : (w : Word) → known w ≡ true → ltb 0 (length (word_text g w)) ≡ true
  text-piece (sign true) h = refl
  text-piece (sign false) h = refl
  text-piece equals h = refl
  text-piece (symbol i) h = ltb-of-< 0 (length (symbol_at g i).name) (name-length (symbol_at g i).name (name-at i (and_left (ltb i (length g)) true h))).0
  text-piece (letter x) h = refl

  text-without : (x : ℕ) → is_name_byte x ≡ false → x ≤ 40 → (w : Word) → known w ≡ true → all (is_not x) (word_text g w) ≡ true
  text-without x n k (sign true) h = and-join (is_not x 43) true (ap not (eqb-false 43 x (λ e. omega arith))) refl
  text-without x n k (sign false) h = and-join (is_not x 45) true (ap not (eqb-false 45 x (λ e. omega arith))) refl
  text-without x n k equals h = and-join (is_not x 61) true (ap not (eqb-false 61 x (λ e. omega arith))) refl
  text-without x n k (symbol i) h = name-without x (symbol_at g i).name n (name-at i (and_left (ltb i (length g)) true h))
  text-without x n k (letter y) h = and-join (is_not x (65 + y)) true (ap not (eqb-false (65 + y) x (λ e. omega arith))) refl

  -- a word is read from its text
  word_read : NamesDiffer g → (w : Word) → known w ≡ true → word_of g (word_text g w) ≡ some w
  unfolding word_of
  word_read d (sign true) h = refl
  word_read d (sign false) h = refl
  word_read d equals h = refl
  word_read d (symbol i) h =
      let lt : ltb i (length g) ≡ true = and_left (ltb i (length g)) true h in
      name-word g (symbol_at g i).name (name-at i lt) ∙ ap name_word (place-of-name g d i (ltb-true i (length g) lt))
  word_read d (letter x) h = letter-word g x (ltb-true x 8 h)

  words-read : NamesDiffer g → (ws : List Word) → all known ws ≡ true → read_all g (map (word_text g) ws) ≡ some ws
  words-read d [] h = refl
  words-read d (w ∷ ws) h =
      ap (λ (o : Option Word). elim o as (λ _. Option (List Word)) [ some x ↦ prefix x (read_all g (map (word_text g) ws)) | none ↦ none ])
      (word_read d w (and_left (known w) (all known ws) h))
      ∙ ap (prefix w) (words-read d ws (and_right (known w) (all known ws) h))

  pieces : (ws : List Word) → all known ws ≡ true → all is_piece (map (word_text g) ws) ≡ true
  pieces [] h = refl
  pieces (w ∷ ws) h =
      let k : known w ≡ true = and_left (known w) (all known ws) h in
      and-join (is_piece (word_text g w)) (all is_piece (map (word_text g) ws))
      (and-join (ltb 0 (length (word_text g w))) (all (is_not space) (word_text g w)) (text-piece w k) (text-without space refl (omega arith) w k))
      (pieces ws (and_right (known w) (all known ws) h))

  more-in_line : (ws : List Word) → all known ws ≡ true → all (is_not LF) (concat_map (λ (v : List ℕ). space ∷ v) (map (word_text g) ws)) ≡ true
  more-in_line [] h = refl
  more-in_line (w ∷ ws) h =
      all_append (is_not LF) (word_text g w) (concat_map (λ (v : List ℕ). space ∷ v) (map (word_text g) ws))
      ∙ and-join (all (is_not LF) (word_text g w)) (all (is_not LF) (concat_map (λ (v : List ℕ). space ∷ v) (map (word_text g) ws)))
      (text-without LF refl (omega arith) w (and_left (known w) (all known ws) h)) (more-in_line ws (and_right (known w) (all known ws) h))

  spaced-in_line : (ws : List Word) → all known ws ≡ true → all (is_not LF) (words_text (map (word_text g) ws)) ≡ true
  spaced-in_line [] h = refl
  spaced-in_line (w ∷ ws) h =
      all_append (is_not LF) (word_text g w) (concat_map (λ (v : List ℕ). space ∷ v) (map (word_text g) ws))
      ∙ and-join (all (is_not LF) (word_text g w)) (all (is_not LF) (concat_map (λ (v : List ℕ). space ∷ v) (map (word_text g) ws)))
      (text-without LF refl (omega arith) w (and_left (known w) (all known ws) h)) (more-in_line ws (and_right (known w) (all known ws) h))

  -- the words of a clause over the signature mean declared symbols
  mutual
    term-declared : (t : Term) → term_ok g t ≡ true → all (is_declared g) (term_words t) ≡ true
    term-declared (variable x) h = refl
    term-declared (apply f ts) h =
        let k = function_of→ g f (count ts) (and_left (function_of g f (count ts)) (terms_ok g ts) h) in
        and-join (ltb f (length g)) (all (is_declared g) (terms_words ts)) (ltb-of-< f (length g) k.below) (terms-declared ts (and_right (function_of g f (count ts)) (terms_ok g ts) h))

    terms-declared : (ts : Terms) → terms_ok g ts ≡ true → all (is_declared g) (terms_words ts) ≡ true
    terms-declared empty h = refl
    terms-declared (cons t ts) h =
        all_append (is_declared g) (term_words t) (terms_words ts)
        ∙ and-join (all (is_declared g) (term_words t)) (all (is_declared g) (terms_words ts)) (term-declared t (and_left (term_ok g t) (terms_ok g ts) h)) (terms-declared ts (and_right (term_ok g t) (terms_ok g ts) h))

  atom-declared : (a : Atom) → atom_ok g a ≡ true → all (is_declared g) (atom_words a) ≡ true
  atom-declared (equal t u) h =
      all_append (is_declared g) (term_words t) (term_words u)
      ∙ and-join (all (is_declared g) (term_words t)) (all (is_declared g) (term_words u)) (term-declared t (and_left (term_ok g t) (term_ok g u) h)) (term-declared u (and_right (term_ok g t) (term_ok g u) h))
  atom-declared (holds p ts) h =
      let k = predicate_of→ g p (count ts) (and_left (predicate_of g p (count ts)) (terms_ok g ts) h) in
      and-join (ltb p (length g)) (all (is_declared g) (terms_words ts)) (ltb-of-< p (length g) k.below) (terms-declared ts (and_right (predicate_of g p (count ts)) (terms_ok g ts) h))

  clause-declared : (c : Clause) → clause_ok g c ≡ true → all (is_declared g) (clause_words c) ≡ true
  clause-declared [] h = refl
  clause-declared (l ∷ c) h =
      all_append (is_declared g) (atom_words l.atom) (clause_words c)
      ∙ and-join (all (is_declared g) (atom_words l.atom)) (all (is_declared g) (clause_words c)) (atom-declared l.atom (and_left (atom_ok g l.atom) (clause_ok g c) h))
      (clause-declared c (and_right (atom_ok g l.atom) (clause_ok g c) h))

  module _ (c : Clause) (h : clause_accepted g c ≡ true) where
    abbrev formed : Bool
    formed = clause_ok g c && within_limits (clause_words c) c

    clause-known : all known (clause_words c) ≡ true
    clause-known =
        all-and (is_declared g) is_known_letter (clause_words c)
        (clause-declared c (and_left (clause_ok g c) (within_limits (clause_words c) c) (and_left formed (all is_known_letter (clause_words c)) h)))
        (and_right formed (all is_known_letter (clause_words c)) h)

    pub clause-in_line : all (is_not LF) (clause_words_text g c) ≡ true
    clause-in_line = spaced-in_line (clause_words c) clause-known

    -- an accepted clause is read from its text
    pub clause-read : NamesDiffer g → (l : ℕ) → clause_of g l (clause_words_text g c) ≡ answer c
    unfolding clause_of
    clause-read d l =
        let ws : List Word = clause_words c in
        let k : formed ≡ true = and_left formed (all is_known_letter ws) h in
        let e : read_all g (words_of (clause_words_text g c)) ≡ some ws = ap (read_all g) (words-cut (map (word_text g) ws) (pieces ws clause-known)) ∙ words-read d ws clause-known in
        bind-step _ _ ws _ (or_refuse-of-some (read_all g (words_of (clause_words_text g c))) (at_line 5 l) ws e)
        (bind-step _ _ c _ (or_refuse-of-some (read_clause g ws) (at_line 6 l) c (read_clause-complete g c (and_left (clause_ok g c) (within_limits ws c) k)))
        (bind-step _ _ tt _ (check-of-true (within_limits ws c) (at_line 7 l) (and_right (clause_ok g c) (within_limits ws c) k)) refl))
