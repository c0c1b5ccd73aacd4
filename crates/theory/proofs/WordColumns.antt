-- The columns of words: the words from there on; that of an unknown word and of what is over a limit.
use Prim.Native.Nat.{ℕ, zero, suc, ◌+◌, ◌-◌, ◌≤◌, ◌<◌}
use mathlib.Core.Path.{◌≡◌, refl, sym, ap, ◌∙◌}
use mathlib.Core.Logic.{◌⊎◌, inl, inr}
use mathlib.Core.Bool.{Bool, true, false, cond, not, ◌||◌}
use mathlib.Core.Option.{Option, none, some, some-injective}
use mathlib.Core.List.{List, [], ◌∷◌, ◌++◌}
use native.Mathlib.Omega.{arith}
use lib.Dec.{eqb, ltb}
use lib.ListN.{length, get_or, take, drop, length-append, take-append-drop}
use lib.Seq.{take-length, drop-drop}
use Rattle.theory.specs.Lists.{any, select, up_to, place_that}
use Rattle.theory.specs.Bytes.{space}
use Rattle.theory.specs.Syntax.{Kind, function, predicate, Signature, symbol_at, Clause}
use Rattle.theory.specs.Lines.{add_byte, cut_words, words_of}
use Rattle.theory.specs.Grammar.{Word, sign, equals, symbol, letter, Grammar, clause, misplaced, unfinished, grammar, read_symbol, read_words, clause_if, read_clause}
use Rattle.theory.specs.Problem.{max_words, max_literals, word_of, read_all, within_limits}
use Rattle.theory.specs.LineForms.{LineForm, is_some}
use Rattle.theory.specs.Columns.{line_words, word_column, word_or, first_unknown, or_no_words, is_sign, is_over, first_over, key_length, word_start}
use Rattle.theory.specs.Claims.Columns.{FirstUnknown, OverLimit}
use Rattle.theory.proofs.Tests.{both_false, ltb-true, ltb-of-<, or_cases, or_left, or_right, false_of_not, true_of_not}
use Rattle.theory.proofs.Lists.{length-up_from, get_d-up_from, any_at, select-append}
use Rattle.theory.proofs.Finding.{place_that-some, any→place_that, place_that-none}
use Rattle.theory.proofs.Misplaced.{word_onto, read_all-cons, read_all-length}

-- words that are not all known have an unknown one
unknown-any : (g : Signature) (ws : List (List ℕ)) → read_all g ws ≡ none → any (λ w. not (is_some (word_of g w))) ws ≡ true
unknown-any g [] e = let z : ◌≡◌ {A = ℕ} 0 1 = cc in absurd (omega arith)
unknown-any g (w ∷ ws) e = go (word_of g w) (read_all g ws) refl (sym (read_all-cons g w ws) ∙ e) (λ h. unknown-any g ws h)
  where
    go : (o : Option Word) (m : Option (List Word)) → read_all g ws ≡ m → word_onto o m ≡ none → (read_all g ws ≡ none → any (λ w. not (is_some (word_of g w))) ws ≡ true)
        → (not (is_some o) || any (λ w. not (is_some (word_of g w))) ws) ≡ true
    go none m h z ih = refl
    go (some x) none h z ih = ih h
    go (some x) (some us) h z ih = let q : ◌≡◌ {A = ℕ} 0 1 = cc in absurd (omega arith)

pub first-unknown : (g : Signature) (d : LineForm) (l : List ℕ) → read_all g (line_words d l) ≡ none → FirstUnknown g d l (word_or d l 1 (first_unknown g (line_words d l)))
unfolding first_unknown
first-unknown g d l e =
    let ws : List (List ℕ) = line_words d l in
    let r = any→place_that (λ w. not (is_some (word_of g w))) ws (unknown-any g ws e) in
    let s = place_that-some (λ w. not (is_some (word_of g w))) ws r.0 [] r.1 in
    record {
      place = r.0;
      among = s.0;
      at_word = ap (word_or d l 1) r.1;
      unknown = false_of_not (is_some (word_of g (get_or ws r.0 []))) s.1;
      known = λ i h. true_of_not (is_some (word_of g (get_or ws i []))) (s.2 i h);
    }

-- a clause has as many literals as its words have signs
signs-read : (g : Signature) (us : List Word) → length (read_words g us).clause ≡ length (select is_sign us)
signs-read g [] = refl
signs-read g (sign b ∷ us) = ap suc (signs-read g us)
signs-read g (equals ∷ us) = signs-read g us
signs-read g (symbol i ∷ us) = go (symbol_at g i).kind (signs-read g us)
  where
    go : (k : Kind) → length (read_words g us).clause ≡ length (select is_sign us) → length (read_symbol k i (symbol_at g i).arity (read_words g us)).clause ≡ length (select is_sign us)
    go function h = h
    go predicate h = h
signs-read g (letter x ∷ us) = signs-read g us

clause-signs : (g : Signature) (us : List Word) (c : Clause) → read_clause g us ≡ some c → length c ≡ length (select is_sign us)
unfolding read_clause
clause-signs g us c e = go (grammar g us) e
  where
    go : (k : Grammar) → clause_if k (read_words g us).clause ≡ some c → length c ≡ length (select is_sign us)
    go clause z = ap length (sym (some-injective (read_words g us).clause c z)) ∙ signs-read g us
    go (misplaced i) z = let q : ◌≡◌ {A = ℕ} 0 1 = cc in absurd (omega arith)
    go unfinished z = let q : ◌≡◌ {A = ℕ} 0 1 = cc in absurd (omega arith)

-- the first words have no more signs than all
signs-take : (k : ℕ) (us : List Word) → length (select is_sign (take k us)) ≤ length (select is_sign us)
signs-take k us =
    let e : select is_sign (take k us) ++ select is_sign (drop k us) ≡ select is_sign us = sym (select-append is_sign (take k us) (drop k us)) ∙ ap (select is_sign) (take-append-drop k us) in
    let n = length-append (select is_sign (take k us)) (select is_sign (drop k us)) in
    let m : length (select is_sign (take k us) ++ select is_sign (drop k us)) ≡ length (select is_sign us) = ap length e in
    omega (arith, n, m)

at-up_to : (n i : ℕ) → i < n → get_or (up_to n) i 0 ≡ i
at-up_to n i h = let r = get_d-up_from 0 n i h in omega (arith, r)

module _ (us : List Word) where
  -- more than 64 words, or more than 16 signs
  abbrev too_many : Bool
  too_many = ltb max_words (length us) || ltb max_literals (length (select is_sign us))

  -- a place where it is over is one of too many
  over-many : (i : ℕ) → i < length us → is_over us i ≡ true → too_many ≡ true
  over-many i h e = go (or_cases (ltb max_words (suc i)) (ltb max_literals (length (select is_sign (take (suc i) us)))) e)
    where
      go : (ltb max_words (suc i) ≡ true) ⊎ (ltb max_literals (length (select is_sign (take (suc i) us))) ≡ true) → too_many ≡ true
      go (inl k) = let w : 64 < suc i = ltb-true max_words (suc i) k in or_left (ltb max_words (length us)) _ (ltb-of-< max_words (length us) (omega (arith, w, h)))
      go (inr k) =
          let w : 16 < length (select is_sign (take (suc i) us)) = ltb-true max_literals (length (select is_sign (take (suc i) us))) k in
          let n = signs-take (suc i) us in
          or_right (ltb max_words (length us)) (ltb max_literals (length (select is_sign us))) (ltb-of-< max_literals (length (select is_sign us)) (omega (arith, w, n)))

  -- with too many there is such a place
  many-over : too_many ≡ true → (i : ℕ) × (i < length us) × (is_over us i ≡ true)
  many-over e = go (or_cases (ltb max_words (length us)) (ltb max_literals (length (select is_sign us))) e)
    where
      last : (n : ℕ) → length us ≡ n → 16 < length (select is_sign us) → (i : ℕ) × (i < length us) × (is_over us i ≡ true)
      last zero q h =
          let t : take (length us) us ≡ us = take-length us in
          let z : [] ≡ us = ap (λ (k : ℕ). take k us) (sym q) ∙ t in
          let n : length (select is_sign us) ≡ 0 = ap (λ (l : List Word). length (select is_sign l)) (sym z) in
          absurd (omega (arith, n, h))
      last (suc n) q h =
          let t : take (suc n) us ≡ us = ap (λ (k : ℕ). take k us) (sym q) ∙ take-length us in
          let m : length (select is_sign (take (suc n) us)) ≡ length (select is_sign us) = ap (λ (l : List Word). length (select is_sign l)) t in
          (n, omega (arith, q), or_right (ltb max_words (suc n)) (ltb max_literals (length (select is_sign (take (suc n) us)))) (ltb-of-< max_literals (length (select is_sign (take (suc n) us))) (omega (arith, m, h))))

      go : (ltb max_words (length us) ≡ true) ⊎ (ltb max_literals (length (select is_sign us)) ≡ true) → (i : ℕ) × (i < length us) × (is_over us i ≡ true)
      go (inl k) = (64, ltb-true max_words (length us) k, refl)
      go (inr k) = last (length us) refl (ltb-true max_literals (length (select is_sign us)) k)

pub over-limit : (g : Signature) (d : LineForm) (l : List ℕ) (us : List Word) (c : Clause) → read_all g (line_words d l) ≡ some us → read_clause g us ≡ some c → within_limits us c ≡ false
    → OverLimit g d l (word_or d l 1 (first_over g (line_words d l)))
unfolding first_over
over-limit g d l us c known is limit = go (place_that (is_over us) (up_to (length us))) refl
  where
    ws : List (List ℕ)
    ws = line_words d l

    same : place_that (is_over (or_no_words (read_all g ws))) (up_to (length ws)) ≡ place_that (is_over us) (up_to (length us))
    same = ap (λ (m : Option (List Word)). place_that (is_over (or_no_words m)) (up_to (length ws))) known ∙ ap (λ (n : ℕ). place_that (is_over us) (up_to n)) (sym (read_all-length g ws us known))

    signs : length c ≡ length (select is_sign us)
    signs = clause-signs g us c is

    many : (ltb max_words (length us) || ltb max_literals (length c)) ≡ too_many us
    many = ap (λ (n : ℕ). ltb max_words (length us) || ltb max_literals n) signs

    n : length (up_to (length us)) ≡ length us
    n = length-up_from 0 (length us)

    go : (o : Option ℕ) → place_that (is_over us) (up_to (length us)) ≡ o → OverLimit g d l (word_or d l 1 (place_that (is_over (or_no_words (read_all g ws))) (up_to (length ws))))
    go (some i) e =
        let s = place_that-some (is_over us) (up_to (length us)) i 0 e in
        let lt : i < length us = omega (arith, n, s.0) in
        let over : is_over us i ≡ true = ap (is_over us) (sym (at-up_to (length us) i lt)) ∙ s.1 in
        record {
          known = us;
          read = known;
          clause = c;
          is = is;
          over = limit;
          first = λ _. (
            i,
            lt,
            ap (word_or d l 1) (same ∙ e),
            over,
            λ j h. ap (is_over us) (sym (at-up_to (length us) j (omega (arith, lt, h)))) ∙ s.2 j h,
          );
          only = λ z. absurd (both_false (over-many us i lt over) (sym many ∙ z));
        }
    go none e =
        record {
          known = us;
          read = known;
          clause = c;
          is = is;
          over = limit;
          first = λ z.
              let m = many-over us (sym many ∙ z) in
              absurd (both_false (any_at (is_over us) 0 (up_to (length us)) m.0 (omega (arith, n, m.1)) (ap (is_over us) (at-up_to (length us) m.0 m.1) ∙ m.2)) (place_that-none (is_over us) (up_to (length us)) e));
          only = λ _. ap (word_or d l 1) (same ∙ e);
        }

-- the words behind the bytes before word i
cut-start : (v : List ℕ) (i : ℕ) → i < length (cut_words v) → cut_words (drop (word_start i (cut_words v)) v) ≡ drop i (cut_words v)
cut-start [] zero h = refl
cut-start [] (suc i) h = absurd (omega arith)
cut-start (b ∷ bs) zero h = refl
cut-start (b ∷ bs) (suc i) h = go (eqb b space) (cut_words bs) refl h (λ j k. cut-start bs j k)
  where
    go : (q : Bool) (r : List (List ℕ)) → cut_words bs ≡ r → suc i < length (cond q ([] ∷ r) (add_byte b r))
        → ((j : ℕ) → j < length (cut_words bs) → cut_words (drop (word_start j (cut_words bs)) bs) ≡ drop j (cut_words bs))
        → cut_words (drop (word_start (suc i) (cond q ([] ∷ r) (add_byte b r))) (b ∷ bs)) ≡ drop (suc i) (cond q ([] ∷ r) (add_byte b r))
    go true r e k ih =
        let z : 0 + word_start i r ≡ word_start i r = omega arith in
        let n : length (cut_words bs) ≡ length r = ap length e in
        ap (λ (j : ℕ). cut_words (drop j bs)) z ∙ ap (λ (r : List (List ℕ)). cut_words (drop (word_start i r) bs)) (sym e) ∙ ih i (omega (arith, n, k)) ∙ ap (drop i) e
    go false [] e k ih = absurd (omega arith)
    go false (w ∷ ws) e k ih =
        let z : suc (length w) + word_start i ws ≡ suc (length w + word_start i ws) = omega arith in
        let n : length (cut_words bs) ≡ suc (length ws) = ap length e in
        ap (λ (j : ℕ). cut_words (drop j bs)) z ∙ ap (λ (r : List (List ℕ)). cut_words (drop (word_start (suc i) r) bs)) (sym e) ∙ ih (suc i) (omega (arith, n, k)) ∙ ap (drop (suc i)) e

pub word_at : (d : LineForm) (l : List ℕ) (i : ℕ) → i < length (line_words d l) → cut_words (drop (word_column d l i - 1) l) ≡ drop i (line_words d l)
unfolding word_column
word_at d l i h =
    let one : suc (key_length d + word_start i (line_words d l)) - 1 ≡ key_length d + word_start i (line_words d l) = omega arith in
    ap (λ (k : ℕ). cut_words (drop k l)) one ∙ ap cut_words (sym (drop-drop (word_start i (line_words d l)) (key_length d) l)) ∙ go (drop (key_length d) l) h
  where
    go : (v : List ℕ) → i < length (words_of v) → cut_words (drop (word_start i (words_of v)) v) ≡ drop i (words_of v)
    go [] k = absurd (omega arith)
    go (b ∷ v) k = cut-start (b ∷ v) i k
