-- The first word at fault that the code looks for is the one that the definition finds.
use Prim.Native.Nat.{ℕ, zero, suc, ◌+◌, ◌-◌}
use mathlib.Core.Path.{◌≡◌, refl, sym, ap, ◌∙◌}
use mathlib.Core.Bool.{Bool, true, false, cond, not, ◌&&◌, ◌||◌}
use mathlib.Core.Option.{Option, none, some, some-injective}
use mathlib.Core.List.{List, [], ◌∷◌, ◌++◌, append_assoc}
use native.Mathlib.Omega.{arith}
use lib.Dec.{eqb, leb, ltb}
use lib.ListN.{length, take, length-append}
use lib.Seq.{take_at}
use borrow.Author.Tests.{ne_eqb}
use Rattle.theory.specs.Lists.{select, place_at, up_from, place_that}
use Rattle.theory.specs.Syntax.{Signature}
use Rattle.theory.specs.Grammar.{Word, sign, equals, symbol, letter, Due, terms, atom, due_after, Grammar, misplaced, grammar_from, grammar}
use Rattle.theory.specs.Problem.{max_words, max_literals, name_word, place_of_name, word_of, read_all}
use Rattle.theory.specs.Columns.{or_no_words, misplaced_at, first_unknown, first_misplaced, is_sign, is_over, first_over}
use Rattle.theory.proofs.Lists.{select-append}
use Rattle.theory.proofs.Misplaced.{word_onto, read_all-cons}
use Rattle.columns.specs.Words.{first_stop, is_known_word, known_after, due_then, due_after_word, is_stuck, signs_in, with_word, are_over}
use Rattle.columns.specs.Sheets.{word_fault}

-- unknown words
unknown-same : (g : Signature) (b : Bool) (ws : List (List ℕ)) → first_stop (known_after g) not b ws ≡ first_unknown g ws
unfolding first_unknown
unknown-same g b [] = refl
unknown-same g b (w ∷ ws) = ap (place_at (not (is_known_word g w))) (unknown-same g (is_known_word g w) ws)

-- the first of known words, and the others
module _ (g : Signature) (w : List ℕ) (ws : List (List ℕ)) where
  record FirstKnown (us : List Word) : Type 0 where
    pub first : Word
    pub others : List Word
    pub word : word_of g w ≡ some first
    pub rest : read_all g ws ≡ some others
    pub all : first ∷ others ≡ us

  read_first : (us : List Word) → read_all g (w ∷ ws) ≡ some us → FirstKnown us
  read_first us e = go (word_of g w) refl (read_all g ws) refl (sym (read_all-cons g w ws) ∙ e)
    where
      go : (o : Option Word) → word_of g w ≡ o → (m : Option (List Word)) → read_all g ws ≡ m → word_onto o m ≡ some us → FirstKnown us
      go none h m k z = let q : ◌≡◌ {A = ℕ} 0 1 = cc in absurd (omega arith)
      go (some x) h none k z = let q : ◌≡◌ {A = ℕ} 0 1 = cc in absurd (omega arith)
      go (some x) h (some xs) k z = record { first = x; others = xs; word = h; rest = k; all = some-injective (x ∷ xs) us z }

-- words that cannot stand where they do
-- a place counted from i on
abbrev from : ℕ → Option ℕ → Option ℕ
from i none = none
from i (some j) = some (i + j)

from-later : (i : ℕ) (o : Option ℕ) → from i (place_at false o) ≡ from (suc i) o
from-later i none = refl
from-later i (some j) = ap some (omega arith)

module _ (g : Signature) where
  misplaced-from : (ws : List (List ℕ)) (us : List Word) (i : ℕ) (d : Due) → read_all g ws ≡ some us → from i (first_stop (due_after_word g) is_stuck (some d) ws) ≡ misplaced_at (grammar_from g i d us)
  misplaced-from [] us i d e = end d ∙ ap (λ (us : List Word). misplaced_at (grammar_from g i d us)) (some-injective [] us e)
    where
      end : (d : Due) → none ≡ misplaced_at (grammar_from g i d [])
      end (terms zero) = refl
      end (terms (suc n)) = refl
      end atom = refl
  misplaced-from (w ∷ ws) us i d e = step (read_first g w ws us e) (λ xs e h. misplaced-from ws xs (suc i) e h)
    where
      next : Option Due → List Word → Grammar
      next o us = elim o as (λ _. Grammar) [ some e ↦ grammar_from g (suc i) e us | none ↦ misplaced i ]

      go : (o : Option Due) (xs : List Word) → ((e : Due) → from (suc i) (first_stop (due_after_word g) is_stuck (some e) ws) ≡ misplaced_at (grammar_from g (suc i) e xs))
          → from i (place_at (is_stuck o) (first_stop (due_after_word g) is_stuck o ws)) ≡ misplaced_at (next o xs)
      go none xs ih = let z : i + 0 ≡ i = omega arith in ap some z
      go (some e) xs ih = from-later i (first_stop (due_after_word g) is_stuck (some e) ws) ∙ ih e

      step : FirstKnown g w ws us → ((xs : List Word) (e : Due) → read_all g ws ≡ some xs → from (suc i) (first_stop (due_after_word g) is_stuck (some e) ws) ≡ misplaced_at (grammar_from g (suc i) e xs))
          → from i (first_stop (due_after_word g) is_stuck (some d) (w ∷ ws)) ≡ misplaced_at (grammar_from g i d us)
      step r ih =
          ap (λ (o : Option Word). from i (place_at (is_stuck (due_then g (some d) o)) (first_stop (due_after_word g) is_stuck (due_then g (some d) o) ws))) r.word
          ∙ go (due_after g d r.first) r.others (λ e. ih r.others e r.rest)
          ∙ ap (λ (us : List Word). misplaced_at (grammar_from g i d us)) r.all

  misplaced-same : (ws : List (List ℕ)) (us : List Word) → read_all g ws ≡ some us → first_stop (due_after_word g) is_stuck (some (terms 0)) ws ≡ first_misplaced g ws
  unfolding first_misplaced grammar
  misplaced-same ws us e =
      zero-on (first_stop (due_after_word g) is_stuck (some (terms 0)) ws) ∙ misplaced-from ws us 0 (terms 0) e ∙ ap (λ (o : Option (List Word)). misplaced_at (grammar_from g 0 (terms 0) (or_no_words o))) (sym e)
    where
      zero-on : (o : Option ℕ) → o ≡ from 0 o
      zero-on none = refl
      zero-on (some j) = let z : j ≡ 0 + j = omega arith in ap some z

-- words and signs over the limits
-- the signs that a word is
abbrev signs : Word → ℕ
signs u = length (select is_sign (u ∷ []))

signs_of : (g : Signature) (w : List ℕ) (u : Word) → word_of g w ≡ some u → signs_in w ≡ signs u
unfolding word_of
signs_of g [] u e = let q : ◌≡◌ {A = ℕ} 0 1 = cc in absurd (omega arith)
signs_of g (b ∷ c ∷ w) u e = named (place_of_name (b ∷ c ∷ w) g) u e
  where
    named : (o : Option ℕ) (u : Word) → name_word o ≡ some u → 0 ≡ signs u
    named none u e = let q : ◌≡◌ {A = ℕ} 0 1 = cc in absurd (omega arith)
    named (some i) u e = ap signs (some-injective (symbol i) u e)
signs_of g (b ∷ []) u e = plus (eqb b 43) (eqb b 45) (eqb b 61) (leb 65 b && ltb b 73) e
  where
    named : (o : Option ℕ) (u : Word) → name_word o ≡ some u → 0 ≡ signs u
    named none u e = let q : ◌≡◌ {A = ℕ} 0 1 = cc in absurd (omega arith)
    named (some i) u e = ap signs (some-injective (symbol i) u e)

    plus : (p m q l : Bool) → cond p (some (sign true)) (cond m (some (sign false)) (cond q (some equals) (cond l (some (letter (b - 65))) (name_word (place_of_name (b ∷ []) g))))) ≡ some u → cond (p || m) 1 0 ≡ signs u
    plus true m q l e = ap signs (some-injective (sign true) u e)
    plus false true q l e = ap signs (some-injective (sign false) u e)
    plus false false true l e = ap signs (some-injective equals u e)
    plus false false false true e = ap signs (some-injective (letter (b - 65)) u e)
    plus false false false false e = named (place_of_name (b ∷ []) g) u e

module _ (g : Signature) where
  over-from : (ws : List (List ℕ)) (pre us : List Word) → read_all g ws ≡ some us
      → first_stop with_word are_over (length pre, length (select is_sign pre)) ws ≡ place_that (is_over (pre ++ us)) (up_from (length pre) (length ws))
  over-from [] pre us e = refl
  over-from (w ∷ ws) pre us e = step (read_first g w ws us e) (λ more xs h. over-from ws more xs h)
    where
      step : FirstKnown g w ws us
          → ((more xs : List Word) → read_all g ws ≡ some xs → first_stop with_word are_over (length more, length (select is_sign more)) ws ≡ place_that (is_over (more ++ xs)) (up_from (length more) (length ws)))
          → first_stop with_word are_over (length pre, length (select is_sign pre)) (w ∷ ws) ≡ place_that (is_over (pre ++ us)) (up_from (length pre) (suc (length ws)))
      step r ih =
          let u : Word = r.first in
          let more : List Word = pre ++ (u ∷ []) in
          let n : suc (length pre) ≡ length more = sym (length-append pre (u ∷ []) ∙ omega arith) in
          let whole : more ++ r.others ≡ pre ++ us = append_assoc pre (u ∷ []) r.others ∙ ap (λ (l : List Word). pre ++ l) r.all in
          let m : length (select is_sign pre) + signs_in w ≡ length (select is_sign more) =
          ap (λ (k : ℕ). length (select is_sign pre) + k) (signs_of g w u r.word) ∙ sym (ap length (select-append is_sign pre (u ∷ [])) ∙ length-append (select is_sign pre) (select is_sign (u ∷ []))) in
          let front : take (suc (length pre)) (pre ++ us) ≡ more = ap (take (suc (length pre))) (sym whole) ∙ take_at more r.others (suc (length pre)) (sym n) in
          ap (λ (k : ℕ). place_at (ltb max_words (suc (length pre)) || ltb max_literals k) (first_stop with_word are_over (suc (length pre), k) ws)) m
          ∙ ap (λ (l : List Word). place_at (ltb max_words (suc (length pre)) || ltb max_literals (length (select is_sign l))) (first_stop with_word are_over (suc (length pre), length (select is_sign more)) ws)) (sym front)
          ∙ ap (λ (k : ℕ). place_at (is_over (pre ++ us) (length pre)) (first_stop with_word are_over (k, length (select is_sign more)) ws)) n
          ∙ ap (place_at (is_over (pre ++ us) (length pre)))
          (ih more r.others r.rest
          ∙ ap (λ (l : List Word). place_that (is_over l) (up_from (length more) (length ws))) whole
          ∙ ap (λ (k : ℕ). place_that (is_over (pre ++ us)) (up_from k (length ws))) (sym n))

  over-same : (ws : List (List ℕ)) (us : List Word) → read_all g ws ≡ some us → first_stop with_word are_over (0, 0) ws ≡ first_over g ws
  unfolding first_over
  over-same ws us e = over-from ws [] us e ∙ ap (λ (o : Option (List Word)). place_that (is_over (or_no_words o)) (up_from 0 (length ws))) (sym e)

-- the word at fault, by the refusal's number
module _ (g : Signature) (n : ℕ) (ws : List (List ℕ)) where
  pub unknown-fault : n ≡ 5 → first_stop (known_after g) not true ws ≡ word_fault g n ws
  unknown-fault e = unknown-same g true ws ∙ ap (λ (n : ℕ). word_fault g n ws) (sym e)

  module _ (us : List Word) (known : read_all g ws ≡ some us) where
    pub misplaced-fault : n ≡ 6 → first_stop (due_after_word g) is_stuck (some (terms 0)) ws ≡ word_fault g n ws
    misplaced-fault e = misplaced-same g ws us known ∙ ap (λ (n : ℕ). word_fault g n ws) (sym e)

    pub over-fault : (n ≡ 5 → ⊥) → (n ≡ 6 → ⊥) → first_stop with_word are_over (0, 0) ws ≡ word_fault g n ws
    over-fault h k = over-same g ws us known ∙ sym (rw (ne_eqb n 5 h, ne_eqb n 6 k) refl)
