-- The words of a line, passed one after the other from a place in the line.
use Prim.Native.Nat.{ℕ, ◌+◌, ◌-◌, ◌≤◌, ◌<◌}
use mathlib.Core.Path.{◌≡◌, refl, sym, ap, ◌∙◌, subst}
use mathlib.Core.Bool.{Bool, true, false, cond}
use mathlib.Core.Option.{Option, none, some}
use mathlib.Core.List.{List, [], ◌∷◌}
use native.Mathlib.Omega.{arith}
use lib.ListN.{length, drop}
use lib.Dec.{leb}
use borrow.Author.Tests.{le-leb, lt-leb, leb-false}
use Rattle.theory.specs.Lists.{place_at}
use Rattle.theory.specs.Lines.{cut_words}
use Rattle.word_reader.specs.declared.WordReader.{WordReader}
use Rattle.word_reader.specs.declared.Step.{Step}
use Rattle.word_reader.specs.WordsLeft.{words_left, FirstWord, Handed}
use Rattle.std.specs.Prelude.{Some, None}
use Rattle.columns.specs.Words.{first_stop, start_from, Stopped}

-- where a word further on starts
later-start : (at : ℕ) (w : List ℕ) (ws : List (List ℕ)) (o : Option ℕ) → start_from at (w ∷ ws) (place_at false o) ≡ start_from (at + length w + 1) ws o
later-start at w ws none = refl
later-start at w ws (some i) = ap some (omega arith)

module _ {S : Type 0} (next : S → List ℕ → S) (fault : S → Bool) (s₀ : S) (value : List ℕ) where
  -- the words before `at` are passed and leave the state s: what is left gives what all give
  pub record Passing (s : S) (at : ℕ) : Type 0 where
    pub within : at ≤ length value + 1
    pub same : start_from 0 (cut_words value) (first_stop next fault s₀ (cut_words value)) ≡ start_from at (words_left value at) (first_stop next fault s (words_left value at))

  none_passed : Passing s₀ 0
  none_passed =
      record {
        within = omega arith;
        same = ap (λ (b : Bool). start_from 0 (cond b (cut_words value) []) (first_stop next fault s₀ (cond b (cut_words value) []))) (sym (le-leb 0 (length value) (omega arith)));
      }

  all-passed : (s : S) (at : ℕ) → Passing s at → length value < at → Stopped next fault s₀ value None
  all-passed s at p l =
      record {
        start = sym (p.same ∙ ap (λ (b : Bool). start_from at (cond b (cut_words (drop at value)) []) (first_stop next fault s (cond b (cut_words (drop at value)) []))) (lt-leb at (length value) l));
        within = tt;
      }

  pub starts : (at : ℕ) → at ≡ 0 → Passing s₀ at
  starts at e = subst (λ (k : ℕ). Passing s₀ k) (sym e) none_passed

  pub none-left : (s : S) (r : WordReader) (b : Bool) → r.line.now ≡ value → Passing s r.at → b ≡ leb r.at (length r.line.now) → b ≡ false → Stopped next fault s₀ value None
  none-left s r b line p h e = all-passed s r.at p (leb-false r.at (length value) (sym (h ∙ ap (λ (l : List ℕ). leb r.at (length l)) line) ∙ e))

  module _ (s : S) (at : ℕ) (word : List ℕ) (p : Passing s at) (e : FirstWord value at word) where
    abbrev rest : List (List ℕ)
    rest = words_left value (at + length word + 1)

    first : start_from 0 (cut_words value) (first_stop next fault s₀ (cut_words value)) ≡ start_from at (word ∷ rest) (place_at (fault (next s word)) (first_stop next fault (next s word) rest))
    first = p.same ∙ ap (λ (ws : List (List ℕ)). start_from at ws (first_stop next fault s ws)) e.first

    word-faulty : fault (next s word) ≡ true → Stopped next fault s₀ value (Some at)
    word-faulty h =
        let z : at + 0 ≡ at = omega arith in
        record {
          start = sym (first ∙ ap (λ (b : Bool). start_from at (word ∷ rest) (place_at b (first_stop next fault (next s word) rest))) h ∙ ap some z);
          within = omega (arith, e.within);
        }

    word-passed : fault (next s word) ≡ false → Passing (next s word) (at + length word + 1)
    word-passed h =
        record {
          within = omega (arith, e.within);
          same =
              first
              ∙ ap (λ (b : Bool). start_from at (word ∷ rest) (place_at b (first_stop next fault (next s word) rest))) h
              ∙ later-start at word rest (first_stop next fault (next s word) rest);
        }

  -- what a reader of the value hands out
  module _ (r : WordReader) (t : Step) (line : r.line.now ≡ value) (h : Handed r t) where
    pub word-there : FirstWord value r.at t.word.now
    word-there = subst (λ (l : List ℕ). FirstWord l r.at t.word.now) line h.word

    pub same_line : t.rest.line.now ≡ value
    same_line = ap (λ (x : WordReader). x.line.now) h.rest ∙ line

    pub next-place : t.rest.at ≡ r.at + length t.word.now + 1
    next-place = ap (λ (x : WordReader). x.at) h.rest

    pub nearer : length value + 1 - t.rest.at < length value + 1 - r.at
    nearer = omega (arith, next-place, word-there.within)

    module _ (s : S) (p : Passing s r.at) where
      pub stopped : fault (next s t.word.now) ≡ true → Stopped next fault s₀ value (Some r.at)
      stopped k = word-faulty s r.at t.word.now p word-there k

      pub passed : fault (next s t.word.now) ≡ false → Passing (next s t.word.now) t.rest.at
      passed k = subst (λ (at : ℕ). Passing (next s t.word.now) at) (sym next-place) (word-passed s r.at t.word.now p word-there k)
