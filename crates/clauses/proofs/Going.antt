-- A clause line's words, read one after the other from a place in the line.
use Prim.Native.Nat.{ℕ, ◌+◌, ◌*◌, ◌≤◌, ◌<◌}
use mathlib.Core.Path.{◌≡◌, refl, sym, ap, ◌∙◌}
use mathlib.Core.Bool.{Bool, cond}
use Rattle.std.specs.Prelude.{Some, None}
use mathlib.Core.Option.{Option, none, some}
use mathlib.Core.List.{List, [], ◌∷◌, ◌++◌, append_assoc, append-nil}
use native.Mathlib.Omega.{arith}
use lib.ListN.{length, drop, length-append, length-replicate}
use borrow.Author.Tests.{le-leb, lt-leb}
use Rattle.theory.specs.Lists.{prefix}
use Rattle.theory.specs.Syntax.{Signature}
use Rattle.theory.specs.Grammar.{Word}
use Rattle.theory.specs.Lines.{cut_words, words_of}
use Rattle.theory.specs.Problem.{word_of, read_all, max_words}
use Rattle.word_reader.specs.WordsLeft.{words_left, FirstWord}
use Rattle.clauses.specs.declared.clause.Words.{Words}
use Rattle.clauses.specs.Grammar.{due_after_all}
use Rattle.clauses.specs.Clauses.{Passed, no_words, WordAdded, WordsRead}

-- the words ws in front of others, if there are any
abbrev pub joined : List Word → Option (List Word) → Option (List Word)
joined ws none = none
joined ws (some xs) = some (ws ++ xs)

-- w is what was read up to `at`; what is left gives what the whole line gives
pub record Going (g : Signature) (value : List ℕ) (w : Words) (at : ℕ) : Type 0 where
  pub words : List Word
  pub passed : Passed g words w
  pub room : 2 * w.count ≤ at
  pub within : at ≤ length value + 1
  pub rest : read_all g (cut_words value) ≡ joined words (read_all g (words_left value at))

pub passed_none : (g : Signature) → Passed g [] no_words
unfolding due_after_all
passed_none g = record { count = refl; held = length-replicate {A = ℕ} max_words 0; codes = refl; literals = refl; due = refl; pending = omega arith }

-- a known word has a byte
known-filled : (g : Signature) (v : List ℕ) (x : Word) → word_of g v ≡ some x → 0 < length v
unfolding word_of
known-filled g [] x h = let z : ◌≡◌ {A = ℕ} 0 1 = cc in absurd (omega arith)
known-filled g (b ∷ v) x h = omega arith

module _ (g : Signature) (value : List ℕ) where
  pub begins : Going g value no_words 0
  begins =
      record {
        words = [];
        passed = passed_none g;
        room = omega arith;
        within = omega arith;
        rest = alone (read_all g (cut_words value)) ∙ ap (λ (b : Bool). joined [] (read_all g (cond b (cut_words value) []))) (sym (le-leb 0 (length value) (omega arith)));
      }
    where
      alone : (o : Option (List Word)) → o ≡ joined [] o
      alone none = refl
      alone (some xs) = refl

  module _ (w : Words) (at : ℕ) (word : List ℕ) (z : Going g value w at) (f : FirstWord value at word) where
    -- the words behind the one taken
    abbrev after : List (List ℕ)
    after = words_left value (at + length word + 1)

    first : (o : Option Word) → word_of g word ≡ o → read_all g (word ∷ after) ≡ (elim o as (λ _. Option (List Word)) [ some x ↦ prefix x (read_all g after) | none ↦ none ])
    first o h = ap (λ (o : Option Word). elim o as (λ _. Option (List Word)) [ some x ↦ prefix x (read_all g after) | none ↦ none ]) h

    -- an unknown word ends the reading
    pub stops : WordAdded g word w None → WordsRead g (cut_words value) None
    stops k = z.rest ∙ ap (λ (vs : List (List ℕ)). joined z.words (read_all g vs)) f.first ∙ ap (joined z.words) (first none k)

    -- a known word goes on
    pub goes_on : (r : Words) → WordAdded g word w (Some r) → Going g value r (at + length word + 1)
    goes_on r y =
        let x = y.0 in
        let p : Passed g (z.words ++ (x ∷ [])) r = y.2 z.words z.passed in
        record {
          words = z.words ++ (x ∷ []);
          passed = p;
          room = omega (arith, p.count, z.passed.count, length-append z.words (x ∷ []), z.room, known-filled g word x y.1);
          within = omega (arith, f.within);
          rest = z.rest ∙ ap (λ (vs : List (List ℕ)). joined z.words (read_all g vs)) f.first ∙ ap (joined z.words) (first (some x) y.1) ∙ more x (read_all g after);
        }
      where
        more : (x : Word) (o : Option (List Word)) → joined z.words (prefix x o) ≡ joined (z.words ++ (x ∷ [])) o
        more x none = refl
        more x (some xs) = ap some (sym (append_assoc z.words (x ∷ []) xs))

  -- the line's end
  pub ends : (w : Words) (at : ℕ) → Going g value w at → length value < at → WordsRead g (cut_words value) (Some w)
  ends w at z l = (
    z.words,
    z.rest
        ∙ ap (λ (b : Bool). joined z.words (read_all g (cond b (cut_words (drop at value)) []))) (lt-leb at (length value) l)
        ∙ ap some (append-nil z.words),
    z.passed,
  )

-- an empty line has no words
pub nothing : (g : Signature) (value : List ℕ) → length value ≡ 0 → WordsRead g (words_of value) (Some no_words)
nothing g [] e = ([], refl, passed_none g)
nothing g (b ∷ v) e = absurd (omega arith)

-- any other has those between its spaces
pub all_words : (value : List ℕ) → (length value ≡ 0 → ⊥) → words_of value ≡ cut_words value
all_words [] h = absurd (h refl)
all_words (b ∷ v) h = refl
