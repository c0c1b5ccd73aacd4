-- The first of the words left at a place is the part up to the line's next space, or up to its end.
use Prim.Native.Nat.{ℕ, suc, ◌+◌}
use mathlib.Core.Path.{◌≡◌, sym, ap, ◌∙◌}
use mathlib.Core.Bool.{Bool, cond}
use mathlib.Core.List.{List, [], ◌∷◌}
use native.Mathlib.Omega.{arith}
use lib.ListN.{length, drop}
use borrow.Author.Tests.{le-leb}
use Rattle.theory.specs.Lines.{cut_words}
use Rattle.text.specs.Lines.{part, WordEnd}
use Rattle.text.proofs.Part.{length_part}
use Rattle.word_reader.specs.WordsLeft.{words_left, FirstWord}

module _ (line : List ℕ) (at e : ℕ) (ends : WordEnd line at e) where
  -- the word's length is what lies between its two places
  behind : at + length (part line at e) + 1 ≡ suc e
  behind = let l = length_part line at e ends.from ends.within in omega (arith, ends.from)

  pub first_word : FirstWord line at (part line at e)
  first_word =
      record {
        within = omega (arith, behind, ends.within);
        first =
            ap (λ (b : Bool). cond b (cut_words (drop at line)) []) (le-leb at (length line) (omega (arith, ends.from, ends.within)))
            ∙ ends.cut
            ∙ ap (λ (n : ℕ). part line at e ∷ words_left line n) (sym behind);
      }
