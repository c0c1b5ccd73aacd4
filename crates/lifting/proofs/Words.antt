-- The words from a place on: the first of them, and those behind.
use Prim.Native.Nat.{ℕ, suc, ◌+◌, ◌≤◌, ◌<◌}
use mathlib.Core.Path.{◌≡◌, sym, ap, ◌∙◌}
use mathlib.Core.List.{List, ◌∷◌, ◌++◌, map}
use native.Mathlib.Numerals.{add-one}
use native.Mathlib.Omega.{arith}
use lib.ListN.{length, get_or, take, drop, length-map, length-drop, length-append}
use lib.Seq.{length-take-le, get_or-take, drop-cons, drop-drop, drop-append_seam}
use Rattle.theory.specs.Grammar.{Word, equals}
use Rattle.theory.proofs.Lists.{map_at}
use Rattle.syntax.specs.Codes.{code_word}
use Rattle.lifting.specs.Reading.{words_from}

module _ (codes : List ℕ) (n : ℕ) (fits : n ≤ length codes) (at : ℕ) where
  abbrev words : List Word
  words = map code_word (take n codes)

  length-words : length words ≡ n
  length-words = length-map (take n codes) code_word ∙ length-take-le n codes fits

  -- where words begin with us, there is room for them, and behind them stand the rest
  pub words-fit : (us rest : List Word) → words_from codes n at ≡ us ++ rest → at ≤ n → at + length us ≤ n
  words-fit us rest e h = omega (arith, ap length e, length-append us rest, length-drop at words, length-words)

  pub words-after : (us rest : List Word) → words_from codes n at ≡ us ++ rest → words_from codes n (at + length us) ≡ rest
  words-after us rest e = sym (drop-drop (length us) at words) ∙ ap (drop (length us)) e ∙ drop-append_seam us rest

  -- where there is a first word, its code stands at the place
  module _ (w : Word) (ws : List Word) (e : words_from codes n at ≡ w ∷ ws) where
    pub first_below : at < n
    first_below = omega (arith, ap length e, length-drop at words, length-words)

    first-split : get_or words at equals ∷ drop (suc at) words ≡ w ∷ ws
    first-split = sym (drop-cons words at equals (omega (arith, first_below, length-words))) ∙ e

    pub first_word : code_word (get_or codes at 0) ≡ w
    first_word =
        ap code_word (sym (get_or-take n codes at 0 first_below))
        ∙ sym (map_at code_word (take n codes) at 0 equals (omega (arith, first_below, length-take-le n codes fits)))
        ∙ ap (λ (l : List Word). get_or l 0 equals) first-split

    pub first-after : words_from codes n (at + 1) ≡ ws
    first-after = ap (λ (i : ℕ). drop i words) (add-one at) ∙ ap (λ (l : List Word). drop 1 l) first-split
