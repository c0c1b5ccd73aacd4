-- A comment's end is the first place at which */ stands, two bytes further on.
use Prim.Native.Nat.{ℕ, zero, suc, ◌+◌, ◌<◌}
use mathlib.Core.Path.{◌≡◌, refl, sym, ap, ◌∙◌}
use mathlib.Core.Bool.{Bool, true, false, cond, ◌&&◌}
use mathlib.Core.Option as theory
use mathlib.Core.Option.{none, some}
use mathlib.Core.List.{List}
use native.Mathlib.Numerals.{add-one}
use native.Mathlib.Omega.{arith}
use lib.Dec.{eqb}
use lib.ListN.{length, get_or, drop, drop_of_length-le}
use lib.Seq.{drop-cons}
use Rattle.std.specs.Prelude.{Option, Some, None, MatchOption, IsSomeAnd}
use Rattle.std.specs.List.{find, range_with_len}
use Rattle.theory.specs.Options.{told}
use Rattle.tptp.specs.Tokens.{starts_with, to_comment_end}

-- a count from place k on, as a place
abbrev placed : ℕ → theory.Option ℕ → theory.Option ℕ
placed k none = none
placed k (some n) = some (k + n)

-- the place behind a */ that begins at this place
abbrev pub behind : Option ℕ → theory.Option ℕ
behind None = none
behind (Some i) = some (i + 2)

module _ (text : List ℕ) where
  -- */ stands at a place
  abbrev pub closes_at : ℕ → Bool
  closes_at i = eqb (get_or text i 0) 42 && starts_with (eqb 47) (drop (suc i) text)

  -- one byte more before the end
  abbrev longer : theory.Option ℕ → theory.Option ℕ
  longer o = elim o as (λ _. theory.Option ℕ) [ some n ↦ some (suc n) | none ↦ none ]

  step : (i : ℕ) → i < length text → to_comment_end (drop i text) ≡ (elim (closes_at i) as (λ _. theory.Option ℕ) [ true ↦ some 2 | false ↦ longer (to_comment_end (drop (suc i) text)) ])
  step i h = ap to_comment_end (drop-cons text i 0 h)

  -- from place i on, where n bytes are left
  from : (n i : ℕ) → i + n ≡ length text → placed i (to_comment_end (drop i text)) ≡ behind (find closes_at (range_with_len i n))
  from zero i e = ap (λ (bs : List ℕ). placed i (to_comment_end bs)) (drop_of_length-le text {i = i} (omega arith))
  from (suc n) i e = ap (placed i) (step i (omega arith)) ∙ go (closes_at i) (from n (i + 1) (omega arith))
    where
      later : (o : theory.Option ℕ) → placed i (longer o) ≡ placed (suc i) o
      later none = refl
      later (some m) = let p : i + suc m ≡ suc i + m = omega arith in ap some p

      go : (q : Bool) → placed (i + 1) (to_comment_end (drop (i + 1) text)) ≡ behind (find closes_at (range_with_len (i + 1) n)) → placed i (elim q as (λ _. theory.Option ℕ) [ true ↦ some 2 | false ↦ longer (to_comment_end (drop (suc i) text)) ]) ≡ behind (cond q (Some i) (find closes_at (range_with_len (i + 1) n)))
      go true h = refl
      go false h = later (to_comment_end (drop (suc i) text))
          ∙ ap (λ (j : ℕ). placed j (to_comment_end (drop j text))) (sym (add-one i))
          ∙ h

  -- the comment's end, as `find` tells it
  pub end-found : behind (find closes_at (range_with_len 0 (length text))) ≡ to_comment_end text
  end-found = sym (from (length text) 0 (omega arith)) ∙ go (to_comment_end text)
    where
      go : (o : theory.Option ℕ) → placed 0 o ≡ o
      go none = refl
      go (some n) = let e : 0 + n ≡ n = omega arith in ap some e

-- a place in an option, two further on
pub told-behind : (P : ℕ → ℕ → Type 0) (o r : Option ℕ) → MatchOption o (r ≡ None) (λ i. IsSomeAnd r (P i)) → ((i j : ℕ) → P i j → j ≡ i + 2) → told r ≡ behind o
told-behind P None r h f = ap told h
told-behind P (Some i) None h f = absurd h
told-behind P (Some i) (Some j) h f = ap some (f i j h)
