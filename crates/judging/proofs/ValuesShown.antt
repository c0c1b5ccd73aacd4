-- Filling in the values of a choice, counted from 1.
use Prim.Native.Nat.{ℕ, suc, ◌+◌, ◌≤◌, ◌<◌}
use mathlib.Core.Path.{◌≡◌, sym, ap, ◌∙◌}
use mathlib.Core.List.{List, [], ◌∷◌, ◌++◌, map, map-append}
use native.Mathlib.Nat.{zero-add}
use native.Mathlib.Numerals.{add-one}
use native.Mathlib.Omega.{arith}
use lib.ListN.{length, get_or, set, take, replicate, length-map}
use lib.Seq.{length-take-le, get_or-take}
use Rattle.theory.specs.Vectors.{AllBelow}
use Rattle.theory.proofs.Vectors.{all_below-get_d}
use Rattle.text.specs.Put.{put, put-none, put_step, take_more}
use Rattle.interpretation.specs.declared.vector.ArgumentVector.{ArgumentVector}
use Rattle.interpretation.specs.Vectors.{digits_in}
use Rattle.answers.specs.Answers.{eight}
use Rattle.answers.proofs.Answering.{put-over}

-- the first i values stand there, and 0 behind them
abbrev pub Shown : ArgumentVector → ℕ → List ℕ → Type 0
Shown v i shown = shown ≡ put (replicate 8 0) 0 (map suc (take i v.digits))

pub none-shown : (v : ArgumentVector) → Shown v 0 (replicate 8 0)
none-shown v = sym (put-none (replicate 8 0) 0)

pub all_shown : (v : ArgumentVector) (i : ℕ) (shown : List ℕ) → i ≡ v.count → Shown v i shown → shown ≡ eight (map suc (digits_in v))
all_shown v i shown e h = h ∙ put-over (replicate 8 0) (map suc (take i v.digits)) ∙ ap (λ (n : ℕ). eight (map suc (take n v.digits))) e

module _ (v : ArgumentVector) (long : length v.digits ≡ 10) (i : ℕ) (l : i < v.count) where
  pub digit-below : AllBelow 8 (digits_in v) → get_or v.digits i 0 < 8
  digit-below b = rw (get_or-take v.count v.digits i 0 l) at (all_below-get_d 8 (digits_in v) i (omega arith) b)

  pub value-shown : v.count ≤ 8 → (shown : List ℕ) → Shown v i shown → Shown v (i + 1) (set shown i (get_or v.digits i 0 + 1))
  value-shown few shown h =
      ap (λ (n : ℕ). set shown n (get_or v.digits i 0 + 1)) (sym (zero-add i))
      ∙ put_step (replicate 8 0) shown 0 i (map suc (take i v.digits)) (map suc (take (i + 1) v.digits)) (get_or v.digits i 0 + 1) h
      (length-map (take i v.digits) suc ∙ length-take-le i v.digits (omega arith)) (omega arith) more
    where
      more : map suc (take i v.digits) ++ ((get_or v.digits i 0 + 1) ∷ []) ≡ map suc (take (i + 1) v.digits)
      more =
          ap (λ (n : ℕ). map suc (take i v.digits) ++ (n ∷ [])) (add-one (get_or v.digits i 0))
          ∙ sym (map-append suc (take i v.digits) (get_or v.digits i 0 ∷ []))
          ∙ ap (map suc) (take_more v.digits i 0 (omega arith))
