-- Runs of bytes that pass a test, as `take_while` counts them.
use Prim.Native.Nat.{ℕ, suc, ◌+◌}
use mathlib.Core.Path.{◌≡◌, refl, ◌∙◌}
use mathlib.Core.Bool.{Bool, true, false, cond}
use mathlib.Core.List.{List, [], ◌∷◌}
use native.Mathlib.Omega.{arith}
use lib.ListN.{length, take}
use Rattle.std.specs.List.{prefix_len}
use Rattle.std.proofs.lemmas.List.Folds.{length-prefix_len}
use Rattle.tptp.specs.Tokens.{run}

module _ (p : ℕ → Bool) where
  prefix-run : (bs : List ℕ) → prefix_len p bs ≡ run p bs
  prefix-run [] = refl
  prefix-run (b ∷ bs) = by (p b) (prefix-run bs)
    where
      by : (q : Bool) → prefix_len p bs ≡ run p bs → cond q (1 + prefix_len p bs) 0 ≡ (elim q as (λ _. ℕ) [ true ↦ suc (run p bs) | false ↦ 0 ])
      by true e = omega arith
      by false e = refl

  -- a run is what `take_while` counts
  pub taken-run : (bs : List ℕ) → length (take (prefix_len p bs) bs) ≡ run p bs
  taken-run bs = length-prefix_len p bs ∙ prefix-run bs
