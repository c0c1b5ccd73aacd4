-- A refusal names one of the first lines and no far column, and a search is stopped at one of the sizes, so that their numbers have few digits.
use Prim.Native.Nat.{ℕ, ◌≤◌, ◌<◌, ◌^◌}
use mathlib.Core.Path.{◌≡◌}
use mathlib.Core.Bool.{Bool, true, false, ◌&&◌}
use mathlib.Core.List.{List}
use native.Mathlib.Omega.{arith}
use lib.Dec.{leb}
use Rattle.theory.specs.Refusals.{Refusal, answer, refused, unplaced}
use Rattle.theory.specs.Problem.{Problem}
use Rattle.theory.specs.Operations.{max_size}
use Rattle.theory.proofs.Tests.{leb-true, and_left, and_right}
use Rattle.theory.proofs.Answers.{unbind, check-true}
use Rattle.theory.proofs.PlacedReading.{problem-read}
use Rattle.allowance.specs.AllowedFind.{stopped, find_within}
use Rattle.allowance.proofs.AllowedFind.{allowed-find}
use Rattle.allowance.proofs.FinderProgram.{within-near}

module _ (used : Bool) (sheet : List ℕ) (low high a work room : ℕ) where
  pub refusal-near : (r : Refusal) → find_within false used sheet low high a work room ≡ refused r → (r.place.line < 2 ^ 32) × (r.place.column < 2 ^ 32)
  refusal-near r e = let n = within-near used sheet low high a work room r e in (omega (arith, n.0), omega (arith, n.1))

  pub size-near : (s n : ℕ) → find_within false used sheet low high a work room ≡ answer (stopped s n) → s < 2 ^ 32
  unfolding find_within
  size-near s n e =
      unbind _ _ (stopped s n) e λ (p : Problem) h e₁.
      unbind _ _ (stopped s n) e₁ λ (u : Unit {0}) k _.
      let sizes : (leb 1 low && leb high max_size && leb low high) ≡ true = check-true _ (unplaced 8) u k in
      let most : high ≤ 8 = leb-true high 8 (and_right (leb 1 low) (leb high 8) (and_left (leb 1 low && leb high 8) (leb low high) sizes)) in
      let z = ((allowed-find false used sheet p low high work room (problem-read sheet p h)).only_too_few a s n e).2.to in
      omega (arith, most, z)
