use Prim.Native.Nat.{ℕ, ◌+◌, ◌*◌, ◌≤◌, ◌<◌}
use mathlib.Core.Path.{◌≡◌}
use mathlib.Core.List.{List}
use native.Mathlib.Numerals.{add-one}
use native.Mathlib.Omega.{arith}
use lib.ListN.{length, get_or, take}
use lib.Seq.{length-take-le}
use Rattle.theory.specs.Vectors.{AllBelow}
use Rattle.theory.specs.Vectors as vectors
use Rattle.interpretation.proofs.Ranks.{all_below-take, rank-within, rank-more}
use Rattle.truth.proofs.values.cell_at.Goals as goal
use Rattle.truth.proofs.values.cell_at.Invariants.{Ranked}

module _ (s : ℕ) (arguments : List ℕ) (size : s ≤ 8) (few : length arguments ≤ 3) (below : AllBelow s arguments) (i rank : ℕ) (h : Ranked s arguments i rank) where
  -- one argument more
  more : i < length arguments → Ranked s arguments (i + 1) (rank * s + get_or arguments i 0)
  more k =
      let e : rank * s + get_or arguments i 0 ≡ vectors.rank s (take (i + 1) arguments) = rw (add-one, rank-more s arguments i k, h.is) in
      record {
        within = omega arith;
        is = e;
        small = rw e (rank-within s (take (i + 1) arguments) size (omega (arith, length-take-le (i + 1) arguments (omega arith))) (all_below-take s (i + 1) arguments below));
      }

pub loop-i-preserved : goal.loop-i-preserved
loop-i-preserved c = let z = c in
    let p = z.requires.1 in
    let l = c.loop-i in
    more z.args.size.0 z.args.arguments.now p.0 p.1.0 p.1.1 l.i l.rank l.invariant c.if-arguments-i.false
