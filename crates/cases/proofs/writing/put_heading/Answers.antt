-- `put_heading` meets its contract.
use Prim.Native.Nat.{◌+◌}
use native.Mathlib.Omega.{arith}
use lib.ListN.{length-set}
use Rattle.theory.specs.Bytes.{bytes}
use Rattle.cases.proofs.TwoMore.{two-more}
use Rattle.cases.proofs.writing.put_heading.Goals as goal

pub bounds-out-at-2 : goal.bounds-out-at-2
bounds-out-at-2 c = let p = c.put_bytes-at in
    simp length-set (omega (arith, p.ensures.place, p.auto.out, c.requires.1))

pub returns : goal.returns
returns c = let p = c.put_bytes-at in
    let a = c.args in record { written = two-more a.out.now p.new.out 0 p.result (bytes "case=1\nsize=") (48 + a.size.0) 10 p.ensures.written p.ensures.place (omega (arith, p.ensures.place, c.requires.1)); place = omega (arith, p.ensures.place) }
