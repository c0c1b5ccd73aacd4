use mathlib.Core.Path.{◌≡◌}
use native.Mathlib.Numerals.{add-one}
use native.Mathlib.Omega.{arith}
use lib.ListN.{length, length-set}
use Rattle.syntax.proofs.Signatures.{arities_of-more}
use Rattle.syntax.proofs.signature.Signature.arities.Goals as goal

pub loop-i-preserved : goal.loop-i-preserved
loop-i-preserved c = let a = c.args in
    let l = c.loop-i in
    let n : length a.self.symbols ≡ 56 = c.well_formed.0.1.1.0.1.0.1 in
    (simp length-set l.invariant.0, rw add-one (arities_of-more a.self.symbols l.arities l.i (omega arith) (omega arith) l.invariant.1))

pub returns : goal.returns
returns c = let e : c.loop-i.i ≡ c.args.self.count = omega arith in
    rw (← e) c.loop-i.invariant.1
