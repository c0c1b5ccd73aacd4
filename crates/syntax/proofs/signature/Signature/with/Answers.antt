-- `Signature::with` meets its contract.
use mathlib.Core.Path.{◌≡◌, refl}
use native.Mathlib.Numerals.{add-one}
use native.Mathlib.Omega.{arith}
use lib.ListN.{length}
use lib.Seq.{take-suc-set}
use Rattle.syntax.proofs.signature.Signature.with.Goals as goal

pub returns : goal.returns
returns c = let a = c.args in
    let n : length a.self.symbols ≡ 56 = c.well_formed.0.1.1.0.1.0.1 in record { count = refl; symbols = rw add-one (take-suc-set a.self.symbols a.self.count a.symbol (omega arith)) }
