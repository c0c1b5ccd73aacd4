use mathlib.Core.Path.{sym}
use borrow.Author.Tests.{not-true}
use Prim.Native.Nat.{◌^◌}
use Rattle.valuations.proofs.Bits.{predicates-have-values}
use Rattle.valuations.proofs.valuation.all_have_values.Goals as goal

-- `all_have_values` meets its contract.
pub returns-then-not-symbol : goal.returns-then-not-symbol
returns-then-not-symbol c = let a = c.args in
    let e = not-true a.symbol.function c.if-not-symbol.true in
    rw e (sym (predicates-have-values a.size.0 (a.size.0 ^ a.symbol.arity) _))
