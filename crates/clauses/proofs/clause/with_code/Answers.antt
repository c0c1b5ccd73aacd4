-- `with_code` takes one word more.
use Prim.Native.Nat.{ℕ, ◌+◌}
use mathlib.Core.Path.{refl, ap}
use native.Mathlib.Omega.{arith}
use Rattle.syntax.specs.Signatures.{signature_in}
use Rattle.clauses.proofs.Passing.{signs-small, passed-more}
use Rattle.clauses.proofs.clause.with_code.Goals as goal

pub overflow_add-result-2 : goal.overflow_add-result-2
overflow_add-result-2 c = let z = c in omega (arith, signs-small z.args.code, c.signs.ensures, z.requires.1.1.literals, z.requires.1.1.count)

pub returns : goal.returns
returns c = let z = c in λ sheet ws p. passed-more (signature_in sheet z.args.signature) ws z.args.w _ z.args.code p c.stored.ensures refl (ap (λ (n : ℕ). z.args.w.literals + n) c.signs.ensures) (c.after.ensures.due sheet) c.after.ensures.pending
