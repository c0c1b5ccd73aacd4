-- `named_words` looks whether the clause is a helper's own.
use Prim.Native.Nat.{ℕ, ◌+◌, ◌-◌}
use mathlib.Core.Path.{◌≡◌, subst}
use native.Mathlib.Omega.{arith}
use Rattle.problem.specs.Problems.{WordsOf}
use Rattle.problem.proofs.named_words.named_words.Goals as goal

pub returns : goal.returns
returns c = let z = c in
    let a = z.args in
    let e : a.p.terms.count + (a.k - a.p.terms.count) ≡ a.k = omega (arith, c.if-k-n.false) in
    subst (λ (k : ℕ). WordsOf a.sheet.now a.p k c.short_clause.result) e c.short_clause.ensures
