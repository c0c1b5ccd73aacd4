use Prim.Native.Nat.{ℕ, suc, ◌-◌}
use mathlib.Core.Path.{◌≡◌, refl, ap, ◌∙◌}
use native.Mathlib.Omega.{arith}
use Rattle.theory.specs.Program.{◌>>?◌}
use Rattle.solver.specs.OnePass.{hear_literal}
use Rattle.replies.specs.Hearing.{literal_for, values_in}
use Rattle.replies.proofs.words.hear_literal.Goals as goal

-- `hear_literal`: the n-th variable has n - 1 before it.
pub returns-in-Some : goal.returns-in-Some
unfolding ◌>>?◌
returns-in-Some c =
    let e : suc (c.in-Some.n - 1) ≡ c.in-Some.n = omega (arith, (c.requires.0 _ c.in-Some.is).0) in
    rw c.in-Some.is (c.set_once.ensures ∙ ap (λ (k : ℕ). hear_literal (values_in c.args.marks.now) (literal_for c.args.yes k)) e)

pub returns-in-None : goal.returns-in-None
unfolding ◌>>?◌
returns-in-None c = rw c.in-None.is refl
