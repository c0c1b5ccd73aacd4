-- `is_true_at` meets its contract.
use mathlib.Core.Path.{sym, ◌∙◌}
use mathlib.Core.Bool.{true, false}
use Prim.Native.Nat.{◌+◌}
use lib.Dec.{eqb}
use lib.ListN.{get_or}
use Rattle.theory.proofs.Tests.{eqb-of-≡, eqb-false, beq-true, beq-not}
use Rattle.forms.proofs.Evaluating.{truth-made}
use Rattle.forms.proofs.instance.is_true_at.Goals as goal

pub returns-then-forms-at-eq1 : goal.returns-then-forms-at-eq1
returns-then-forms-at-eq1 c = let a = c.args in
    sym (truth-made a.forms.now a.at a.values.now true (eqb-of-≡ (get_or a.forms.now a.at 0) 1 c.if-forms-at-eq1.true) ∙ beq-true _)

pub returns : goal.returns
returns c = let a = c.args in
    sym (truth-made a.forms.now a.at a.values.now false (eqb-false (get_or a.forms.now a.at 0) 1 c.if-forms-at-eq1.false) ∙ beq-not (eqb (get_or a.values.now (get_or a.forms.now (a.at + 2) 0) 0) (get_or a.values.now (get_or a.forms.now (a.at + 4) 0) 0)))
