use Rattle.forms.proofs.Evaluating.{FirstEvaluated}
use Rattle.forms.proofs.instance.instance_at.Given as goal

-- `instance_at` meets its contract: the forms before i are evaluated.
abbrev pub invariant-loop-i : goal.invariant-loop-i
invariant-loop-i l =
    FirstEvaluated l.values l.count l.forms l.codes l.written l.i
