-- `is_model` meets its contract: a model exactly if no clause fails.
use Rattle.judging.proofs.Verdicts.{model-told}
use Rattle.plain.proofs.filling.is_model.Goals as goal

pub returns : goal.returns
returns c = model-told _ _ _ _ c.case_failure.result c.case_failure.ensures _ c.is_none.ensures
