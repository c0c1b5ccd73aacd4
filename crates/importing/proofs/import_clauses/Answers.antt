-- `import_clauses` refuses at the survey's fault, then by the length of the sheet, or writes it.
use mathlib.Core.Path.{refl, sym, ◌∙◌}
use lib.ListN.{length}
use Rattle.answers.proofs.Answering.{put-over, refuses, writes}
use Rattle.importing.proofs.Mapped.{mapped-ok}
use Rattle.importing.proofs.Imported.{too_large, no_room, taken}
use Rattle.importing.proofs.import_clauses.Goals as goal

pub returns-then-length-gt-MAX_BYTES : goal.returns-then-length-gt-MAX_BYTES
returns-then-length-gt-MAX_BYTES c = let a = c.args in let m = mapped-ok _ c.survey_of-surveyed.result c.map_err.result c.in_ok-survey.survey c.map_err.ensures.cases c.in_ok-survey.was in let k = (rw m at c.survey_of-surveyed.ensures).0 in refuses _ _ _ a.output.now (too_large _ _ k _ (length a.output.now) (c.sheet_length-length.ensures _ k) c.if-length-gt-MAX_BYTES.true ∙ sym c.refused_at.ensures) refl

pub returns-then-output-length : goal.returns-then-output-length
returns-then-output-length c = let a = c.args in let m = mapped-ok _ c.survey_of-surveyed.result c.map_err.result c.in_ok-survey.survey c.map_err.ensures.cases c.in_ok-survey.was in let k = (rw m at c.survey_of-surveyed.ensures).0 in refuses _ _ c.needing.result a.output.now (no_room _ _ k _ (length a.output.now) (c.sheet_length-length.ensures _ k) c.if-length-gt-MAX_BYTES.false c.if-output-length.true) c.needing.ensures

pub returns : goal.returns
returns c = let a = c.args in let m = mapped-ok _ c.survey_of-surveyed.result c.map_err.result c.in_ok-survey.survey c.map_err.ensures.cases c.in_ok-survey.was in let k = (rw m at c.survey_of-surveyed.ensures).0 in let n = c.sheet_length-length in writes _ _ n.result a.output.now _ (taken _ _ k _ (length a.output.now) (n.ensures _ k) c.if-length-gt-MAX_BYTES.false c.if-output-length.false) (n.ensures _ k) (c.put_sheet.ensures ∙ put-over _ _)
