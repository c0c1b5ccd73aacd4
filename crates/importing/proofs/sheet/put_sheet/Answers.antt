-- `put_sheet` writes the head, then the lines.
use native.Mathlib.Omega.{arith}
use mathlib.Core.Path.{ap}
use lib.ListN.{length}
use Rattle.importing.proofs.SheetLines.{sheet-length-is, lent, sheet-written}
use Rattle.importing.proofs.sheet.put_sheet.Goals as goal

pub put_head-at-requires : goal.put_head-at-requires
put_head-at-requires c = let k = c.requires in record { readable = (k.clean_survey.0.limited.readable, k.clean_survey.0.limited.ordered); clauses_in_bounds = omega (arith, sheet-length-is _ _ k.clean_survey.0, k.clean_survey.1.1) }

pub slice_bounds-put_bytes-end : goal.slice_bounds-put_bytes-end
slice_bounds-put_bytes-end c = let k = c.requires in omega (arith, sheet-length-is _ _ k.clean_survey.0, k.text_in_bounds)

pub put_bytes-requires : goal.put_bytes-requires
put_bytes-requires c = let k = c.requires in
    let h = c.put_head-at in
    omega (arith, h.ensures.place, h.auto.out, k.clean_survey.1.1, sheet-length-is _ _ k.clean_survey.0, ap length (lent _ _ k.clean_survey.0 _ k.clean_survey.1.0 k.text_in_bounds), k.clean_survey.0.measured)

pub returns : goal.returns
returns c = let k = c.requires in
    let h = c.put_head-at in
    sheet-written _ _ k.clean_survey.0 _ k.clean_survey.1.0 k.text_in_bounds _ _ _ _ k.clean_survey.1.1 h.ensures.written h.ensures.place c.put_bytes.ensures.written
