-- `put_model` meets its contract.
use lib.ListN.{length}
use Rattle.plain.proofs.Models.{cells-held, cells-writable, model-written, length-is, case-room}
use Rattle.plain.proofs.sizes.put_model.Goals as goal

pub slice_bounds-write_cells-end : goal.slice_bounds-write_cells-end
slice_bounds-write_cells-end c = let s = c in
    let a = s.args in
    let k = c.tables_of-t in
    let count = (k.ensures a.sheet.now).cells in
    cells-held a.sheet.now a.p a.size.0 s.requires.searchable a.cells.values s.requires.p_value k.result.cells count

pub write_cells-requires : goal.write_cells-requires
write_cells-requires c = let s = c in
    let a = s.args in
    let k = c.tables_of-t in
    let count = (k.ensures a.sheet.now).cells in record { writable = cells-writable a.sheet.now a.p a.size.0 s.requires.searchable a.cells.values s.requires.p_value k.result.cells count; signature_in_bounds = case-room a.sheet.now a.p a.size.0 (length a.output.now) s.requires.p_in_bounds }

pub returns : goal.returns
returns c = let s = c in
    let a = s.args in
    let k = c.tables_of-t in
    let count = (k.ensures a.sheet.now).cells in
    let w = c.write_cells in record { written = model-written a.sheet.now a.p a.size.0 s.requires.searchable a.cells.values s.requires.p_value k.result.cells count a.output.now w.new.out w.ensures.written; place = length-is a.sheet.now a.p a.size.0 w.result w.ensures.place }
