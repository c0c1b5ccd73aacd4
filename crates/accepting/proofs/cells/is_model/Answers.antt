-- `is_model`: the cells are the interpretation that the setting says.
use borrow.Author.Rules.{rules}
use Rattle.accepting.proofs.Judged.{setting-counted, cells-lent, is-judged}
use Rattle.accepting.proofs.cells.is_model.Goals as goal

pub read_cells-requires : goal.read_cells-requires
read_cells-requires c = let h = c.requires in record { limited = (h.lent.sized.accepted.readable.limited, h.lent.sized.size); by_index = h.lent.numbered; setting_len = (setting-counted _ _ _ _ _ h.lent, search rules) }

pub case_failure-requires : goal.case_failure-requires
case_failure-requires c = cells-lent _ _ _ _ _ c.requires _ (search rules) c.read_cells.ensures

pub returns : goal.returns
returns c = is-judged _ _ _ _ _ c.requires _ (search rules) c.read_cells.ensures _ c.case_failure.ensures _ c.is_none.ensures
