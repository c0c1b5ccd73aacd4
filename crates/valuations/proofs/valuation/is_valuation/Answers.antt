-- `is_valuation` meets its contract.
use mathlib.Core.Path.{sym, ◌∙◌}
use Rattle.valuations.proofs.Bits.{uncounted, counted}
use Rattle.valuations.proofs.valuation.is_valuation.Goals as goal

pub returns-then-setting-n : goal.returns-then-setting-n
returns-then-setting-n c = let a = c.args in
    λ s g m. sym (uncounted s g a.setting.now (λ e. c.if-setting-n.true (e ∙ sym m.count)))

pub returns : goal.returns
returns c = let a = c.args in
    λ s g m. c.is_binary.ensures ∙ sym (counted s g a.setting.now (c.if-setting-n.false ∙ m.count))
