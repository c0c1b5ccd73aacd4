use mathlib.Core.Path.{refl}
use native.Mathlib.Omega.{arith}
use Rattle.plain.proofs.LeastFilled.{cells-alike, choices-lent, choices-held, first-fillable, least-filled}
use Rattle.plain.proofs.filling.least_model.Goals as goal

-- `least_model` meets its contract.
pub choices_of-choices-requires : goal.choices_of-choices-requires
choices_of-choices-requires c = let a = c.args in
    let h = c.requires in record { limited = (h.accepted.readable.limited, h.size); by_index = λ text. omega (arith, h.few, cells-alike a.size.0 a.sheet.now text a.p.signature) }

pub slice_bounds-fill-end : goal.slice_bounds-fill-end
slice_bounds-fill-end c = let a = c.args in
    let k = c.choices_of-choices in
    choices-held k.result.values a.size.0 _ k.result.count (k.ensures.count a.sheet.now) (k.ensures.values a.sheet.now)

pub fill-requires : goal.fill-requires
fill-requires c = let s = c in
    let a = s.args in
    let k = c.choices_of-choices in
    first-fillable a.sheet.now a.p a.size.0 s.requires _ (choices-lent k.result.values _ k.result.count (k.ensures.values a.sheet.now)) _ refl

pub returns : goal.returns
returns c = let s = c in
    let a = s.args in
    let k = c.choices_of-choices in
    rw c.ok.ensures.value (least-filled a.sheet.now a.p a.size.0 s.requires _ (choices-lent k.result.values _ k.result.count (k.ensures.values a.sheet.now)) _ refl c.fill.result c.fill.ensures)
