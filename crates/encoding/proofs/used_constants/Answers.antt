use mathlib.Core.Path.{◌≡◌, sym, ap}
use mathlib.Core.Bool.{Bool, true, false, cond}
use mathlib.Core.List.{[]}
use borrow.Author.Tests.{not-true, not-false}
use Rattle.syntax.specs.Signatures.{signature_in}
use Rattle.stream.proofs.Streams.{none-consumed, consumes-same, consumed-same}
use Rattle.twins.specs.TwinPart.{twin_part}
use Rattle.encoding.specs.Passes.{twins_used}
use Rattle.encoding.proofs.used_constants.Goals as goal

-- `used_constants` meets its contract: none are taken where they are not used.
pub returns-then-not-p : goal.returns-then-not-p
returns-then-not-p g c = let a = c.args in
    let x = a.consumer.now in
    let none : false ≡ a.p.symmetry = sym (not-true a.p.symmetry c.if-not-p.true) in
    λ sheet. consumed-same g.C.ClauseConsumer.effect [] (twins_used a.size.0 sheet a.p) x x (ap (λ (b : Bool). cond b (twin_part a.size.0 (signature_in sheet a.p.signature)) []) none) (none-consumed g.C.ClauseConsumer.effect x)

pub all_constants-requires : goal.all_constants-requires
all_constants-requires g c = let z = c in
    let a = z.args in
    let x = a.consumer.now in
    let used : a.p.symmetry ≡ true = not-false a.p.symmetry c.if-not-p.false in
    let sheet = z.requires.used_next.0 in
    let same = ap (λ (b : Bool). cond b (twin_part a.size.0 (signature_in sheet a.p.signature)) []) used in record { limited = z.requires.limited; by_index = z.requires.by_index; twins_next = (sheet, consumes-same g.C.ClauseConsumer.effect (twins_used a.size.0 sheet a.p) (twin_part a.size.0 (signature_in sheet a.p.signature)) x same z.requires.used_next.1) }

pub returns : goal.returns
returns g c = let z = c in
    let a = z.args in
    let x = a.consumer.now in
    let used : a.p.symmetry ≡ true = not-false a.p.symmetry c.if-not-p.false in
    let t = c.all_constants in
    let y = t.new.consumer in
    λ sheet.
    let same = ap (λ (b : Bool). cond b (twin_part a.size.0 (signature_in sheet a.p.signature)) []) used in
    consumed-same g.C.ClauseConsumer.effect (twin_part a.size.0 (signature_in sheet a.p.signature)) (twins_used a.size.0 sheet a.p) x y (sym same) (t.ensures sheet)
