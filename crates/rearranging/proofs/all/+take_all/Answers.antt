use Prim.Native.Nat.{◌+◌, ◌-◌}
use mathlib.Core.Path.{sym, ◌∙◌}
use mathlib.Core.List.{[]}
use native.Mathlib.Omega.{arith}
use Rattle.renumbering.specs.Renumbering.{renumbered}
use Rattle.syntax.specs.Signatures.{signature_in}
use Rattle.rearranging.specs.Entries.{rearrangement_in}
use Rattle.rearranging.proofs.Walking.{none-walked, passed_over, gone-through, all-walked, still-lent, whole-rearrangement, one-candidate, all-continued, next-count, begun-on, gone-on}
use Rattle.rearranging.proofs.all.+take_all.Goals as goal

pub take_renumbered-requires : goal.take_renumbered-requires
take_renumbered-requires t c = let z = c in
    let a = z.args in
    (z.requires.0, whole-rearrangement a.size.0 a.begun z.requires.1 c.if-size-begun.true)

pub returns-then-size-begun : goal.returns-then-size-begun
returns-then-size-begun t c = let z = c in
    let a = z.args in
    let v = c.take_renumbered in
    λ sheet. one-candidate a.size.0 a.begun z.requires.1 c.if-size-begun.true a.signature a.cells.now a.held.now v.new.held z.requires.0 sheet (v.ensures sheet)

pub loop-d-init : goal.loop-d-init
loop-d-init t c = let a = c.args in
    λ sheet. none-walked (λ p. renumbered a.size.0 (signature_in sheet a.signature) p a.cells.now) a.size.0 (a.size.0 - (a.begun.count + 1)) (rearrangement_in a.begun) a.held.now

pub has-requires : goal.has-requires
has-requires t c = let z = c in
    (z.requires.1.entries, omega (arith, c.loop-d-test.true, z.requires.0.small))

pub loop-d-preserved-then-has : goal.loop-d-preserved-then-has
loop-d-preserved-then-has t c = let a = c.args in
    let l = c.loop-d in
    λ sheet.
    passed_over (λ p. renumbered a.size.0 (signature_in sheet a.signature) p a.cells.now) a.size.0 (a.size.0 - (a.begun.count + 1)) (rearrangement_in a.begun) a.held.now l.held l.d (l.invariant sheet) c.loop-d-test.true
    (sym c.has.ensures ∙ c.if-has.true)

pub with-requires : goal.with-requires
with-requires t c = let z = c in
    (z.requires.1.entries, (omega (arith, c.loop-d-test.true, z.requires.0.small), omega (arith, c.if-size-begun.false, z.requires.0.small)))

pub take_all-requires : goal.take_all-requires
take_all-requires t c = let z = c in
    let a = z.args in
    let l = c.loop-d in
    let w = c.with in
    let h = c.has in
    let more = c.if-size-begun.false in
    let lt = c.loop-d-test.true in
    let new = sym h.ensures ∙ c.if-has.false in (
      omega (arith, more, next-count a.size.0 a.begun z.requires.1 more l.d lt new w.result w.ensures.held w.ensures.entries),
      (
        still-lent a.size.0 a.signature a.cells.now a.held.now l.held z.requires.0 (l.invariant []).same,
        begun-on a.size.0 a.begun z.requires.1 more l.d lt new w.result w.ensures.held w.ensures.entries,
      ),
    )

pub loop-d-preserved : goal.loop-d-preserved
loop-d-preserved t c = let z = c in
    let a = z.args in
    let l = c.loop-d in
    let v = c.take_all in
    let w = c.with in
    let h = c.has in
    let more = c.if-size-begun.false in
    let lt = c.loop-d-test.true in
    let new = sym h.ensures ∙ c.if-has.false in
    λ sheet.
    gone-through (λ p. renumbered a.size.0 (signature_in sheet a.signature) p a.cells.now) a.size.0 (a.size.0 - (a.begun.count + 1)) (rearrangement_in a.begun) a.held.now l.held l.d (l.invariant sheet) lt new v.new.held v.auto.held
    (gone-on a.size.0 a.begun z.requires.1 more l.d lt new w.result w.ensures.held w.ensures.entries (λ p. renumbered a.size.0 (signature_in sheet a.signature) p a.cells.now) l.held v.new.held (v.ensures sheet))

pub shape_of-held : goal.shape_of-held
shape_of-held t c = (c.loop-d.invariant []).same

pub returns : goal.returns
returns t c = let z = c in
    let a = z.args in
    let l = c.loop-d in
    λ sheet.
    all-continued a.size.0 a.begun z.requires.1 c.if-size-begun.false (λ p. renumbered a.size.0 (signature_in sheet a.signature) p a.cells.now) a.held.now l.held
    (all-walked (λ p. renumbered a.size.0 (signature_in sheet a.signature) p a.cells.now) a.size.0 (a.size.0 - (a.begun.count + 1)) (rearrangement_in a.begun) a.held.now l.held l.d (l.invariant sheet) (omega arith))
