use mathlib.Core.Path.{◌≡◌, sym, subst}
use native.Mathlib.Omega.{arith}
use Rattle.rearranging.specs.declared.standing.Standing.{Standing}
use Rattle.rearranging.specs.declared.standing.Standing.TheVariants.{After}
use borrow.Author.Rules.{rules}
use denote.Enum.Bare.{same_true}
use Rattle.rearranging.specs.contracts.standing.Standing.{the_type}
use Rattle.rearranging.specs.Keeping.{CandidateTaken}
use Rattle.rearranging.specs.Candidates.{part_of}
use Rattle.rearranging.proofs.Keeping.{after-taken}
use Prim.Native.Nat.{◌-◌}
use Rattle.syntax.specs.Signatures.{kind_of}
use Rattle.rearranging.specs.Entries.{rearrangement_in}
use Rattle.rearranging.proofs.Parts.{length_part, none-parts, one_cell, source-last, target-last, value-below, source_fits, next-room, next-lent, next-taken, all-next}
use Rattle.rearranging.proofs.candidates.+take_part.Goals as goal

pub returns-then-eq : goal.returns-then-eq
returns-then-eq t c = let z = c in
    let a = z.args in
    let h = z.requires in
    let us = part_of a.size.0 (kind_of a.function) (rearrangement_in a.r) a.cells.now a.left a.from.0 in
    let e : a.standing ≡ After = same_true the_type (search rules) _ _ (sym c.if-eq.ensures) in
    subst (λ (q : Standing). CandidateTaken us a.at.0 a.held.now a.held.now q After) (sym e)
    (after-taken us a.at.0 a.held.now (omega (arith, h.target, length_part a.size.0 (kind_of a.function) (rearrangement_in a.r) a.cells.now a.left a.from.0)))

pub bounds-cells-first : goal.bounds-cells-first
bounds-cells-first t c = let z = c in
    let a = z.args in
    source-last a.size.0 a.r a.left a.from.0 a.at.0 a.cells.now a.held.now z.requires c.if-left-eq0.true

pub renamed-requires : goal.renamed-requires
renamed-requires t c = let z = c in
    let a = z.args in
    (z.requires.rearranges.entries, value-below a.size.0 a.r a.left a.from.0 a.at.0 a.cells.now a.held.now z.requires c.if-left-eq0.true)

pub take_value-requires : goal.take_value-requires
take_value-requires t c = let z = c in
    let a = z.args in
    target-last a.size.0 a.r a.left a.from.0 a.at.0 a.cells.now a.held.now z.requires c.if-left-eq0.true

pub returns-then-left-eq0 : goal.returns-then-left-eq0
returns-then-left-eq0 t c = let z = c in
    let a = z.args in
    let v = c.take_value in
    let w = c.renamed in
    let none : a.left ≡ 0 = c.if-left-eq0.true in
    one_cell a.size.0 (kind_of a.function) (rearrangement_in a.r) a.cells.now a.left a.from.0 a.at.0 a.held.now v.new.held a.standing v.result none
    (target-last a.size.0 a.r a.left a.from.0 a.at.0 a.cells.now a.held.now z.requires none) w.result w.ensures v.ensures.kept v.ensures.stands

pub loop-d-init : goal.loop-d-init
loop-d-init t c = let a = c.args in
    none-parts a.size.0 (kind_of a.function) (rearrangement_in a.r) a.cells.now (a.left - 1) a.from.0 a.at.0 a.held.now a.standing

pub bounds-r-d : goal.bounds-r-d
bounds-r-d t c = omega (arith, c.loop-d-test.true, c.requires.small)

pub overflow_mul-start : goal.overflow_mul-start
overflow_mul-start t c = let z = c in
    let l = c.loop-d in
    let p = c.power-step in
    omega (arith, z.well_formed, source_fits z.args.size.0 z.args.r z.args.left z.args.from.0 z.args.at.0 z.args.cells.now z.args.held.now z.requires c.if-left-eq0.false l.d c.loop-d-test.true p.result p.ensures)

pub overflow_add-start : goal.overflow_add-start
overflow_add-start t c = let z = c in
    let l = c.loop-d in
    let p = c.power-step in
    omega (arith, z.well_formed, source_fits z.args.size.0 z.args.r z.args.left z.args.from.0 z.args.at.0 z.args.cells.now z.args.held.now z.requires c.if-left-eq0.false l.d c.loop-d-test.true p.result p.ensures)

pub take_part-stands-requires : goal.take_part-stands-requires
take_part-stands-requires t c = let z = c in
    let a = z.args in
    let l = c.loop-d in
    let p = c.power-step in
    let some = c.if-left-eq0.false in
    let lt = c.loop-d-test.true in (
      omega (arith, some),
      next-lent a.size.0 a.r a.left a.from.0 a.at.0 a.cells.now a.held.now z.requires some (kind_of a.function) l.held a.standing l.stands l.to l.d l.invariant lt p.result p.ensures,
    )

pub overflow_add-to : goal.overflow_add-to
overflow_add-to t c = let z = c in
    let a = z.args in
    let l = c.loop-d in
    let p = c.power-step in
    omega (arith, z.well_formed, p.ensures, l.invariant.same, next-room a.size.0 a.r a.left a.from.0 a.at.0 a.cells.now a.held.now z.requires c.if-left-eq0.false (kind_of a.function) l.held a.standing l.stands l.to l.d l.invariant c.loop-d-test.true)

pub loop-d-preserved : goal.loop-d-preserved
loop-d-preserved t c = let z = c in
    let a = z.args in
    let l = c.loop-d in
    let p = c.power-step in
    let v = c.take_part-stands in
    next-taken a.size.0 a.r a.left a.from.0 a.at.0 a.cells.now a.held.now z.requires c.if-left-eq0.false (kind_of a.function) l.held a.standing l.stands l.to l.d l.invariant c.loop-d-test.true p.result p.ensures
    v.new.held v.result v.auto.held v.ensures

pub shape_of-held : goal.shape_of-held
shape_of-held t c = c.loop-d.invariant.same

pub returns : goal.returns
returns t c = let z = c in
    let a = z.args in
    let l = c.loop-d in
    all-next a.size.0 a.r a.left a.from.0 a.at.0 a.cells.now a.held.now z.requires c.if-left-eq0.false (kind_of a.function) l.held a.standing l.stands l.to l.d l.invariant (omega arith)
