use mathlib.Core.List.{[]}
use native.Mathlib.Omega.{arith}
use Rattle.syntax.specs.Signatures.{signature_in}
use Rattle.clauses.proofs.Held.{arity-at}
use Rattle.rearranging.specs.Entries.{rearrangement_in}
use Rattle.rearranging.proofs.Symbols.{no-symbols, table-lent, table_taken, whole-taken}
use Rattle.rearranging.proofs.candidates.take_renumbered.Goals as goal

pub loop-i-init : goal.loop-i-init
loop-i-init c = let a = c.args in
    λ sheet. no-symbols a.size.0 (rearrangement_in a.r) a.cells.now (signature_in sheet a.signature) a.held.now a.standing

pub bounds-signature-i : goal.bounds-signature-i
bounds-signature-i c = omega (arith, c.loop-i-test.true, c.requires.0.limited.count)

pub take_part-stands-requires : goal.take_part-stands-requires
take_part-stands-requires c = let s = c in
    let a = s.args in
    let l = c.loop-i in
    table-lent a.size.0 a.signature a.cells.now a.held.now a.r s.requires.0 s.requires.1 [] l.held a.standing l.stands l.base l.i (l.invariant []) c.loop-i-test.true

pub power-base-requires : goal.power-base-requires
power-base-requires c = let s = c in
    let l = c.loop-i in
    (s.requires.0.small, omega (arith, arity-at s.args.signature s.requires.0.limited l.i c.loop-i-test.true))

pub overflow_add-base : goal.overflow_add-base
overflow_add-base c = let s = c in
    let a = s.args in
    let l = c.loop-i in
    omega (arith, s.well_formed, c.power-base.ensures, (table-lent a.size.0 a.signature a.cells.now a.held.now a.r s.requires.0 s.requires.1 [] l.held a.standing l.stands l.base l.i (l.invariant []) c.loop-i-test.true).source)

pub loop-i-preserved : goal.loop-i-preserved
loop-i-preserved c = let s = c in
    let a = s.args in
    let l = c.loop-i in
    let t = c.take_part-stands in
    let h = c.loop-i-test.true in
    λ sheet. table_taken a.size.0 a.signature a.cells.now a.held.now a.r s.requires.0 s.requires.1 sheet l.held a.standing l.stands l.base l.i (l.invariant sheet) h t.new.held t.result c.power-base.result t.auto.held c.power-base.ensures t.ensures

pub shape_of-held : goal.shape_of-held
shape_of-held c = (c.loop-i.invariant []).same

pub returns : goal.returns
returns c = let s = c in
    let a = s.args in
    let l = c.loop-i in
    λ sheet. whole-taken a.size.0 a.signature a.cells.now a.held.now a.r s.requires.0 s.requires.1 sheet l.held a.standing l.stands l.base l.i (l.invariant sheet) (omega arith) (omega arith)
