use mathlib.Core.Path.{sym, ◌∙◌}
use mathlib.Core.Bool.{true, false}
use native.Mathlib.Omega.{arith}
use Rattle.shortening.specs.Tables.{no_span, spans_of}
use Rattle.shortening.proofs.FirstPlace.{first-start, first-here, first_on, first-nowhere}
use Rattle.shortening.proofs.TableWalk.{alike, length-spans, alike_at}
use Rattle.shortening.proofs.table.place_of.Goals as goal

pub loop-i-init : goal.loop-i-init
loop-i-init c = let a = c.args in first-start (alike a.sheet.now a.term) (spans_of a.terms)

pub same_bytes-requires : goal.same_bytes-requires
same_bytes-requires c = let z = c in (z.requires.0.within c.loop-i.i c.loop-i-test.true, z.requires.1)

pub returns-then-same_bytes : goal.returns-then-same_bytes
returns-then-same_bytes c =
    let z = c in
    let a = z.args in
    let i = c.loop-i.i in
    let t = c.loop-i-test.true in
    let e = length-spans a.sheet.now a.terms z.requires.0 in
    record {
      place = first-here (alike a.sheet.now a.term) (spans_of a.terms) i c.loop-i.invariant no_span (omega (arith, e))
          (alike_at a.sheet.now a.terms z.requires.0 a.term i true t (sym c.same_bytes.ensures ∙ c.if-same_bytes.true));
      within = t;
    }

pub loop-i-preserved : goal.loop-i-preserved
loop-i-preserved c =
    let z = c in
    let a = z.args in
    let i = c.loop-i.i in
    let t = c.loop-i-test.true in
    let e = length-spans a.sheet.now a.terms z.requires.0 in
    first_on (alike a.sheet.now a.term) (spans_of a.terms) i c.loop-i.invariant no_span (omega (arith, e))
    (alike_at a.sheet.now a.terms z.requires.0 a.term i false t (sym c.same_bytes.ensures ∙ c.if-same_bytes.false))

pub returns : goal.returns
returns c =
    let z = c in
    let a = z.args in
    let i = c.loop-i.i in
    let e = length-spans a.sheet.now a.terms z.requires.0 in
    record { place = first-nowhere (alike a.sheet.now a.term) (spans_of a.terms) i c.loop-i.invariant (omega (arith, e)); within = tt }
