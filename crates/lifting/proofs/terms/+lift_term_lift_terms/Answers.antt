-- `lift_term` and `lift_terms` meet their contracts.
use Rattle.std.proofs.Common.{arith}
use Prim.Native.Nat.{ℕ, ◌+◌}
use lib.ListN.{get_or}
use mathlib.Core.Path.{sym, subst}
use Rattle.lifting.specs.Rows.{row_of}
use Rattle.lifting.specs.Reading.{TermLifted}
use Rattle.lifting.proofs.Steps.{inside, letter-inside, letter-lifted, function-inside, function-term, arguments-there, share-room, function-lifted, none-lifted, more-terms, first-there, further, rest-there, more-lifted}
use Rattle.lifting.proofs.terms.+lift_term_lift_terms.Goals as goal

pub lift_term-bounds-reading-at : goal.lift_term-bounds-reading-at
lift_term-bounds-reading-at t c = inside c.requires

pub lift_term-bounds-reading-x : goal.lift_term-bounds-reading-x
lift_term-bounds-reading-x t c = letter-inside c.requires c.if-w-ge-LETTER.true

pub lift_term-returns-then-w-ge-LETTER : goal.lift_term-returns-then-w-ge-LETTER
lift_term-returns-then-w-ge-LETTER t c s = letter-lifted s c.if-w-ge-LETTER.true

pub lift_term-overflow_add-at : goal.lift_term-overflow_add-at
lift_term-overflow_add-at t c = omega (arith, inside c.requires)

pub lift_term-bounds-reading-f : goal.lift_term-bounds-reading-f
lift_term-bounds-reading-f t c = function-inside c.requires c.if-w-ge-LETTER.false

pub lift_term-lift_terms-r-requires : goal.lift_term-lift_terms-r-requires
lift_term-lift_terms-r-requires t c =
    let s = c.requires in
    (omega (arith, inside s), arguments-there s (function-term s c.if-w-ge-LETTER.false))

pub lift_term-share-requires : goal.lift_term-share-requires
lift_term-share-requires t c =
    let s = c.requires in
    let p = function-term s c.if-w-ge-LETTER.false in
    let r = c.lift_terms-r in
    (share-room s p r.result r.new.table (r.ensures (arguments-there s p)), s.source.few)

pub lift_term-returns : goal.lift_term-returns
lift_term-returns t c s =
    let p = function-term s c.if-w-ge-LETTER.false in
    let r = c.lift_terms-r in
    let e = r.ensures (arguments-there s p) in
    let k = c.share.ensures in
    subst (λ (n : ℕ). TermLifted s (record { variable = n; next = r.result.next }) c.share.new.table) (sym k.variable)
    (subst (TermLifted s (record { variable = c.args.owns + row_of r.new.table (record { function = get_or c.args.reading.now.words.now c.args.at 0; arguments = r.result.variables }); next = r.result.next })) (sym k.held)
    (function-lifted s p r.result r.new.table e))

pub lift_terms-returns-then-n-eq0 : goal.lift_terms-returns-then-n-eq0
lift_terms-returns-then-n-eq0 t c s = none-lifted s c.if-n-eq0.true

pub lift_terms-lift_term-first-requires : goal.lift_terms-lift_term-first-requires
lift_terms-lift_term-first-requires t c =
    let s = c.requires in
    (omega arith, first-there s (more-terms s c.if-n-eq0.false))

pub lift_terms-lift_terms-rest-requires : goal.lift_terms-lift_terms-rest-requires
lift_terms-lift_terms-rest-requires t c =
    let s = c.requires in
    let p = more-terms s c.if-n-eq0.false in
    let r = c.lift_term-first in
    let e = r.ensures (first-there s p) in
    (omega (arith, further s p r.result r.new.table e, inside (first-there s p)), rest-there s p r.result r.new.table e)

pub lift_terms-returns : goal.lift_terms-returns
lift_terms-returns t c s =
    let p = more-terms s c.if-n-eq0.false in
    let r = c.lift_term-first in
    let q = c.lift_terms-rest in
    let e = r.ensures (first-there s p) in
    more-lifted s p r.result r.new.table e q.result q.new.table (q.ensures (rest-there s p r.result r.new.table e))
