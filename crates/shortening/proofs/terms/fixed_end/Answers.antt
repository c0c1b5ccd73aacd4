use native.Mathlib.Omega.{arith}
use Rattle.clauses.proofs.Held.{count-signature_in}
use Rattle.shortening.proofs.FixedRun.{few-places, starts, varies, function-there, goes_on, ends, not-ended}
use Rattle.shortening.proofs.terms.fixed_end.Goals as goal

pub loop-next-init : goal.loop-next-init
loop-next-init c t = starts _ _ _ _ t

pub returns-then-word-ge-LETTER : goal.returns-then-word-ge-LETTER
returns-then-word-ge-LETTER c t = let z = c in
    let l = c.loop-next in
    varies _ _ _ _ t (few-places z.args.sheet.now z.args.signature z.requires.readable.limited) l.next l.due (l.invariant t) c.next_word-word.result c.next_word-word.ensures (omega (arith, c.if-word-ge-LETTER.true))

pub overflow_sub-due : goal.overflow_sub-due
overflow_sub-due c = let z = c in let l = c.loop-next in (l.invariant z.requires.here).positive

pub arguments-requires : goal.arguments-requires
arguments-requires c = let z = c in
    let a = z.args in
    let l = c.loop-next in (
      z.requires.readable.limited,
      omega (
        arith,
        count-signature_in a.signature z.requires.readable.limited a.sheet.now,
        function-there _ _ _ _ z.requires.here (few-places a.sheet.now a.signature z.requires.readable.limited) l.next l.due (l.invariant z.requires.here) c.next_word-word.result c.next_word-word.ensures c.if-word-ge-LETTER.false,
      ),
    )

pub overflow_add-due : goal.overflow_add-due
overflow_add-due c = let z = c in
    let l = c.loop-next in
    omega (arith, z.well_formed, z.requires.within, c.loop-next-test.true, (l.invariant z.requires.here).bound, c.arguments.ensures.few)

pub returns-then-due-eq0 : goal.returns-then-due-eq0
returns-then-due-eq0 c t = let z = c in
    let a = z.args in
    let l = c.loop-next in
    let w = c.next_word-word in
    ends _ _ _ _ t (few-places a.sheet.now a.signature z.requires.readable.limited) l.next l.due (l.invariant t) w.result w.ensures c.if-word-ge-LETTER.false
    c.arguments.result (c.arguments.ensures.arity a.sheet.now) z.requires.within c.if-due-eq0.true

pub overflow_add-next : goal.overflow_add-next
overflow_add-next c = let z = c in omega (arith, z.well_formed, z.requires.within, c.next_word-word.ensures.within)

pub loop-next-smaller : goal.loop-next-smaller
loop-next-smaller c = let z = c in
    let l = c.loop-next in
    omega (arith, c.loop-next-test.true, c.next_word-word.ensures.from)

pub loop-next-preserved : goal.loop-next-preserved
loop-next-preserved c t = let z = c in
    let a = z.args in
    let l = c.loop-next in
    let w = c.next_word-word in
    goes_on _ _ _ _ t (few-places a.sheet.now a.signature z.requires.readable.limited) l.next l.due (l.invariant t) w.result w.ensures c.if-word-ge-LETTER.false
    c.arguments.result (c.arguments.ensures.arity a.sheet.now) c.arguments.ensures.few c.if-due-eq0.false

pub returns : goal.returns
returns c t = let l = c.loop-next in absurd (not-ended _ _ _ _ t l.next l.due (l.invariant t) c.loop-next-test.false)
