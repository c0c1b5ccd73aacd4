use mathlib.Core.Path.{sym, subst}
use native.Mathlib.Omega.{arith}
use Rattle.syntax.specs.Signatures.{signature_in}
use Rattle.clauses.proofs.Held.{count-signature_in}
use Rattle.shortening.specs.ShortLines.{RoomFor, Shortened}
use Rattle.shortening.proofs.ShortWalk.{begins, words-bounded, ends, overflows, code-there, goes_on, overlong, answer-long, answer-whole}
use Rattle.shortening.proofs.short.shorten.Goals as goal

pub no_words-words-requires : goal.no_words-words-requires
no_words-words-requires c = tt

pub loop-at-init : goal.loop-at-init
loop-at-init c l = let z = c in
    let a = z.args in
    begins (signature_in a.sheet.now a.signature) (signature_in a.sheet.now a.all) a.sheet.now a.from a.to a.terms l c.no_words-words.result c.no_words-words.ensures z.requires.there

pub short_word-requires : goal.short_word-requires
short_word-requires c = let z = c in
    let s = c.loop-at.invariant z.requires.line.line in
    record { declared = z.requires.line.declared; from = c.loop-at-test.true; within = z.requires.line.within; there = s.there; here = s.here }

pub returns-in_err-next : goal.returns-in_err-next
returns-in_err-next c l =
    let a = c.args in
    let g = signature_in a.sheet.now a.signature in
    let g⁺ = signature_in a.sheet.now a.all in
    let p = c.loop-at in
    let s = p.invariant l in
    subst (Shortened g g⁺ a.sheet.now a.terms l.clause) (sym c.from_residual.ensures)
    (overflows g g⁺ a.sheet.now a.from a.to a.terms l p.at p.named p.words s (c.in_err-next.ensures s.here))

pub with_code-words-requires : goal.with_code-words-requires
with_code-words-requires c = let z = c in
    let a = z.args in
    let g = signature_in a.sheet.now a.signature in
    let g⁺ = signature_in a.sheet.now a.all in
    let l = z.requires.line.line in
    let p = c.loop-at in
    let s = p.invariant l in
    let r = c.in_ok-next in (
      z.requires.limited,
      (
        code-there g g⁺ a.sheet.now a.from a.to a.terms l p.at p.named p.words s r.next (r.ensures s.here) _ z.requires.room,
        words-bounded g g⁺ a.sheet.now a.from a.to a.terms l p.at p.named p.words s,
      ),
    )

pub returns-then-words-gt-MAX_WORDS : goal.returns-then-words-gt-MAX_WORDS
returns-then-words-gt-MAX_WORDS c l = let a = c.args in
    let g = signature_in a.sheet.now a.signature in
    let g⁺ = signature_in a.sheet.now a.all in
    let p = c.loop-at in
    let s = p.invariant l in
    let r = c.in_ok-next in
    let w = c.with_code-words in
    answer-long g g⁺ a.sheet.now a.terms l.clause w.result p.named c.if-words-gt-MAX_WORDS.true
    (overlong g g⁺ a.sheet.now a.from a.to a.terms l p.at p.named p.words s r.next (r.ensures s.here) w.result (w.ensures a.sheet.now) c.if-words-gt-MAX_WORDS.true)

pub overflow_add-at : goal.overflow_add-at
overflow_add-at c = let z = c in
    let s = c.loop-at.invariant z.requires.line.line in
    omega (arith, z.well_formed, z.requires.line.within, (c.in_ok-next.ensures s.here).within)

pub loop-at-smaller : goal.loop-at-smaller
loop-at-smaller c = let z = c in
    let p = c.loop-at in
    let s = p.invariant z.requires.line.line in
    omega (arith, c.loop-at-test.true, (c.in_ok-next.ensures s.here).from)

pub loop-at-preserved : goal.loop-at-preserved
loop-at-preserved c l = let z = c in
    let a = z.args in
    let g = signature_in a.sheet.now a.signature in
    let g⁺ = signature_in a.sheet.now a.all in
    let p = c.loop-at in
    let s = p.invariant l in
    let r = c.in_ok-next in
    let w = c.with_code-words in
    let n = count-signature_in a.all z.requires.limited a.sheet.now in
    goes_on g g⁺ a.sheet.now a.from a.to a.terms l p.at p.named p.words s r.next (r.ensures s.here) w.result (w.ensures a.sheet.now)
    (omega (arith, n, z.requires.limited.count)) (subst (RoomFor g a.sheet.now a.from a.to a.terms) (sym n) z.requires.room) c.if-words-gt-MAX_WORDS.false

pub returns : goal.returns
returns c l = let a = c.args in
    let g = signature_in a.sheet.now a.signature in
    let g⁺ = signature_in a.sheet.now a.all in
    let p = c.loop-at in
    let s = p.invariant l in
    answer-whole g g⁺ a.sheet.now a.terms l.clause p.words p.named s.few (ends g g⁺ a.sheet.now a.from a.to a.terms l p.at p.named p.words s c.loop-at-test.false)
