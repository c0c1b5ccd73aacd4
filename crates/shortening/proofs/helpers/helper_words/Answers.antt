use native.Mathlib.Omega.{arith}
use Rattle.theory.specs.Grammar.{clause_words}
use Rattle.syntax.specs.Signatures.{signature_in}
use Rattle.clauses.proofs.Held.{count-signature_in}
use Rattle.naming.specs.FixedTerms.{helper_clause}
use Rattle.shortening.specs.Tables.{term_at}
use Rattle.shortening.proofs.HelperWalk.{begins, words-bounded, ends, code-there, goes_on, overlong}
use Rattle.shortening.proofs.helpers.helper_words.Goals as goal

pub loop-at-init : goal.loop-at-init
loop-at-init c = let z = c in
    let a = z.args in
    let g = signature_in a.sheet.now a.signature in
    let g⁺ = signature_in a.sheet.now a.all in
    let m = count-signature_in a.signature z.requires.readable.limited a.sheet.now in
    let n = count-signature_in a.all z.requires.limited a.sheet.now in
    begins g g⁺ a.sheet.now a.term a.place c.constant_equals-words.result (omega (arith, n, z.requires.below)) z.requires.there (c.constant_equals-words.ensures a.sheet.now)

pub next_word-word-requires : goal.next_word-word-requires
next_word-word-requires c = let z = c in (z.requires.readable, (c.loop-at-test.true, z.requires.there.within.to))

pub with_code-words-requires : goal.with_code-words-requires
with_code-words-requires c = let z = c in
    let a = z.args in
    let g = signature_in a.sheet.now a.signature in
    let g⁺ = signature_in a.sheet.now a.all in
    let m = count-signature_in a.signature z.requires.readable.limited a.sheet.now in
    let n = count-signature_in a.all z.requires.limited a.sheet.now in
    let l = c.loop-at in
    let ws = clause_words (helper_clause a.place (term_at g a.sheet.now a.term)) in (
      z.requires.limited,
      (
        code-there g g⁺ a.sheet.now ws a.term.to l.at l.words l.invariant c.next_word-word.result c.next_word-word.ensures a.all.count (omega (arith, m, z.requires.fewer)),
        words-bounded g g⁺ a.sheet.now ws a.term.to l.at l.words l.invariant,
      ),
    )

pub returns-then-words-gt-MAX_WORDS : goal.returns-then-words-gt-MAX_WORDS
returns-then-words-gt-MAX_WORDS c = let z = c in
    let a = z.args in
    let g = signature_in a.sheet.now a.signature in
    let g⁺ = signature_in a.sheet.now a.all in
    let m = count-signature_in a.signature z.requires.readable.limited a.sheet.now in
    let n = count-signature_in a.all z.requires.limited a.sheet.now in
    let l = c.loop-at in
    let ws = clause_words (helper_clause a.place (term_at g a.sheet.now a.term)) in
    overlong g g⁺ a.sheet.now ws a.term.to l.at l.words l.invariant c.next_word-word.result c.next_word-word.ensures c.with_code-words.result (c.with_code-words.ensures a.sheet.now) c.if-words-gt-MAX_WORDS.true

pub overflow_add-at : goal.overflow_add-at
overflow_add-at c = let z = c in omega (arith, z.well_formed, z.requires.there.within.to, c.next_word-word.ensures.within)

pub loop-at-smaller : goal.loop-at-smaller
loop-at-smaller c = let l = c.loop-at in
    omega (arith, c.loop-at-test.true, c.next_word-word.ensures.from)

pub loop-at-preserved : goal.loop-at-preserved
loop-at-preserved c = let z = c in
    let a = z.args in
    let g = signature_in a.sheet.now a.signature in
    let g⁺ = signature_in a.sheet.now a.all in
    let m = count-signature_in a.signature z.requires.readable.limited a.sheet.now in
    let n = count-signature_in a.all z.requires.limited a.sheet.now in
    let l = c.loop-at in
    let ws = clause_words (helper_clause a.place (term_at g a.sheet.now a.term)) in
    goes_on g g⁺ a.sheet.now ws a.term.to l.at l.words l.invariant c.next_word-word.result c.next_word-word.ensures c.with_code-words.result (c.with_code-words.ensures a.sheet.now)
    (omega (arith, n, z.requires.limited.count)) (omega (arith, m, n, z.requires.fewer)) c.if-words-gt-MAX_WORDS.false

pub returns : goal.returns
returns c = let z = c in
    let a = z.args in
    let g = signature_in a.sheet.now a.signature in
    let g⁺ = signature_in a.sheet.now a.all in
    let m = count-signature_in a.signature z.requires.readable.limited a.sheet.now in
    let n = count-signature_in a.all z.requires.limited a.sheet.now in
    let l = c.loop-at in
    let ws = clause_words (helper_clause a.place (term_at g a.sheet.now a.term)) in
    ends g g⁺ a.sheet.now ws a.term.to l.at l.words l.invariant c.loop-at-test.false
