use Prim.Native.Nat.{ℕ}
use mathlib.Core.Path.{ap, subst}
use native.Mathlib.Omega.{arith}
use Rattle.columns.specs.Words.{with_word, are_over}
use Rattle.columns.proofs.WordFaults.{counted, words-over, literals-over, none_over, signs-small}
use Rattle.columns.proofs.WordWalk.{Passing, starts, none-left, same_line, nearer, stopped, passed}
use Rattle.columns.proofs.words.first_over.Goals as goal

pub loop-reader-init : goal.loop-reader-init
loop-reader-init c = let e = c.new-reader.ensures in (ap (λ (b : _). b.now) e.0, (starts _ _ _ _ _ e.1, (omega arith, omega arith)))

pub loop-reader-smaller : goal.loop-reader-smaller
loop-reader-smaller c = nearer with_word are_over (0, 0) c.args.value.now _ _ c.loop-reader.invariant.0 c.next-step.ensures

pub returns-then-words-gt-MAX_WORDS : goal.returns-then-words-gt-MAX_WORDS
returns-then-words-gt-MAX_WORDS c = let l = c.loop-reader in
    stopped _ _ _ _ _ _ l.invariant.0 c.next-step.ensures (l.words, l.literals) l.invariant.1.0 (words-over l.words l.literals c.next-step.result.word.now c.if-words-gt-MAX_WORDS.true)

pub overflow_add-literals : goal.overflow_add-literals
overflow_add-literals c = omega (arith, signs-small c.next-step.result.word.now, c.signs_in-literals.ensures)

pub returns-then-literals-gt-MAX_LITERALS : goal.returns-then-literals-gt-MAX_LITERALS
returns-then-literals-gt-MAX_LITERALS c = let l = c.loop-reader in
    let s = c.signs_in-literals in
    stopped _ _ _ _ _ _ l.invariant.0 c.next-step.ensures (l.words, l.literals) l.invariant.1.0 (literals-over l.words l.literals s.result c.next-step.result.word.now s.ensures c.if-literals-gt-MAX_LITERALS.true)

pub loop-reader-preserved : goal.loop-reader-preserved
loop-reader-preserved c = let l = c.loop-reader in
    let t = c.next-step in
    let s = c.signs_in-literals in (
      same_line with_word are_over (0, 0) c.args.value.now _ _ l.invariant.0 t.ensures,
      (
        subst (λ (n : ℕ × ℕ). Passing with_word are_over (0, 0) c.args.value.now n t.result.rest.at) (counted l.words l.literals s.result c.next-step.result.word.now s.ensures)
            (passed _ _ _ _ _ _ l.invariant.0 t.ensures (l.words, l.literals) l.invariant.1.0 (none_over l.words l.literals s.result c.next-step.result.word.now s.ensures (omega arith) (omega arith))),
        (omega arith, omega arith),
      ),
    )

pub returns : goal.returns
returns c = let l = c.loop-reader in none-left _ _ _ _ (l.words, l.literals) l.reader _ l.invariant.0 l.invariant.1.0 c.has_word.ensures c.loop-reader-test.false
