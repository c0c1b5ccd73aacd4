use borrow.Author.Rules.{rules}
use Prim.Native.Nat.{◌<◌}
use mathlib.Core.Path.{◌≡◌, refl, ap, ◌∙◌}
use native.Mathlib.Omega.{arith}
use lib.ListN.{length, length-set}
use Rattle.judging.proofs.LettersShown.{none_filled, letter-filled, letter-absent, all-filled}
use Rattle.judging.proofs.reasons.letters_of.Goals as goal
use Rattle.judging.proofs.reasons.letters_of.Goals.{then-i-lt-MAX_LETTERS, else-i-lt-MAX_LETTERS}

pub loop-x-init : goal.loop-x-init
loop-x-init c = (search rules, none_filled _)

pub loop-x-preserved : goal.loop-x-preserved
loop-x-preserved c = let l = c.loop-x in
    let z = c in
    let below : l.x < 8 = c.loop-x-test.true in
    elim c.if-i-lt-MAX_LETTERS.branch [
      | then-i-lt-MAX_LETTERS w ↦ (ap length w.letters-is ∙ simp length-set l.invariant.0, rw w.letters-is (letter-filled z.args.variables l.x below l.letters l.invariant.1 _ refl w.if-i-lt-MAX_LETTERS.true))
      | else-i-lt-MAX_LETTERS w ↦ (ap length w.letters-is ∙ l.invariant.0, rw w.letters-is (letter-absent z.args.variables l.x below l.letters l.invariant.1 w.if-i-lt-MAX_LETTERS.false))
    ]

pub returns : goal.returns
returns c = let l = c.loop-x in
    let e : l.x ≡ 8 = omega arith in
    all-filled _ l.letters (rw e at l.invariant.1)
