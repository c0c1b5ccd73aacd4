-- `letter_of` meets its contract.
use mathlib.Core.Path.{refl}
use native.Mathlib.Omega.{arith}
use Rattle.declaring.proofs.Lettering.{letter-again, letter-ninth, letter-new}
use Rattle.declaring.proofs.letters.letter_of.Goals as goal

pub returns-in-Some : goal.returns-in-Some
returns-in-Some c = let z = c in
    let a = z.args in
    letter-again a.text.now a.letters z.requires.0 _ _ c.in-Some.ensures

pub returns-then-place-ge-MAX_LETTERS : goal.returns-then-place-ge-MAX_LETTERS
returns-then-place-ge-MAX_LETTERS c = let z = c in
    let a = z.args in
    letter-ninth a.text.now a.letters z.requires.0 _ c.in_default.ensures (omega (arith, c.if-place-ge-MAX_LETTERS.true))

pub returns : goal.returns
returns c = let z = c in
    let a = z.args in
    letter-new a.text.now a.letters z.requires.0 _ c.in_default.ensures _ _ refl (omega arith) (omega (arith, c.if-place-ge-MAX_LETTERS.false)) c.with_letter.ensures.count c.with_letter.ensures.names
