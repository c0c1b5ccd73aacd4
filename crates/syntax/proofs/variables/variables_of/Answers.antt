use mathlib.Core.Path.{◌≡◌}
use mathlib.Core.List.{map}
use native.Mathlib.Numerals.{add-one}
use native.Mathlib.Omega.{arith}
use lib.ListN.{length, take}
use borrow.Author.Rules.{rules}
use Rattle.syntax.specs.Codes.{code_word}
use Rattle.syntax.specs.Variables.{letters_of, variables_in}
use Rattle.syntax.proofs.Places.{few, none-placed, letters-below, letters-more}
use Rattle.syntax.proofs.variables.variables_of.Goals as goal

pub loop-i-init : goal.loop-i-init
loop-i-init c = none-placed

pub with_word-found-requires : goal.with_word-found-requires
with_word-found-requires c = let s = c in
    let l = c.loop-i in
    let ns = s.args.c.words in
    let k = letters-below ns l.i (λ j h. s.requires.1 j (omega arith)) in
    (s.requires.1 l.i (omega arith), omega (arith, l.invariant.count, few (letters_of (map code_word (take l.i ns))) k l.found l.invariant))

pub loop-i-preserved : goal.loop-i-preserved
loop-i-preserved c = let s = c in
    let l = c.loop-i in
    let ns = s.args.c.words in
    let n : length ns ≡ 64 = search rules in
    rw (add-one, letters-more ns l.i (omega arith))
    (c.with_word-found.ensures (letters_of (map code_word (take l.i ns))) (letters-below ns l.i (λ j h. s.requires.1 j (omega arith))) l.invariant)

pub returns : goal.returns
unfolding variables_in
returns c = let e : c.loop-i.i ≡ c.args.c.count = omega arith in
    rw e at c.loop-i.invariant
