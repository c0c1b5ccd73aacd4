-- `with_variable` finds the variable's letter.
use native.Mathlib.Omega.{arith}
use Rattle.scanning.specs.Taking.{name_in}
use Rattle.importing.proofs.Coding.{letter-code, begun-bounded, ready-begun, variable-coded}
use Rattle.importing.proofs.words.with_variable.Goals as goal

pub with_code-requires : goal.with_code-requires
with_code-requires c = let z = c in let a = z.args in let f = (rw c.unwrap-found.ensures at c.letter_of.ensures) in (z.requires.0.readable.limited, (letter-code _ _ f.taken.within, begun-bounded _ _ 66 (omega arith) (ready-begun a.text.now a.signature a.c 66 _ z.requires.0)))

pub returns : goal.returns
returns c = let a = c.args in variable-coded a.text.now a.signature a.c (name_in a.text.now a.start a.end) _ (rw c.unwrap-found.ensures at c.letter_of.ensures) _ c.with_code.ensures
