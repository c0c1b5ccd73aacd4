-- `with_symbol` finds the symbol's place.
use native.Mathlib.Omega.{arith}
use mathlib.Core.Bool.{true}
use Rattle.scanning.specs.Taking.{name_in}
use Rattle.importing.proofs.Coding.{symbol-code, begun-bounded, ready-begun, some-place}
use Rattle.importing.proofs.words.with_symbol.Goals as goal

pub unwrap-place-requires : goal.unwrap-place-requires
unwrap-place-requires c = let z = c in let a = z.args in some-place a.text.now a.signature a.c (name_in a.text.now a.start a.end) _ c.find_name.ensures.place 66 true 0 z.requires.0

pub with_code-requires : goal.with_code-requires
with_code-requires c = let z = c in let a = z.args in let f = (rw c.unwrap-place.ensures at c.find_name.ensures.within) in (z.requires.0.readable.limited, (symbol-code _ _ f, begun-bounded _ _ 66 (omega arith) (ready-begun a.text.now a.signature a.c 66 _ z.requires.0)))
