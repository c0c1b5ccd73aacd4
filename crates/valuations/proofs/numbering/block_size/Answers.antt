-- `block_size` meets its contract.
use Prim.Native.Nat.{◌*◌, ◌^◌}
use mathlib.Core.Path.{◌≡◌}
use Rattle.theory.specs.Propositional as theory
use Rattle.syntax.specs.Signatures.{kind_of}
use native.Mathlib.Omega.{arith}
use Rattle.interpretation.proofs.Ranks.{table-within}
use Rattle.valuations.proofs.Numbered.{block_within}
use Rattle.valuations.proofs.numbering.block_size.Goals as goal

pub overflow_cast-cells : goal.overflow_cast-cells
overflow_cast-cells c = let s = c in
    omega (arith, c.power-cells.ensures, table-within s.args.size.0 s.args.symbol.arity s.requires.1 s.requires.0)

pub overflow_mul-result : goal.overflow_mul-result
overflow_mul-result c = let s = c in
    let e : c.power-cells.result * c.width.result ≡ s.args.size.0 ^ s.args.symbol.arity * theory.width s.args.size.0 (kind_of s.args.symbol.function) = rw (c.power-cells.ensures, c.width.ensures) in
    omega (arith, block_within s.args.size.0 s.args.symbol.arity s.args.symbol.function s.requires.1 s.requires.0)
