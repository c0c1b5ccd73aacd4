use mathlib.Core.Path.{◌≡◌}
use mathlib.Core.List.{[]}
use native.Mathlib.Numerals.{add-one}
use native.Mathlib.Omega.{arith}
use lib.ListN.{length, get_or}
use Rattle.syntax.specs.Signatures.{signature_in}
use Rattle.clauses.proofs.Held.{blank, arity-at, count-signature_in, symbol_at-signature_in}
use Rattle.interpretation.proofs.Ranks.{table-within}
use Rattle.interpretation.proofs.Tabling.{one-tabled, all-tabled}
use Rattle.interpretation.proofs.tables.tables_of.Goals as goal

pub power-requires : goal.power-requires
power-requires c = let s = c in
    let l = c.loop-i in
    (s.requires.1, omega (arith, arity-at s.args.signature s.requires.0 l.i (omega arith)))

pub overflow_add-t : goal.overflow_add-t
overflow_add-t c = let s = c in
    let l = c.loop-i in
    let y = get_or s.args.signature.symbols l.i blank in
    omega (
      arith,
      (l.invariant []).within,
      c.power.ensures,
      s.requires.0.count,
      table-within s.args.size.0 y.arity s.requires.1 (arity-at s.args.signature s.requires.0 l.i (omega arith)),
    )

pub loop-i-preserved : goal.loop-i-preserved
loop-i-preserved c = let s = c in
    let y = s.args.signature in
    let l = c.loop-i in
    let a = arity-at y s.requires.0 l.i (omega arith) in
    λ sheet.
    rw (add-one, c.power.ensures)
    (one-tabled (signature_in sheet y) s.args.size.0 l.t l.i (get_or y.symbols l.i blank) sheet (l.invariant sheet) (symbol_at-signature_in y s.requires.0 sheet l.i (omega arith))
    (omega (arith, count-signature_in y s.requires.0 sheet)) (omega (arith, s.requires.0.count)) s.requires.1 a)

pub returns : goal.returns
returns c = let s = c in
    let y = s.args.signature in
    λ sheet.
    let e : c.loop-i.i ≡ length (signature_in sheet y) = omega (arith, count-signature_in y s.requires.0 sheet) in
    all-tabled (signature_in sheet y) s.args.size.0 c.loop-i.t (omega (arith, count-signature_in y s.requires.0 sheet, s.requires.0.count)) (rw e at (c.loop-i.invariant sheet))
