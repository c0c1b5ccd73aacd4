use Prim.Native.Nat.{◌-◌}
use native.Mathlib.Omega.{arith}
use lib.ListN.{get_or}
use Rattle.clauses.proofs.Held.{blank, arity-at, name-within}
use Rattle.interpretation.proofs.Ranks.{table-within}
use Rattle.cases.proofs.Lengths.{none-measured, one-measured, all-measured}
use Rattle.cases.proofs.writing.case_length.Goals as goal

pub loop-i-init : goal.loop-i-init
loop-i-init c = none-measured c.args.size.0 c.args.signature

pub offset_bounds-signature-i : goal.offset_bounds-signature-i
offset_bounds-signature-i c = omega (arith, c.requires.1.1.0.limited.count)

pub bounds-signature-i : goal.bounds-signature-i
bounds-signature-i c = omega (arith, c.loop-i-test.true, c.requires.1.1.0.limited.count)

pub overflow_add-n : goal.overflow_add-n
overflow_add-n c = let s = c in
    let l = c.loop-i in
    omega (arith, l.invariant.within, s.requires.1.1.0.limited.count, name-within s.requires.1.0 s.args.signature s.requires.1.1.0 l.i c.loop-i-test.true, s.requires.1.1.1)

pub overflow_add-n-in-loop-i : goal.overflow_add-n-in-loop-i
overflow_add-n-in-loop-i c = let s = c in
    let l = c.loop-i in
    omega (
      arith,
      c.power.ensures,
      table-within s.args.size.0 (get_or s.args.signature.symbols l.i blank).arity s.requires.0 (arity-at s.args.signature s.requires.1.1.0.limited l.i c.loop-i-test.true),
      name-within s.requires.1.0 s.args.signature s.requires.1.1.0 l.i c.loop-i-test.true,
      s.requires.1.1.1,
    )

pub overflow_cast-symbol : goal.overflow_cast-symbol
overflow_cast-symbol c = let s = c in
    omega (arith, arity-at s.args.signature s.requires.1.1.0.limited c.loop-i.i c.loop-i-test.true)

pub power-requires : goal.power-requires
power-requires c = let s = c in
    (s.requires.0, omega (arith, arity-at s.args.signature s.requires.1.1.0.limited c.loop-i.i c.loop-i-test.true))

pub overflow_mul-n : goal.overflow_mul-n
overflow_mul-n c = let s = c in
    let l = c.loop-i in
    omega (
      arith,
      c.power.ensures,
      table-within s.args.size.0 (get_or s.args.signature.symbols l.i blank).arity s.requires.0 (arity-at s.args.signature s.requires.1.1.0.limited l.i c.loop-i-test.true),
    )

pub overflow_add-n-in-loop-i-2 : goal.overflow_add-n-in-loop-i-2
overflow_add-n-in-loop-i-2 c = let s = c in
    let l = c.loop-i in
    let t = c.loop-i-test.true in
    omega (
      arith,
      c.power.ensures,
      table-within s.args.size.0 (get_or s.args.signature.symbols l.i blank).arity s.requires.0 (arity-at s.args.signature s.requires.1.1.0.limited l.i t),
      l.invariant.within,
      s.requires.1.1.0.limited.count,
      name-within s.requires.1.0 s.args.signature s.requires.1.1.0 l.i t,
      s.requires.1.1.1,
    )

pub loop-i-preserved : goal.loop-i-preserved
loop-i-preserved c = let s = c in
    let l = c.loop-i in
    let t = c.loop-i-test.true in
    rw c.power.ensures
    (one-measured s.args.size.0 s.args.signature l.i l.n t
    (table-within s.args.size.0 (get_or s.args.signature.symbols l.i blank).arity s.requires.0 (arity-at s.args.signature s.requires.1.1.0.limited l.i t))
    (omega (arith, name-within s.requires.1.0 s.args.signature s.requires.1.1.0 l.i t, s.requires.1.1.1)) l.invariant)

pub returns : goal.returns
returns c = let s = c in
    let l = c.loop-i in
    all-measured s.args.size.0 s.args.signature l.i l.n (omega arith) l.invariant
