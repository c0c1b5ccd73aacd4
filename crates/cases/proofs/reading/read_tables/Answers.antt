use Prim.Native.Nat.{ℕ, ◌+◌, ◌<◌}
use mathlib.Core.Path.{◌≡◌, refl, sym, ap, ◌∙◌}
use native.Mathlib.Omega.{arith}
use lib.ListN.{get_or}
use Rattle.theory.specs.Refusals.{refused, at_line}
use Rattle.syntax.specs.Signatures.{symbol_in, signature_in}
use Rattle.clauses.proofs.Held.{blank, arity-at, count-signature_in, symbol_at-signature_in, name-within}
use Rattle.interpretation.proofs.Ranks.{power-within}
use Rattle.interpretation.proofs.Tabling.{base-within, limited-small, table-limited}
use Rattle.cases.proofs.TablesRead.{none_read, table-fault, table-read, bytes_after, case-ends}
use Rattle.clauses.proofs.Refused.{first_refused}
use Rattle.cases.proofs.reading.read_tables.Goals as goal

pub loop-i-init : goal.loop-i-init
loop-i-init c = let s = c in
    let a = s.args in
    (none_read a.size.0 (signature_in a.sheet.now a.signature) a.case.now a.at a.cells.now s.requires.0, refl)

pub bounds-signature-i : goal.bounds-signature-i
bounds-signature-i c = omega (arith, c.requires.1.0.limited.count, c.loop-i-test.true)

pub read_table-requires : goal.read_table-requires
read_table-requires c = let s = c in
    let a = s.args in
    let l = c.loop-i in
    let r = s.requires.1.0 in
    let here : l.i < a.signature.count = c.loop-i-test.true in
    record {
      within = l.invariant.0.within;
      named = name-within a.sheet.now a.signature r l.i here;
      arity = arity-at a.signature r.limited l.i here;
      positive = s.requires.1.1.0;
      size = s.requires.1.1.1.0;
      room =
          omega (
            arith,
            l.invariant.0.based,
            table-limited a.sheet.now a.signature r.limited a.size.0 s.requires.1.1.1.0 l.i here,
            l.invariant.1,
            s.requires.1.1.1.1,
          );
    }

pub overflow_add-result : goal.overflow_add-result
overflow_add-result c = omega (arith, c.requires.1.0.limited.count)

pub returns-in_err-next : goal.returns-in_err-next
returns-in_err-next c = let s = c in
    let a = s.args in
    let l = c.loop-i in
    let r = s.requires.1.0 in
    let here : l.i < a.signature.count = c.loop-i-test.true in
    rw (first_refused _ _ _ c.in_err-next.ensures.ok_part c.ok_or.ensures.value c.in_err-next.was c.from_residual.ensures.1)
    (table-fault l.invariant.0 (omega (arith, count-signature_in a.signature r.limited a.sheet.now)) _ (symbol_at-signature_in a.signature r.limited a.sheet.now l.i here)
    (rw c.in_err-next.ensures.ok_part at c.read_table.ensures))

pub overflow_cast-symbol : goal.overflow_cast-symbol
overflow_cast-symbol c = omega (arith, arity-at c.args.signature c.requires.1.0.limited c.loop-i.i c.loop-i-test.true)

pub power-base-requires : goal.power-base-requires
power-base-requires c = (c.requires.1.1.1.0, omega (arith, arity-at c.args.signature c.requires.1.0.limited c.loop-i.i c.loop-i-test.true))

pub overflow_add-base : goal.overflow_add-base
overflow_add-base c = let s = c in
    let l = c.loop-i in
    let r = s.requires.1.0 in
    let g = limited-small s.args.sheet.now s.args.signature r.limited in
    let here : l.i < s.args.signature.count = c.loop-i-test.true in
    omega (
      arith,
      l.invariant.0.based,
      base-within (signature_in s.args.sheet.now s.args.signature) s.args.size.0 l.i s.requires.1.1.1.0 g l.invariant.0.counted,
      r.limited.count,
      c.power-base.ensures,
      power-within s.args.size.0 (get_or s.args.signature.symbols l.i blank).arity s.requires.1.1.1.0 (omega (arith, arity-at s.args.signature r.limited l.i here)),
    )

pub loop-i-preserved : goal.loop-i-preserved
loop-i-preserved c = let s = c in
    let a = s.args in
    let l = c.loop-i in
    let r = s.requires.1.0 in
    let here : l.i < a.signature.count = c.loop-i-test.true in (
      rw c.power-base.ensures
          (table-read l.invariant.0 (omega (arith, count-signature_in a.signature r.limited a.sheet.now)) (symbol_in a.sheet.now (get_or a.signature.symbols l.i blank)) (symbol_at-signature_in a.signature r.limited a.sheet.now l.i here)
          c.in_ok-next.next (rw c.in_ok-next.ensures.ok_part at c.read_table.ensures)),
      c.read_table.auto.cells ∙ l.invariant.1,
    )

pub shape_of-cells-then-next-case : goal.shape_of-cells-then-next-case
shape_of-cells-then-next-case c = c.loop-i.invariant.1

pub returns-then-next-case : goal.returns-then-next-case
returns-then-next-case c = let s = c in
    let e : c.loop-i.i ≡ s.args.signature.count = omega arith in
    ap (λ (n : ℕ). refused (at_line 12 (3 + n))) (sym e)
    ∙ bytes_after c.loop-i.invariant.0 (omega (arith, count-signature_in s.args.signature s.requires.1.0.limited s.args.sheet.now)) c.if-next-case.true

pub returns : goal.returns
returns c = let s = c in
    let l = c.loop-i in
    case-ends l.invariant.0 (omega (arith, count-signature_in s.args.signature s.requires.1.0.limited s.args.sheet.now)) c.if-next-case.false
