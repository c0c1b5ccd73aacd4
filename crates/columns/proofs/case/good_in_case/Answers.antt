-- `good_in_case` goes by the line's number.
use Prim.Native.Nat.{◌-◌}
use native.Mathlib.Omega.{arith}
use Rattle.syntax.specs.Signatures.{signature_in}
use Rattle.clauses.proofs.Held.{arity-at, count-signature_in, symbol_at-signature_in, name-within}
use Rattle.columns.proofs.CaseLines.{none-due, table-due}
use Rattle.columns.proofs.case.good_in_case.Goals as goal

pub returns-then-signature-l : goal.returns-then-signature-l
returns-then-signature-l c = let z = c in let a = z.args in
    none-due a.size.0 (signature_in a.sheet.now a.signature) a.l a.line.now c.if-l-eq0.false c.if-l-eq1.false (omega (arith, count-signature_in a.signature z.requires.0.limited a.sheet.now, c.if-signature-l.true))

pub good_table-requires : goal.good_table-requires
good_table-requires c = let z = c in let a = z.args in
    (name-within a.sheet.now a.signature z.requires.0 (a.l - 2) (omega arith), (arity-at a.signature z.requires.0.limited (a.l - 2) (omega arith), z.requires.1))

pub returns : goal.returns
returns c = let z = c in let a = z.args in
    table-due a.size.0 (signature_in a.sheet.now a.signature) a.l a.line.now c.if-l-eq0.false c.if-l-eq1.false c.good_table.result _
    (omega (arith, count-signature_in a.signature z.requires.0.limited a.sheet.now)) (symbol_at-signature_in a.signature z.requires.0.limited a.sheet.now (a.l - 2) (omega arith)) c.good_table.ensures
