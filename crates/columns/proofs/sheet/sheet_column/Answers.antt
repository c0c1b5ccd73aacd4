use Prim.Native.Nat.{◌≤◌, ◌<◌}
use mathlib.Core.Path.{◌≡◌, ap}
use mathlib.Core.Logic.{◌⊎◌, inl, inr}
use native.Mathlib.Omega.{arith}
use Rattle.syntax.specs.declared.faults.Fault.{Fault}
use Rattle.syntax.specs.declared.faults.Fault.TheVariants as fault
use Rattle.syntax.specs.Faults.{number_of}
use Rattle.columns.proofs.FaultNumbers.{same-number}
use Rattle.columns.proofs.SheetRefused.{lineless, early, byte-refused, byte-told, words-refused, words-told}
use Rattle.columns.proofs.sheet.sheet_column.Goals as goal

-- what is refused of a clause has a number of 5 to 7
late : (f : Fault) → (f ≡ fault.Word) ⊎ ((f ≡ fault.Clause) ⊎ (f ≡ fault.ClauseLimits)) → 5 ≤ number_of f
late f (inl e) = omega (arith, ap number_of e)
late f (inr (inl e)) = omega (arith, ap number_of e)
late f (inr (inr e)) = omega (arith, ap number_of e)

-- `sheet_column` looks at the line.
pub returns-then-line-eq0 : goal.returns-then-line-eq0
returns-then-line-eq0 c = let a = c.args in lineless a.sheet.now (number_of a.fault) a.line c.if-line-eq0.true

pub word_column-requires : goal.word_column-requires
word_column-requires c = let z = c in let a = z.args in
    let s = c.symbols_again-signature in
    (s.ensures.readable, words-refused a.sheet.now (number_of a.fault) a.line c.line_at-there.result z.requires c.if-line-eq0.false c.line_at-there.ensures (late a.fault c.in-Word.is) s.result s.ensures)

pub returns-in-Word : goal.returns-in-Word
returns-in-Word c = let z = c in let a = z.args in
    let s = c.symbols_again-signature in
    words-told a.sheet.now (number_of a.fault) a.line c.line_at-there.result z.requires c.if-line-eq0.false c.line_at-there.ensures (late a.fault c.in-Word.is) s.result s.ensures c.word_column.result c.word_column.ensures

pub symbols_again-signature-requires : goal.symbols_again-signature-requires
symbols_again-signature-requires c = record { number = number_of c.args.fault; line = c.args.line; late = late c.args.fault c.in-Word.is; refusal = c.requires }

pub byte_column-requires : goal.byte_column-requires
byte_column-requires c = let z = c in let a = z.args in
    let d = c.in_default in
    let n = number_of a.fault in
    let there = c.line_at-there in
    let early : n < 5 = early a.sheet.now n a.line there.result z.requires c.if-line-eq0.false there.ensures (λ e. d.not-Word (same-number a.fault fault.Word e)) (λ e. d.not-Clause (same-number a.fault fault.Clause e))
    (λ e. d.not-ClauseLimits (same-number a.fault fault.ClauseLimits e)) in
    byte-refused a.sheet.now n a.line there.result z.requires c.if-line-eq0.false there.ensures c.due_in_sheet-due.result c.due_in_sheet-due.ensures early

pub returns-in_default : goal.returns-in_default
returns-in_default c = let z = c in let a = z.args in
    byte-told a.sheet.now (number_of a.fault) a.line c.line_at-there.result z.requires c.if-line-eq0.false c.line_at-there.ensures c.due_in_sheet-due.result c.due_in_sheet-due.ensures c.byte_column.result c.byte_column.ensures
