-- `read_lines` looks at the length and the first line, then at the rest.
use mathlib.Core.Path.{sym}
use native.Mathlib.Omega.{arith}
use Rattle.theory.specs.Bytes.{bytes}
use Rattle.text.proofs.Part.{length_part}
use Rattle.problem.specs.Lines.{KeyRead}
use Rattle.problem.proofs.ClauseTaking.{reading-refused}
use Rattle.problem.proofs.WholeSheet.{sheet-long, sheet-unkeyed, sheet-longer, sheet-begun, begun}
use Rattle.problem.proofs.sheet.read_lines.Goals as goal

pub returns-then-sheet-gt-MAX_BYTES : goal.returns-then-sheet-gt-MAX_BYTES
returns-then-sheet-gt-MAX_BYTES c = let z = c in
    rw c.whole.ensures (reading-refused z.args.named z.args.sheet.now _ _ (sheet-long z.args.named z.args.sheet.now c.if-sheet-gt-MAX_BYTES.true))

pub returns-then-from-end : goal.returns-then-from-end
returns-then-from-end c = let z = c in
    let k : KeyRead z.args.sheet.now 0 (bytes "sheet=1") _ = rw c.in-Some.is at c.key_line.ensures in
    reading-refused z.args.named z.args.sheet.now _ _ (sheet-longer z.args.named z.args.sheet.now c.if-sheet-gt-MAX_BYTES.false _ _ (sym (k.read 1)) (omega (arith, length_part z.args.sheet.now _ _ k.within.0.from k.within.0.within, c.if-from-end.true)))

pub overflow_add-end : goal.overflow_add-end
overflow_add-end c = let z = c in
    let k : KeyRead z.args.sheet.now 0 (bytes "sheet=1") _ = rw c.in-Some.is at c.key_line.ensures in
    omega (arith, k.within.1, z.well_formed)

pub functions_from-requires : goal.functions_from-requires
functions_from-requires c = let z = c in
    let k : KeyRead z.args.sheet.now 0 (bytes "sheet=1") _ = rw c.in-Some.is at c.key_line.ensures in
    omega (arith, k.within.1)

pub returns-in_default : goal.returns-in_default
returns-in_default c = let z = c in
    let k : KeyRead z.args.sheet.now 0 (bytes "sheet=1") _ = c.in_default.ensures in
    reading-refused z.args.named z.args.sheet.now _ _ (sheet-unkeyed z.args.named z.args.sheet.now c.if-sheet-gt-MAX_BYTES.false (sym (k.read 1)))

pub returns : goal.returns
returns c = let z = c in
    let k : KeyRead z.args.sheet.now 0 (bytes "sheet=1") _ = rw c.in-Some.is at c.key_line.ensures in
    begun z.args.named z.args.sheet.now _ _ c.functions_from.result (sheet-begun z.args.named z.args.sheet.now c.if-sheet-gt-MAX_BYTES.false _ _ (sym (k.read 1)) (omega (arith, length_part z.args.sheet.now _ _ k.within.0.from k.within.0.within, c.if-from-end.false))) c.functions_from.ensures
