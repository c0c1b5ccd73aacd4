use mathlib.Core.List.{[]}
use native.Mathlib.Omega.{arith}
use lib.ListN.{get_or}
use Rattle.syntax.specs.Signatures.{signature_in}
use Rattle.clauses.proofs.Held.{blank, arity-at, count-signature_in, symbol_at-signature_in}
use Rattle.counts.proofs.Adding.{none-total, one_function, all-functions, symbol-total}
use Rattle.counts.proofs.function_counts.Goals as goal

pub loop-i-init : goal.loop-i-init
loop-i-init c = λ sheet. none-total c.default-total.result (omega arith) (omega arith)

pub symbol_counts-one-requires : goal.symbol_counts-one-requires
symbol_counts-one-requires c = let z = c in
    (arity-at z.args.signature z.requires.0 c.loop-i.i (omega arith), z.requires.1)

pub add-total-requires : goal.add-total-requires
add-total-requires c = let z = c in
    let t = c.loop-i.invariant [] in
    let e = c.symbol_counts-one.ensures in
    (omega (arith, t.few-instances, z.requires.0.count, e.small.0), omega (arith, t.few-literals, z.requires.0.count, e.small.1))

pub loop-i-preserved : goal.loop-i-preserved
loop-i-preserved c = let z = c in
    let y = z.args.signature in
    let l = c.loop-i in
    let b = c.symbol_counts-one in
    let e = b.ensures in
    λ sheet.
    one_function z.args.size.0 (signature_in sheet y) l.i l.total b.result c.add-total.result (l.invariant sheet)
    (symbol-total z.args.size.0 (signature_in sheet y) l.i sheet (get_or y.symbols l.i blank) b.result (symbol_at-signature_in y z.requires.0 sheet l.i (omega arith))
    e.instances e.literals e.small.0 e.small.1) c.add-total.ensures.0 c.add-total.ensures.1

pub returns : goal.returns
returns c = let z = c in
    let y = z.args.signature in
    let l = c.loop-i in
    λ sheet.
    all-functions z.args.size.0 (signature_in sheet y) l.i l.total (omega (arith, count-signature_in y z.requires.0 sheet)) (omega (arith, z.requires.0.count)) (l.invariant sheet)
