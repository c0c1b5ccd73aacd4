use native.Mathlib.Omega.{arith}
use Rattle.syntax.specs.Signatures.{signature_in}
use mathlib.Core.Path.{sym, ◌∙◌}
use mathlib.Core.Bool.{true, false}
use Rattle.clauses.proofs.Held.{count-signature_in, name-within}
use Rattle.clauses.proofs.Naming.{name-here, name-nowhere, name-on, same_at, found-here, found-none}
use Rattle.clauses.proofs.names.find_name.Goals as goal

pub loop-i-init : goal.loop-i-init
loop-i-init c = λ r z. z

pub is_named-requires : goal.is_named-requires
is_named-requires c = let z = c in name-within z.args.sheet.now z.args.signature z.requires c.loop-i.i (omega arith)

pub returns-then-is_named : goal.returns-then-is_named
returns-then-is_named c = let z = c in
    let l = c.loop-i in
    let g = signature_in z.args.sheet.now z.args.signature in
    let h = same_at z.args.name.now z.args.sheet.now z.args.signature z.requires.limited l.i true (omega arith) (sym c.is_named.ensures ∙ c.if-is_named.true) in
    record {
      place = found-here z.args.name.now z.args.sheet.now z.args.signature z.requires.limited l.i (omega arith)
          (l.invariant l.i (name-here z.args.name.now g l.i (omega (arith, count-signature_in z.args.signature z.requires.limited z.args.sheet.now)) h));
      within = omega arith;
    }

pub loop-i-preserved : goal.loop-i-preserved
loop-i-preserved c = let z = c in
    let l = c.loop-i in
    let g = signature_in z.args.sheet.now z.args.signature in
    let h = same_at z.args.name.now z.args.sheet.now z.args.signature z.requires.limited l.i false (omega arith) (sym c.is_named.ensures ∙ c.if-is_named.false) in
    λ r k. l.invariant r (name-on z.args.name.now g l.i r (omega (arith, count-signature_in z.args.signature z.requires.limited z.args.sheet.now)) h k)

pub returns-clause-place : goal.returns-clause-place
returns-clause-place c = let z = c in
    let l = c.loop-i in
    let g = signature_in z.args.sheet.now z.args.signature in
    found-none z.args.name.now z.args.sheet.now z.args.signature z.requires.limited l.i (omega arith)
    (l.invariant l.i (name-nowhere z.args.name.now g l.i (omega (arith, count-signature_in z.args.signature z.requires.limited z.args.sheet.now))))
