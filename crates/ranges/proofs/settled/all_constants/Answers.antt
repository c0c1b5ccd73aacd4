use mathlib.Core.Path.{◌≡◌, refl, sym, ap, ◌∙◌}
use native.Mathlib.Numerals.{add-one}
use native.Mathlib.Omega.{arith}
use lib.ListN.{length, get_or}
use Rattle.syntax.specs.Signatures.{signature_in}
use Rattle.clauses.proofs.Held.{blank, count-signature_in, symbol_at-signature_in}
use Rattle.ranges.proofs.Constants.{constants_from, constants-pass, constants-fail, constants-end}
use Rattle.ranges.proofs.settled.all_constants.Goals as goal

pub loop-i-init : goal.loop-i-init
loop-i-init c = λ sheet. refl

pub returns-then-takes_arguments : goal.returns-then-takes_arguments
returns-then-takes_arguments c = let y = c.args.signature in
    let h = c.requires in
    let l = c.loop-i in
    λ sheet.
    sym
    (l.invariant sheet
    ∙ constants-fail (signature_in sheet y) l.i (omega (arith, count-signature_in y h sheet)) sheet (get_or y.symbols l.i blank) (symbol_at-signature_in y h sheet l.i (omega arith))
    (sym c.takes_arguments.ensures ∙ c.if-takes_arguments.true))

pub loop-i-preserved : goal.loop-i-preserved
loop-i-preserved c = let y = c.args.signature in
    let h = c.requires in
    let l = c.loop-i in
    λ sheet.
    rw add-one
    (l.invariant sheet
    ∙ constants-pass (signature_in sheet y) l.i (omega (arith, count-signature_in y h sheet)) sheet (get_or y.symbols l.i blank) (symbol_at-signature_in y h sheet l.i (omega arith))
    (sym c.takes_arguments.ensures ∙ c.if-takes_arguments.false))

pub returns : goal.returns
returns c = let y = c.args.signature in
    let l = c.loop-i in
    λ sheet.
    let e : l.i ≡ length (signature_in sheet y) = omega (arith, count-signature_in y c.requires sheet) in
    sym (l.invariant sheet ∙ ap (constants_from (signature_in sheet y)) e ∙ constants-end (signature_in sheet y))
