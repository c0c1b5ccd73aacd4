-- `hold_line` reads the clause plain, or holds it to the limits of the mode.
use mathlib.Core.Path.{sym, subst}
use mathlib.Core.Bool.{Bool}
use Rattle.text.specs.Lines.{part}
use Rattle.syntax.specs.Signatures.{signature_in}
use Rattle.problem.specs.ClausePlaces.{LineHeld}
use Rattle.problem.proofs.ClausePlaces.{plain-held, plain-refused}
use Rattle.problem.proofs.clause_lines.hold_line.Goals as goal
use Rattle.std.proofs.lemmas.Result.{err_from_is_err_and}

pub returns-then-named : goal.returns-then-named
returns-then-named c = let a = c.args in
    subst (λ (b : Bool). LineHeld b (signature_in a.sheet.now a.signature) (part a.sheet.now a.from a.end) c.hold_named.result) (sym c.if-named.true) c.hold_named.ensures

pub returns-in_err-read_clause : goal.returns-in_err-read_clause
returns-in_err-read_clause c = let a = c.args in
    let g = signature_in a.sheet.now a.signature in
    let v = part a.sheet.now a.from a.end in
    let p = err_from_is_err_and c.from_residual.result c.from_residual.ensures.1 in rw (p.1, p.2, c.if-named.false) (plain-refused g v _ (rw c.in_err-read_clause.was at c.read_clause.ensures))

pub returns : goal.returns
returns c = let a = c.args in
    let g = signature_in a.sheet.now a.signature in
    let v = part a.sheet.now a.from a.end in
    rw c.if-named.false (plain-held g v _ (rw c.in_ok-read_clause.was at c.read_clause.ensures))
