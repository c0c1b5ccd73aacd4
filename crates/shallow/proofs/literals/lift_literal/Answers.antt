use mathlib.Core.Path.{sym, subst}
use native.Mathlib.Omega.{arith}
use Rattle.shallow.specs.Shallow.{LiteralMade}
use Rattle.shallow.proofs.Atoms.{atom-before-end, equality-atom, equality-there, equality-made, inside-arities, predicate-atom, predicate-there, predicate-made}
use Rattle.shallow.proofs.literals.lift_literal.Goals as goal

-- `lift_literal` meets its contract.
pub bounds-reading-at : goal.bounds-reading-at
bounds-reading-at c = omega (arith, atom-before-end c.requires, c.requires.source.fits)

pub overflow_add-p : goal.overflow_add-p
overflow_add-p c = omega (arith, atom-before-end c.requires, c.requires.source.short)

pub bounds-reading-at-2 : goal.bounds-reading-at-2
bounds-reading-at-2 c = omega (arith, atom-before-end c.requires, c.requires.source.fits)

pub overflow_add-at : goal.overflow_add-at
overflow_add-at c = omega (arith, atom-before-end c.requires, c.requires.source.short)

pub lift_equality-requires : goal.lift_equality-requires
lift_equality-requires c = let s = c.requires in
    equality-there s (equality-atom s c.if-p.true)

pub returns-then-p : goal.returns-then-p
returns-then-p c s = let q = equality-atom s c.if-p.true in
    equality-made s q c.lift_equality.result (c.lift_equality.ensures (equality-there s q))

pub overflow_add-at-2 : goal.overflow_add-at-2
overflow_add-at-2 c = omega (arith, atom-before-end c.requires, c.requires.source.short)

pub bounds-reading-i : goal.bounds-reading-i
bounds-reading-i c = let s = c.requires in
    inside-arities s (predicate-atom s c.if-p.false)

pub lift_terms-r-requires : goal.lift_terms-r-requires
lift_terms-r-requires c = let s = c.requires in
    predicate-there s (predicate-atom s c.if-p.false)

pub with-requires : goal.with-requires
with-requires c = c.requires.space

pub returns : goal.returns
returns c s = let q = predicate-atom s c.if-p.false in
    let r = c.lift_terms-r in
    subst (LiteralMade s) (sym c.with.ensures) (predicate-made s q r.result r.new.table (r.ensures (predicate-there s q)))
