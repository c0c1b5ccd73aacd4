use Prim.Native.Nat.{◌≤◌}
use mathlib.Core.Path.{◌≡◌, sym, subst}
use native.Mathlib.Omega.{arith}
use lib.ListN.{length}
use borrow.Author.Rules.{rules}
use Rattle.syntax.proofs.Clauses.{codes_below}
use Rattle.shallow.specs.Flattenable.{Flattenable}
use Rattle.shallow.proofs.Progress.{Progress, next-literal, literal-there, further, progress-more, progress_start, merged-flattenable, clause-lifted, own-few}
use Rattle.shallow.proofs.literals.lift.Goals as goal

pub merged-m-requires : goal.merged-m-requires
merged-m-requires c = c.requires.clause.fits

pub variables_of-variables-requires : goal.variables_of-variables-requires
variables_of-variables-requires c = let s = c.requires in
    let m = c.merged-m.result in
    let h = c.merged-m.ensures s.signature s.clause in
    let n : length m.words ≡ 64 = search rules in
    (h.is_clause.fits, codes_below s.signature m h.is_clause s.small.symbols (omega (arith, h.is_clause.fits)))

pub overflow_cast-variables : goal.overflow_cast-variables
overflow_cast-variables c = let s = c.requires in
    let m = c.merged-m in
    let h = m.ensures s.signature s.clause in
    let n : length m.result.words ≡ 64 = search rules in
    omega (arith, c.variables_of-variables.ensures.count, own-few (merged-flattenable s h) (omega (arith, h.is_clause.fits)))

pub start-state-requires : goal.start-state-requires
start-state-requires c = tt

pub loop-state-init : goal.loop-state-init
loop-state-init c = let v = c.variables_of-variables in (
  search rules,
  search rules,
  v.ensures.places,
  λ s. subst (Progress s) (sym c.start-state.ensures) (progress_start s v.result.count v.ensures.count),
)

pub lift_literal-state-requires : goal.lift_literal-state-requires
lift_literal-state-requires c = let i = c.loop-state.invariant in
    let m = c.merged-m.result in
    let v = c.variables_of-variables.result in
    let z = c.requires in
    let s = merged-flattenable z (c.merged-m.ensures z.signature z.clause) in
    let fits : m.count ≤ length m.words = omega (arith, i.0, s.clause.fits) in
    let eight : 8 ≤ length v.place = omega (arith, i.1) in
    literal-there s v.place fits eight i.2 (i.3 s) (next-literal s fits (i.3 s) c.loop-state-test.true)

pub loop-state-smaller : goal.loop-state-smaller
loop-state-smaller c = let i = c.loop-state.invariant in
    let m = c.merged-m.result in
    let v = c.variables_of-variables.result in
    let z = c.requires in
    let s = merged-flattenable z (c.merged-m.ensures z.signature z.clause) in
    let fits : m.count ≤ length m.words = omega (arith, i.0, s.clause.fits) in
    let eight : 8 ≤ length v.place = omega (arith, i.1) in
    let n = next-literal s fits (i.3 s) c.loop-state-test.true in
    let r = c.lift_literal-state in
    omega (arith, c.loop-state-test.true, further s v.place fits eight i.2 (i.3 s) n r.result (r.ensures (literal-there s v.place fits eight i.2 (i.3 s) n)))

pub loop-state-preserved : goal.loop-state-preserved
loop-state-preserved c = let i = c.loop-state.invariant in
    let m = c.merged-m.result in
    let v = c.variables_of-variables.result in
    let r = c.lift_literal-state in
    let go : (s : Flattenable c.args.arities.now m) → Progress s r.result =
    λ s.
    let fits : m.count ≤ length m.words = omega (arith, i.0, s.clause.fits) in
    let eight : 8 ≤ length v.place = omega (arith, i.1) in
    let n = next-literal s fits (i.3 s) c.loop-state-test.true in
    progress-more s v.place fits eight i.2 (i.3 s) n r.result (r.ensures (literal-there s v.place fits eight i.2 (i.3 s) n)) in
    (i.0, i.1, i.2, go)

pub returns : goal.returns
returns c s = let i = c.loop-state.invariant in
    let m = c.merged-m in
    let h = m.ensures s.signature s.clause in
    clause-lifted s h (omega (arith, i.0, h.is_clause.fits)) (i.3 (merged-flattenable s h)) c.loop-state-test.false
