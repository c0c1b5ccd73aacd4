use mathlib.Core.Path.{refl, ◌∙◌}
use native.Mathlib.Omega.{arith}
use Rattle.truth.proofs.Clausewise.{all_left, none_left, literal-here, two-words, variables-lent, true-literal, false-literal, goes_on, terms-lent, top_within, atom-lent, literal-is}
use Rattle.truth.proofs.values.clause_value.Goals as goal

pub loop-at-init : goal.loop-at-init
loop-at-init c = (refl, λ w k. all_left w k)

pub variable_values-span-requires : goal.variable_values-span-requires
variable_values-span-requires c = let z = c.requires in
    let l = c.loop-at in
    let n = literal-here z.0 z.1 l.at c.loop-at-test.true (l.invariant.1 z.0 z.1) in
    (variables-lent z.0 z.1 n, omega (arith, z.0.fits, l.invariant.0))

pub term_values-top-requires : goal.term_values-top-requires
term_values-top-requires c = let z = c.requires in
    let l = c.loop-at in
    let n = literal-here z.0 z.1 l.at c.loop-at-test.true (l.invariant.1 z.0 z.1) in
    let v = c.variable_values-span in
    terms-lent z.0 z.1 n (v.ensures (variables-lent z.0 z.1 n)) (v.auto.values ∙ l.invariant.0)

pub bounds-words-at : goal.bounds-words-at
bounds-words-at c = let z = c.requires in
    let l = c.loop-at in
    let n = literal-here z.0 z.1 l.at c.loop-at-test.true (l.invariant.1 z.0 z.1) in
    omega (arith, two-words z.0 z.1 n)

pub slice_bounds-atom_value-count : goal.slice_bounds-atom_value-count
slice_bounds-atom_value-count c = let z = c.requires in
    let l = c.loop-at in
    let n = literal-here z.0 z.1 l.at c.loop-at-test.true (l.invariant.1 z.0 z.1) in
    let v = c.variable_values-span in
    let t = c.term_values-top in
    top_within z.0 z.1 n (v.ensures (variables-lent z.0 z.1 n)) (v.auto.values ∙ l.invariant.0) (t.ensures (terms-lent z.0 z.1 n (v.ensures (variables-lent z.0 z.1 n)) (v.auto.values ∙ l.invariant.0)))

pub slice_bounds-atom_value-start : goal.slice_bounds-atom_value-start
slice_bounds-atom_value-start c = let z = c.requires in
    let l = c.loop-at in
    let n = literal-here z.0 z.1 l.at c.loop-at-test.true (l.invariant.1 z.0 z.1) in
    let v = c.variable_values-span in
    let t = c.term_values-top in
    top_within z.0 z.1 n (v.ensures (variables-lent z.0 z.1 n)) (v.auto.values ∙ l.invariant.0) (t.ensures (terms-lent z.0 z.1 n (v.ensures (variables-lent z.0 z.1 n)) (v.auto.values ∙ l.invariant.0)))

pub slice_bounds-atom_value-end : goal.slice_bounds-atom_value-end
slice_bounds-atom_value-end c = let z = c.requires in
    let l = c.loop-at in
    let n = literal-here z.0 z.1 l.at c.loop-at-test.true (l.invariant.1 z.0 z.1) in
    let v = c.variable_values-span in
    let t = c.term_values-top in
    omega (arith, (goes_on z.0 z.1 n (v.ensures (variables-lent z.0 z.1 n))).1, z.0.fits, t.auto.values, v.auto.values, l.invariant.0)

pub atom_value-atom-requires : goal.atom_value-atom-requires
atom_value-atom-requires c = let z = c.requires in
    let l = c.loop-at in
    let n = literal-here z.0 z.1 l.at c.loop-at-test.true (l.invariant.1 z.0 z.1) in
    let v = c.variable_values-span in
    let t = c.term_values-top in
    atom-lent z.0 z.1 n (v.ensures (variables-lent z.0 z.1 n)) (v.auto.values ∙ l.invariant.0) (t.ensures (terms-lent z.0 z.1 n (v.ensures (variables-lent z.0 z.1 n)) (v.auto.values ∙ l.invariant.0)))

pub returns-then-literal_value : goal.returns-then-literal_value
returns-then-literal_value c w k = let l = c.loop-at in
    let n = literal-here w k l.at c.loop-at-test.true (l.invariant.1 w k) in
    let x = c.variable_values-span in
    let v = x.ensures (variables-lent w k n) in
    let long = x.auto.values ∙ l.invariant.0 in
    let t = c.term_values-top.ensures (terms-lent w k n v long) in
    true-literal w k n _ (literal-is w k n v long t _ _ c.atom_value-atom.ensures c.literal_value.ensures) c.if-literal_value.true

pub loop-at-smaller : goal.loop-at-smaller
loop-at-smaller c = let z = c.requires in
    let l = c.loop-at in
    let n = literal-here z.0 z.1 l.at c.loop-at-test.true (l.invariant.1 z.0 z.1) in
    let v = c.variable_values-span in
    let g = goes_on z.0 z.1 n (v.ensures (variables-lent z.0 z.1 n)) in
    omega (arith, g.0, g.1)

pub loop-at-preserved : goal.loop-at-preserved
loop-at-preserved c = (
  c.term_values-top.auto.values ∙ c.variable_values-span.auto.values ∙ c.loop-at.invariant.0,
  λ w k.
      let l = c.loop-at in
      let n = literal-here w k l.at c.loop-at-test.true (l.invariant.1 w k) in
      let x = c.variable_values-span in
      let v = x.ensures (variables-lent w k n) in
      let long = x.auto.values ∙ l.invariant.0 in
      let t = c.term_values-top.ensures (terms-lent w k n v long) in
      false-literal w k n v _ (literal-is w k n v long t _ _ c.atom_value-atom.ensures c.literal_value.ensures) c.if-literal_value.false,
)

pub returns : goal.returns
returns c w k = none_left w k c.loop-at.at c.loop-at-test.false (c.loop-at.invariant.1 w k)
