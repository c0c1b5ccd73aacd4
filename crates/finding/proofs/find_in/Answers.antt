-- `find_in` meets its contract: the first check that fails refuses.
use mathlib.Core.Path.{refl}
use native.Mathlib.Omega.{arith}
use lib.ListN.{length}
use Rattle.theory.specs.Refusals.{unplaced, needing}
use Rattle.problem.specs.Problems.{problem_in}
use Rattle.finding.specs.Ending.{found_in, found_within}
use Rattle.finding.proofs.Endings.{ends_as, ends-refused}
use Rattle.finding.proofs.Refusing.{refused-24, refused-9, refused-10, refused-11, searches, work-is, length-is, all-sizes}
use Rattle.finding.proofs.find_in.Goals as goal

pub returns-then-allowance-gt-MAX_ALLOWANCE : goal.returns-then-allowance-gt-MAX_ALLOWANCE
returns-then-allowance-gt-MAX_ALLOWANCE c = let a = c.args in
    ends-refused (found_in a.p.symmetry (problem_in a.sheet.now a.p) a.range.low.0 a.range.high.0 a.allowance) c.at_line.result (unplaced 24) a.work.now a.output.now
    (refused-24 _ _ _ _ _ _ _ (omega (arith, c.if-allowance-gt-MAX_ALLOWANCE.true))) c.at_line.ensures

pub returns-then-c-gt-MAX_INSTANCES : goal.returns-then-c-gt-MAX_INSTANCES
returns-then-c-gt-MAX_INSTANCES c = let a = c.args in
    ends-refused (found_in a.p.symmetry (problem_in a.sheet.now a.p) a.range.low.0 a.range.high.0 a.allowance) c.at_line-then-c-gt-MAX_INSTANCES.result (unplaced 9) a.work.now a.output.now
    (refused-9 _ _ _ _ _ _ _ (omega (arith, c.if-allowance-gt-MAX_ALLOWANCE.false)) (omega (arith, c.counts_at-c.ensures.instances, c.if-c-gt-MAX_INSTANCES.true)))
    c.at_line-then-c-gt-MAX_INSTANCES.ensures

pub returns-then-work-needed : goal.returns-then-work-needed
returns-then-work-needed c = let a = c.args in
    let k = c.counts_at-c in
    let whole = work-is a.sheet.now a.p a.range.high.0 _ _ _ _ (c.numbering_of-n.ensures a.sheet.now).count k.ensures.instances k.ensures.literals c.work_needed-needed.ensures in
    ends-refused (found_in a.p.symmetry (problem_in a.sheet.now a.p) a.range.low.0 a.range.high.0 a.allowance) _ (needing 10 _) a.work.now a.output.now
    (refused-10 _ _ _ _ _ _ _ (omega (arith, c.if-allowance-gt-MAX_ALLOWANCE.false)) (omega (arith, k.ensures.instances, c.if-c-gt-MAX_INSTANCES.false)) (omega (arith, whole))) (cc)

pub returns-then-output-length : goal.returns-then-output-length
returns-then-output-length c = let a = c.args in
    let k = c.counts_at-c in
    let whole = work-is a.sheet.now a.p a.range.high.0 _ _ _ _ (c.numbering_of-n.ensures a.sheet.now).count k.ensures.instances k.ensures.literals c.work_needed-needed.ensures in
    let case = length-is a.sheet.now a.p a.range.high.0 _ _ c.requires.shows refl (c.shown_length-length.ensures a.sheet.now c.requires.accepted.readable) in
    ends-refused (found_in a.p.symmetry (problem_in a.sheet.now a.p) a.range.low.0 a.range.high.0 a.allowance) _ (needing 11 _) a.work.now a.output.now
    (refused-11 _ _ _ _ _ _ _ (omega (arith, c.if-allowance-gt-MAX_ALLOWANCE.false)) (omega (arith, k.ensures.instances, c.if-c-gt-MAX_INSTANCES.false)) (omega (arith, whole)) (omega (arith, case))) (cc)

pub search_sizes-requires : goal.search_sizes-requires
search_sizes-requires c = let a = c.args in
    let k = c.counts_at-c in
    let whole = work-is a.sheet.now a.p a.range.high.0 _ _ _ _ (c.numbering_of-n.ensures a.sheet.now).count k.ensures.instances k.ensures.literals c.work_needed-needed.ensures in
    let case = length-is a.sheet.now a.p a.range.high.0 _ _ c.requires.shows refl (c.shown_length-length.ensures a.sheet.now c.requires.accepted.readable) in
    all-sizes a.sheet.now a.p a.range (length a.work.now) (length a.output.now) c.requires (omega (arith, k.ensures.instances, c.if-c-gt-MAX_INSTANCES.false)) (omega (arith, whole)) (omega (arith, case, c.if-output-length.false))

pub returns : goal.returns
returns c = let a = c.args in
    let k = c.counts_at-c in
    let whole = work-is a.sheet.now a.p a.range.high.0 _ _ _ _ (c.numbering_of-n.ensures a.sheet.now).count k.ensures.instances k.ensures.literals c.work_needed-needed.ensures in
    let case = length-is a.sheet.now a.p a.range.high.0 _ _ c.requires.shows refl (c.shown_length-length.ensures a.sheet.now c.requires.accepted.readable) in
    let t = c.search_sizes in
    let q = problem_in a.sheet.now a.p in
    ends_as (found_in a.p.symmetry q a.range.low.0 a.range.high.0 a.allowance) t.result a.work.now t.new.work a.output.now t.new.output (found_within a.p.symmetry q a.range.low.0 a.range.high.0 a.allowance)
    (searches _ _ _ _ _ _ _ (omega (arith, c.if-allowance-gt-MAX_ALLOWANCE.false)) (omega (arith, k.ensures.instances, c.if-c-gt-MAX_INSTANCES.false)) (omega (arith, whole)) (omega (arith, case, c.if-output-length.false))) t.ensures
