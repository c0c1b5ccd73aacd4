use Prim.Native.Nat.{ℕ, ◌+◌, ◌-◌}
use mathlib.Core.Path.{◌≡◌, refl, ap, ◌∙◌, subst}
use mathlib.Core.Bool.{true}
use mathlib.Core.Option.{none, some}
use native.Mathlib.Numerals.{add-one}
use native.Mathlib.Omega.{arith}
use lib.ListN.{length, take}
use Rattle.theory.specs.Refusals.{answer}
use Rattle.theory.specs.Propositional.{prop_count}
use Rattle.theory.specs.Valuation.{setting_of}
use Rattle.allowance.specs.AllowedSearch.{Allowed}
use Rattle.allowance.specs.AllowedFind.{within_in}
use Rattle.problem.specs.Problems.{problem_in}
use Rattle.finding.specs.Searching.{Searchable}
use Rattle.finding.specs.Ending.{found_within, case_found}
use Rattle.finding.proofs.Searched.{ended-within}
use Rattle.finding.proofs.SizeBySize.{size-searchable, size-case, remaining-all, remaining-found, remaining-on}
use Rattle.finding.proofs.Endings.{ends-whole}
use Rattle.finding.proofs.sizes.search_sizes.Goals as goal

pub loop-number-init : goal.loop-number-init
loop-number-init c = let a = c.args in
    (refl, omega arith, remaining-all a.p.symmetry (problem_in a.sheet.now a.p) a.range.high.0 a.range.low.0 a.allowance)

pub search_size-requires-clause-searchable : goal.search_size-requires-clause-searchable
search_size-requires-clause-searchable c = let a = c.args in
    let same : length a.work.now ≡ length c.loop-number.work = omega arith in
    subst (Searchable a.sheet.now a.p c.loop-number.number) same
    (size-searchable a.sheet.now a.p a.range _ _ c.requires c.loop-number.number (omega arith) (omega arith))

pub overflow_add-made : goal.overflow_add-made
overflow_add-made c = let l = c.loop-number in
    record { fits = omega (arith, (ended-within c.args.p.symmetry l.number (problem_in c.args.sheet.now c.args.p) (c.args.allowance - l.made) _ c.in-Found.choices c.in-Found.ensures).1, l.invariant.1, c.ranges.allowance) }

pub put_found-requires-clause-searchable : goal.put_found-requires-clause-searchable
put_found-requires-clause-searchable c = let a = c.args in
    let same : length a.work.now ≡ length c.search_size.new.work = omega (arith, c.search_size.auto.work) in
    subst (Searchable a.sheet.now a.p c.loop-number.number) same
    (size-searchable a.sheet.now a.p a.range _ _ c.requires c.loop-number.number (omega arith) (omega arith))

pub put_found-requires-clause-p_value : goal.put_found-requires-clause-p_value
unfolding problem_in
put_found-requires-clause-p_value c = let l = c.loop-number in
    (ended-within c.args.p.symmetry l.number (problem_in c.args.sheet.now c.args.p) (c.args.allowance - l.made) _ c.in-Found.choices c.in-Found.ensures).0
    ∙ ap (λ (k : ℕ). some (setting_of (take k c.search_size.new.work))) (c.numbering_of-n.ensures c.args.sheet.now).count

pub put_found-requires-clause-p_in_bounds : goal.put_found-requires-clause-p_in_bounds
put_found-requires-clause-p_in_bounds c = let a = c.args in
    omega (arith, size-case a.sheet.now a.p a.range _ _ c.requires c.loop-number.number (omega arith) (omega arith), c.loop-number.auto.output)

pub returns-in-Found : goal.returns-in-Found
unfolding problem_in
returns-in-Found c = let l = c.loop-number in
    let a = c.args in
    let f = c.put_found in
    let q = problem_in a.sheet.now a.p in
    let zs = take c.numbering_of-n.result.count c.search_size.new.work in
    let made = l.made + c.in-Found.choices in
    ends-whole (found_within a.p.symmetry q a.range.low.0 a.range.high.0 a.allowance) (case_found q l.number (take (prop_count l.number q.symbols) c.search_size.new.work) made) f.result a.work.now c.search_size.new.work f.new.work a.output.now l.output f.new.output
    (ap (λ (w : Allowed). answer (within_in true q a.range.low.0 a.range.high.0 a.allowance w))
    (l.invariant.2 ∙ remaining-found a.p.symmetry q a.range.high.0 l.number l.made a.allowance (omega arith) (setting_of zs) c.in-Found.choices c.in-Found.ensures)
    ∙ ap (λ (k : ℕ). answer (case_found q l.number (take k c.search_size.new.work) made)) (c.numbering_of-n.ensures a.sheet.now).count)
    (omega (arith, c.search_size.auto.work)) l.invariant.0 f.ensures

pub overflow_add-made-in-Exhausted : goal.overflow_add-made-in-Exhausted
overflow_add-made-in-Exhausted c = let l = c.loop-number in
    record { fits = omega (arith, (ended-within c.args.p.symmetry l.number (problem_in c.args.sheet.now c.args.p) (c.args.allowance - l.made) none c.in-Exhausted.choices c.in-Exhausted.ensures).1, l.invariant.1, c.ranges.allowance) }

pub loop-number-preserved : goal.loop-number-preserved
loop-number-preserved c = let l = c.loop-number in
    let a = c.args in
    let q = problem_in a.sheet.now a.p in (
      l.invariant.0,
      omega (arith, (ended-within a.p.symmetry l.number q (a.allowance - l.made) none c.in-Exhausted.choices c.in-Exhausted.ensures).1, l.invariant.1),
      rw add-one (l.invariant.2 ∙ remaining-on a.p.symmetry q a.range.high.0 l.number l.made a.allowance (omega arith) c.in-Exhausted.choices c.in-Exhausted.ensures),
    )
