use Prim.Native.Nat.{suc, ◌+◌}
use mathlib.Core.Path.{◌≡◌, refl, ap, ◌∙◌}
use mathlib.Core.Bool.{false}
use native.Mathlib.Omega.{arith}
use lib.ListN.{length}
use Rattle.theory.specs.CaseText.{case_text}
use Rattle.theory.specs.Least.{smallest_model}
use Rattle.theory.specs.Operations.{over}
use Rattle.problem.specs.Problems.{problem_in}
use Rattle.judging.specs.Cases.{cells_of}
use Rattle.plain.proofs.SizeBySize.{remaining, remaining-found, remaining-missed, remaining-none}
use Rattle.plain.proofs.Models.{model-found, model-missed, size-searchable, size-case}
use Rattle.plain.proofs.Endings.{ends_found, ends-none}
use Rattle.plain.proofs.sizes.search_sizes.Goals as goal

pub loop-s-init : goal.loop-s-init
unfolding smallest_model
loop-s-init c = (refl, refl, refl)

pub least_model-requires : goal.least_model-requires
least_model-requires c = let z = c in
    let a = z.args in
    size-searchable a.sheet.now a.p a.range (length a.output.now) z.requires c.loop-s.s (omega arith) (omega arith)

pub put_model-length-requires : goal.put_model-length-requires
put_model-length-requires c = let z = c in
    let a = z.args in
    let l = c.loop-s in
    let m = c.least_model in record {
      searchable = size-searchable a.sheet.now a.p a.range (length a.output.now) z.requires l.s (omega arith) (omega arith);
      p_value = model-found a.sheet.now a.p l.s m.result m.ensures c.in-Some.cells c.in-Some.is;
      p_in_bounds = omega (arith, size-case a.sheet.now a.p a.range (length a.output.now) z.requires l.s (omega arith) (omega arith), l.invariant.1);
    }

pub returns-in-Some : goal.returns-in-Some
returns-in-Some c = let z = c in
    let a = z.args in
    let l = c.loop-s in
    let q = problem_in a.sheet.now a.p in
    let m = c.least_model in
    let w = c.put_model-length in
    let least = model-found a.sheet.now a.p l.s m.result m.ensures c.in-Some.cells c.in-Some.is in
    ends_found q a.range.low.0 a.range.high.0 a.output.now w.new.output l.s w.result _ (omega (arith, a.range.positive)) least w.ensures.place
    (w.ensures.written ∙ ap (over (case_text l.s q.symbols (cells_of a.sheet.now a.p c.in-Some.cells.values l.s))) l.invariant.0) (l.invariant.2 ∙ remaining-found false q a.range.high.0 l.s _ (omega arith) least)

pub loop-s-preserved : goal.loop-s-preserved
loop-s-preserved c = let a = c.args in
    let l = c.loop-s in
    let q = problem_in a.sheet.now a.p in
    let m = c.least_model in
    let e : suc l.s ≡ l.s + 1 = omega arith in
    let none = model-missed a.sheet.now a.p l.s m.result m.ensures c.in_default.is in
    (l.invariant.0, l.invariant.1, l.invariant.2 ∙ remaining-missed false q a.range.high.0 l.s (omega arith) none ∙ ap (remaining false q a.range.high.0) e)

pub is_settled-requires : goal.is_settled-requires
is_settled-requires c = c.requires.searchable.accepted.readable.limited

pub returns : goal.returns
returns c = let z = c in
    let a = z.args in
    let l = c.loop-s in
    let q = problem_in a.sheet.now a.p in
    ends-none q a.range.low.0 a.range.high.0 a.output.now l.output c.is_settled.result (l.invariant.2 ∙ remaining-none false q a.range.high.0 l.s (omega (arith, a.range.ordered)))
    (c.is_settled.ensures a.sheet.now z.requires.searchable.accepted) l.invariant.0
