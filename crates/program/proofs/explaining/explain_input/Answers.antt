-- `explain_input` meets its contract: the two parts of the input, explained and printed.
use mathlib.Core.Path.{sym}
use mathlib.Core.Bool.{true}
use native.Mathlib.Omega.{arith}
use lib.Seq.{length-take-le}
use Rattle.theory.proofs.Explainer.{start-within}
use Rattle.program.proofs.ShortAnswers.{explicable, input-responds}
use borrow.Author.Rules.{rules}
use Rattle.program.proofs.explaining.explain_input.Goals as goal

pub slice_bounds-explain-end : goal.slice_bounds-explain-end
slice_bounds-explain-end c = let input = c.args.input.now in
    sym (length-take-le c.case_start-at.result input (omega (arith, c.case_start-at.ensures, start-within true input)))

pub slice_bounds-explain-count : goal.slice_bounds-explain-count
slice_bounds-explain-count c = let input = c.args.input.now in
    omega (arith, c.case_start-at.ensures, start-within true input)

pub slice_bounds-explain-start : goal.slice_bounds-explain-start
slice_bounds-explain-start c = let input = c.args.input.now in
    omega (arith, c.case_start-at.ensures, start-within true input)

pub put_explained-requires : goal.put_explained-requires
put_explained-requires c = let a = c.args in
    let s = c.case_start-at in
    let e = c.explain-answer in
    (explicable a.input.now a.out.now s.result s.ensures e.result (search rules) (search rules) e.ensures).0

pub returns : goal.returns
returns c = let a = c.args in
    let s = c.case_start-at in
    let e = c.explain-answer in
    let w = c.put_explained in
    input-responds a.input.now a.out.now s.result s.ensures e.result (search rules) (search rules) e.ensures w.result w.new.out w.ensures
