-- `search_sheet` leaves what is printed for Find's answer.
use Rattle.program.proofs.Searching.{reportable}
use borrow.Author.Rules.{rules}
use Rattle.program.proofs.search_sheet.Goals as goal

pub put_result-requires : goal.put_result-requires
put_result-requires c = let z = c in
    let f = c.find-answer in
    reportable z.args.out.now z.requires z.args.sheet.now z.args.q.low z.args.q.high z.args.q.symmetry z.args.q.allowance _ (search rules) f.result f.new.output f.auto.output f.ensures.answer f.ensures.left

pub returns : goal.returns
unfolding reportable
returns c = let z = c in
    let f = c.find-answer in
    c.put_result.ensures
    (reportable z.args.out.now z.requires z.args.sheet.now z.args.q.low z.args.q.high z.args.q.symmetry z.args.q.allowance _ (search rules) f.result f.new.output f.auto.output f.ensures.answer f.ensures.left)
