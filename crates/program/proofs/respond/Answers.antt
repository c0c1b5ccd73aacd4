-- `respond` leaves the finder's text.
use mathlib.Core.Path.{sym}
use borrow.Author.Rules.{rules}
use Rattle.program.proofs.Inputs.{answers, refuses}
use Rattle.program.proofs.Refusing.{size-refusal}
use Rattle.program.proofs.respond.Goals as goal

pub returns-in-Ok : goal.returns-in-Ok
returns-in-Ok c = let r = c.in-Ok.ensures in
    rw (sym (answers c.args.input.now c.in-Ok.q r.within r.read)) c.search_sheet.ensures

pub put_result-requires : goal.put_result-requires
put_result-requires c = size-refusal c.args.out.now (search rules) c.in-Err.fault c.in-Err.ensures.refused c.at_line.result c.at_line.ensures

pub returns-in-Err : goal.returns-in-Err
unfolding size-refusal
returns-in-Err c = let w = c.put_result.ensures (size-refusal c.args.out.now (search rules) c.in-Err.fault c.in-Err.ensures.refused c.at_line.result c.at_line.ensures) in
    rw (sym (refuses c.args.input.now c.in-Err.fault c.in-Err.ensures.read)) w
