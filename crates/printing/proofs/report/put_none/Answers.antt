-- `put_none` puts none and the mark settled.
use Rattle.printing.proofs.Printing.{settled-yes, settled-no}
use borrow.Author.Rules.{rules}
use Rattle.printing.proofs.report.put_none.Goals as goal

pub returns-then-settled : goal.returns-then-settled
returns-then-settled c = let z = c in
    let a = c.put_bytes-at in
    let b = c.put_bytes in
    settled-yes z.args.out.now a.new.out b.new.out a.result b.result z.args.settled (search rules) z.requires a.ensures.written a.ensures.place b.ensures.written b.ensures.place

pub returns : goal.returns
returns c = let z = c in
    let a = c.put_bytes-at in
    let b = c.put_bytes-2 in
    settled-no z.args.out.now a.new.out b.new.out a.result b.result z.args.settled (search rules) z.requires a.ensures.written a.ensures.place b.ensures.written b.ensures.place
