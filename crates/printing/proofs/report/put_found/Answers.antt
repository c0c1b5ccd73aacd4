-- `put_found` puts the outcome's line before a case.
use Rattle.printing.proofs.Printing.{found-case}
use Rattle.printing.proofs.report.put_found.Goals as goal

pub returns : goal.returns
returns c = let z = c in
    let a = c.put_bytes in
    found-case z.args.out.now a.new.out a.result z.args.count 0 z.requires a.ensures.written a.ensures.place
