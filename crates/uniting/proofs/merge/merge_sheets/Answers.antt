-- `merge_sheets` refuses for the first sheet, then for the second, then answers as the two together say.
use mathlib.Core.Path.{refl, sym, ap, ◌∙◌}
use lib.ListN.{length}
use Rattle.std.proofs.lemmas.Result.{err_from_is_err_and}
use Rattle.answers.proofs.Answering.{refuses}
use Rattle.sheet_merging.proofs.Merging.{merging}
use Rattle.uniting.specs.Calls.{sheet_number}
use Rattle.uniting.proofs.merge.merge_sheets.Goals as goal

pub returns-in_err-p : goal.returns-in_err-p
returns-in_err-p c = let a = c.args in
    let q = c.in_err-p.ensures.refused in
    let e = merging.first_refused a.first.now a.second.now (length a.output.now) _ q.0 in
    let p = err_from_is_err_and c.from_residual.result c.from_residual.ensures.1 in
    rw (p.1, p.2) (record { call = refuses _ _ _ a.output.now e.0 refl; sheet = ap sheet_number q.1 ∙ sym e.1 })

pub returns-in_err-q : goal.returns-in_err-q
returns-in_err-q c = let a = c.args in
    let q = c.in_err-q.ensures.refused in
    let e = merging.second_refused a.first.now a.second.now (length a.output.now) _ _ c.in_ok-p.ensures.sheeted.read q.0 in
    let p = err_from_is_err_and c.from_residual-in_err-q.result c.from_residual-in_err-q.ensures.1 in
    rw (p.1, p.2) (record { call = refuses _ _ _ a.output.now e.0 refl; sheet = ap sheet_number q.1 ∙ sym e.1 })

pub returns-in_err-length : goal.returns-in_err-length
returns-in_err-length c = let both = merging.both_taken c.args.first.now c.args.second.now _ _ c.in_ok-p.ensures.sheeted.read c.in_ok-q.ensures.sheeted.read in
    let p = err_from_is_err_and c.from_residual-in_err-length.result c.from_residual-in_err-length.ensures.1 in
    rw (p.1, p.2) (record { call = rw c.in_err-length.was at c.merge_problems.ensures; sheet = sym both })

pub returns : goal.returns
returns c = let both = merging.both_taken c.args.first.now c.args.second.now _ _ c.in_ok-p.ensures.sheeted.read c.in_ok-q.ensures.sheeted.read in
    record { call = rw c.in_ok-length.was at c.merge_problems.ensures; sheet = sym both }
