-- `find_plainly` meets its contract: a sheet that is refused, sizes that are none, or what was found.
use Prim.Native.Nat.{ℕ}
use mathlib.Core.Path.{◌≡◌, refl, sym, ap, ◌∙◌}
use lib.ListN.{length}
use Rattle.std.proofs.lemmas.Result.{err_from_is_err_and}
use Rattle.theory.specs.Refusals.{unplaced}
use Rattle.theory.specs.PlainSearch.{plain_result}
use Rattle.answers.specs.Answers.{refusal_in}
use Rattle.problem.specs.Problems.{problem_in}
use Rattle.problem.proofs.ModeRead.{plain_in}
use Rattle.columns.proofs.CasesOpened.{sheet-opened}
use Rattle.ranges.specs.Ranges.{ends_of}
use Rattle.ranges.proofs.Ranges.{range-taken, range-refused}
use Rattle.plain.specs.Ending.{found_in}
use Rattle.plain.proofs.Endings.{ends_as, ends-refused, result-refused, result-8, result-read}
use Rattle.plain.proofs.find_plainly.Goals as goal

pub returns-in_err-p : goal.returns-in_err-p
returns-in_err-p c = let a = c.args in
    let q = c.in_err-p.field-0.0 in
    let p = err_from_is_err_and c.from_residual.result c.from_residual.ensures.1 in
    rw (p.1, p.2)
    (ends-refused (plain_result a.sheet.now a.low a.high (length a.output.now)) q (refusal_in q) a.output.now
    (result-refused a.sheet.now a.low a.high (length a.output.now) (refusal_in q) c.in_err-p.ensures.refused) refl)

pub find_in-requires : goal.find_in-requires
find_in-requires c = let a = c.args in
    record {
      accepted = c.in_ok-p.ensures.accepted;
      read = sym (plain_in a.sheet.now) ∙ c.in_ok-p.ensures.read;
    }

pub returns-in_default : goal.returns-in_default
returns-in_default c = let a = c.args in
    let R = length a.output.now in
    let q = problem_in a.sheet.now c.in_ok-p.p in
    let no = range-refused a.low a.high (ap ends_of (sym c.in_default.is) ∙ c.checked_range.ensures) in
    ends-refused (plain_result a.sheet.now a.low a.high R) c.at_line.result (unplaced 8) a.output.now
    (result-8 a.sheet.now a.low a.high R q (sheet-opened a.sheet.now c.in_ok-p.p c.in_ok-p.ensures.read) no) c.at_line.ensures

pub returns : goal.returns
returns c = let a = c.args in
    let f = c.find_in in
    let R = length a.output.now in
    let q = problem_in a.sheet.now c.in_ok-p.p in
    let t = range-taken a.low a.high c.in-Some.range (ap ends_of (sym c.in-Some.is) ∙ c.checked_range.ensures) in
    let same : found_in q a.low a.high R ≡ found_in q c.in-Some.range.low.0 c.in-Some.range.high.0 R = ap (λ (n : ℕ). found_in q n a.high R) (sym t.1) ∙ ap (λ (n : ℕ). found_in q c.in-Some.range.low.0 n R) (sym t.2) in
    ends_as (plain_result a.sheet.now a.low a.high R) f.result a.output.now f.new.output (found_in q c.in-Some.range.low.0 c.in-Some.range.high.0 R)
    (result-read a.sheet.now a.low a.high R q (sheet-opened a.sheet.now c.in_ok-p.p c.in_ok-p.ensures.read) t.0 ∙ same) f.ensures
