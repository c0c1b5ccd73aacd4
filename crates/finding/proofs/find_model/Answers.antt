-- `find_model` meets its contract: a sheet that is refused, sizes that are none, or what was found.
use Prim.Native.Nat.{ℕ}
use mathlib.Core.Path.{◌≡◌, refl, sym, ap, ◌∙◌}
use lib.ListN.{length}
use Rattle.std.proofs.lemmas.Result.{err_from_is_err_and}
use Rattle.theory.specs.Refusals.{unplaced}
use Rattle.theory.specs.Problem.{Problem}
use Rattle.naming.specs.NamedOperations.{mode_problem}
use Rattle.allowance.specs.AllowedFind.{find_within}
use Rattle.answers.specs.Answers.{refusal_in}
use Rattle.problem.specs.Problems.{problem_in}
use Rattle.problem.proofs.ModeRead.{read-shows, mode-accepted}
use Rattle.problem.proofs.Told.{told, accepted-told, problem-told}
use Rattle.finding.specs.Ending.{found_in}
use Rattle.ranges.specs.Ranges.{ends_of}
use Rattle.ranges.proofs.Ranges.{range-taken, range-refused}
use Rattle.finding.proofs.Endings.{ends_as, ends-refused}
use Rattle.finding.proofs.Refusing.{result-refused, result-8, result-read}
use Rattle.finding.proofs.find_model.Goals as goal

pub returns-in_err-p : goal.returns-in_err-p
returns-in_err-p c = let a = c.args in
    let q = c.in_err-p.field-0.0 in
    let p = err_from_is_err_and c.from_residual.result c.from_residual.ensures.1 in
    rw (p.1, p.2)
    (ends-refused (find_within a.named a.symmetry a.sheet.now a.low a.high a.allowance) q (refusal_in q) a.work.now a.output.now
    (result-refused a.sheet.now a.low a.high a.allowance (length a.work.now) (length a.output.now) a.symmetry a.named (refusal_in q) c.in_err-p.ensures.refused) refl)

pub find_in-requires : goal.find_in-requires
find_in-requires c = let a = c.args in
    let p = c.in_ok-p.p in
    let q = mode-accepted a.sheet.now a.named p (sym c.in_ok-p.ensures.read) in
    record {
      accepted = accepted-told a.sheet.now p a.symmetry c.in_ok-p.ensures.accepted;
      bytes = q.bytes;
      shows = read-shows a.named a.sheet.now p q;
    }

pub returns-in_default : goal.returns-in_default
returns-in_default c = let a = c.args in
    let W = length a.work.now in
    let R = length a.output.now in
    let q = mode-accepted a.sheet.now a.named c.in_ok-p.p (sym c.in_ok-p.ensures.read) in
    let no = range-refused a.low a.high (ap ends_of (sym c.in_default.is) ∙ c.checked_range.ensures) in
    ends-refused (find_within a.named a.symmetry a.sheet.now a.low a.high a.allowance) c.at_line.result (unplaced 8) a.work.now a.output.now
    (result-8 a.sheet.now a.low a.high a.allowance W R a.symmetry q.problem a.named q.placed no) c.at_line.ensures

pub returns : goal.returns
returns c = let a = c.args in
    let f = c.find_in in
    let W = length a.work.now in
    let R = length a.output.now in
    let used = a.symmetry in
    let q = problem_in a.sheet.now (told used c.in_ok-p.p) in
    let t = range-taken a.low a.high c.in-Some.range (ap ends_of (sym c.in-Some.is) ∙ c.checked_range.ensures) in
    let k = mode-accepted a.sheet.now a.named c.in_ok-p.p (sym c.in_ok-p.ensures.read) in
    let same : found_in used (mode_problem a.named k.problem) a.low a.high a.allowance W R ≡ found_in used q c.in-Some.range.low.0 c.in-Some.range.high.0 a.allowance W R =
    ap (λ (q : Problem). found_in used q a.low a.high a.allowance W R) (sym k.is ∙ sym (problem-told a.sheet.now c.in_ok-p.p used)) ∙ ap (λ (n : ℕ). found_in used q n a.high a.allowance W R) (sym t.1) ∙ ap (λ (n : ℕ). found_in used q c.in-Some.range.low.0 n a.allowance W R) (sym t.2) in
    ends_as (find_within a.named a.symmetry a.sheet.now a.low a.high a.allowance) f.result a.work.now f.new.work a.output.now f.new.output (found_in used q c.in-Some.range.low.0 c.in-Some.range.high.0 a.allowance)
    (result-read a.sheet.now a.low a.high a.allowance W R a.symmetry k.problem a.named k.placed k.declared t.0 ∙ same) f.ensures
