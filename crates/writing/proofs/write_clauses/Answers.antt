-- `write_clauses` meets its contract.
use mathlib.Core.Path.{◌≡◌, refl, sym, ap, ◌∙◌}
use Prim.Native.Nat.{ℕ}
use lib.ListN.{length}
use Rattle.std.proofs.lemmas.Result.{err_from_is_err_and}
use Rattle.theory.specs.Refusals.{unplaced}
use Rattle.theory.specs.Problem.{Problem}
use Rattle.symmetry.specs.SymmetricOperations.{written_text_with}
use Rattle.syntax.proofs.Sizes.{checked-size, refused-size, size-within}
use Rattle.problem.specs.Problems.{problem_in}
use Rattle.problem.proofs.ModeRead.{mode-accepted}
use Rattle.problem.proofs.Told.{told, accepted-told, problem-told}
use Rattle.writing.specs.Texts.{text_at}
use Rattle.answers.specs.Answers.{refusal_in}
use Rattle.answers.proofs.Answering.{refuses, answers-as}
use Rattle.writing.proofs.Refusing.{sheet-refusal, size-refusal, sized-text}
use Rattle.writing.proofs.write_clauses.Goals as goal

pub returns-in_err-p : goal.returns-in_err-p
returns-in_err-p c = let a = c.args in
    let room = length a.output.now in
    let q = c.in_err-p.field-0.0 in
    let p = err_from_is_err_and c.from_residual.result c.from_residual.ensures.1 in
    rw (p.1, p.2)
    (refuses (written_text_with a.named a.symmetry a.sheet.now a.size room) (refusal_in q) q a.output.now (sheet-refusal a.sheet.now a.size room a.named a.symmetry (refusal_in q) c.in_err-p.ensures.refused) refl)

pub returns-in_default : goal.returns-in_default
returns-in_default c = let a = c.args in
    let room = length a.output.now in
    let no = refused-size a.size (sym c.checked.ensures ∙ c.in_default.is) in
    let q = mode-accepted a.sheet.now a.named c.in_ok-p.p (sym c.in_ok-p.ensures.read) in
    refuses (written_text_with a.named a.symmetry a.sheet.now a.size room) (unplaced 8) c.at_line.result a.output.now
    (size-refusal a.sheet.now a.size room a.named a.symmetry q.problem q.placed no) c.at_line.ensures

pub write_at-requires : goal.write_at-requires
write_at-requires c = let a = c.args in
    let k = checked-size a.size c.in-Some.s (sym c.checked.ensures ∙ c.in-Some.is) in
    let w = size-within a.size k.0 in
    record { accepted = accepted-told a.sheet.now c.in_ok-p.p a.symmetry c.in_ok-p.ensures.accepted; positive = rw k.1 w.0; within = rw k.1 w.1 }

pub returns : goal.returns
returns c = let a = c.args in
    let sheet = a.sheet.now in
    let room = length a.output.now in
    let used = a.symmetry in
    let p = problem_in sheet (told used c.in_ok-p.p) in
    let w = c.write_at in
    let k = checked-size a.size c.in-Some.s (sym c.checked.ensures ∙ c.in-Some.is) in
    let q = mode-accepted sheet a.named c.in_ok-p.p (sym c.in_ok-p.ensures.read) in
    let t = sized-text sheet a.size room a.named used q.problem q.placed k.0 in
    let u : written_text_with a.named used sheet a.size room ≡ text_at used p c.in-Some.s.0 room =
    t ∙ ap (λ (q : Problem). text_at used q a.size room) (sym q.is ∙ sym (problem-told sheet c.in_ok-p.p used)) ∙ ap (λ (n : ℕ). text_at used p n room) (sym k.1) in
    answers-as (written_text_with a.named used sheet a.size room) (text_at used p c.in-Some.s.0 room) w.result a.output.now _ u w.ensures
