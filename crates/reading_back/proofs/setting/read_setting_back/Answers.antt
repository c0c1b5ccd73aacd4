-- `read_setting_back` meets its contract: the sheet's refusals, 8, then what the setting says.
use Prim.Native.Nat.{ℕ}
use mathlib.Core.Path.{◌≡◌, refl, sym, ap, ◌∙◌}
use borrow.Author.Rules.{rules}
use lib.ListN.{length}
use Rattle.std.proofs.lemmas.Result.{err_from_is_err_and}
use Rattle.theory.specs.Refusals.{unplaced}
use Rattle.theory.specs.Problem.{Problem}
use Rattle.naming.specs.NamedOperations.{read_back_text_in}
use Rattle.answers.proofs.Answering.{refuses, answers-as}
use Rattle.syntax.specs.Signatures.{signature_in}
use Rattle.syntax.proofs.Sizes.{checked-size, refused-size, size-within}
use Rattle.problem.specs.Problems.{problem_in}
use Rattle.problem.proofs.ModeRead.{read-shows, mode-accepted}
use Rattle.reading_back.specs.Settings.{text_said}
use Rattle.reading_back.proofs.Answered.{sheet-refusal, size-refusal, setting-left}
use Rattle.reading_back.proofs.setting.read_setting_back.Goals as goal

pub returns-in_err-p : goal.returns-in_err-p
returns-in_err-p c = let a = c.args in
    let p = err_from_is_err_and c.from_residual.result c.from_residual.ensures.1 in
    rw (p.1, p.2) (refuses _ _ _ a.output.now (sheet-refusal a.sheet.now a.size a.setting.now (length a.output.now) a.named _ c.in_err-p.ensures.refused) refl)

pub write_setting-requires : goal.write_setting-requires
write_setting-requires c = let a = c.args in
    let k = checked-size a.size c.in-Some.s (sym c.checked.ensures ∙ c.in-Some.is) in
    let w = size-within a.size k.0 in
    let q = mode-accepted a.sheet.now a.named c.in_ok-p.p (sym c.in_ok-p.ensures.read) in
    record {
      readable = c.in_ok-p.ensures.accepted.readable;
      bytes = q.bytes;
      shows = read-shows a.named a.sheet.now c.in_ok-p.p q;
      positive = rw k.1 w.0;
      within = rw k.1 w.1;
    }

pub returns-in_default : goal.returns-in_default
returns-in_default c = let a = c.args in
    let q = mode-accepted a.sheet.now a.named c.in_ok-p.p (sym c.in_ok-p.ensures.read) in
    let no = refused-size a.size (search rules) in
    refuses _ (unplaced 8) c.at_line.result a.output.now
    (size-refusal a.sheet.now a.size a.setting.now (length a.output.now) q.problem a.named q.placed no) c.at_line.ensures

pub returns : goal.returns
unfolding problem_in
returns c = let a = c.args in
    let k = checked-size a.size c.in-Some.s (sym c.checked.ensures ∙ c.in-Some.is) in
    let q = mode-accepted a.sheet.now a.named c.in_ok-p.p (sym c.in_ok-p.ensures.read) in
    let g = signature_in a.sheet.now c.in_ok-p.p.signature in
    let room = length a.output.now in
    let w = c.write_setting in
    let e : read_back_text_in a.named a.sheet.now a.size a.setting.now room ≡ text_said c.in-Some.s.0 g a.setting.now room =
    setting-left a.sheet.now a.size a.setting.now room q.problem a.named q.placed q.declared k.0
    ∙ ap (λ (p : Problem). text_said a.size p.symbols a.setting.now room) (sym q.is)
    ∙ ap (λ (n : ℕ). text_said n g a.setting.now room) (sym k.1) in
    answers-as _ (text_said c.in-Some.s.0 g a.setting.now room) w.result a.output.now _ e w.ensures
