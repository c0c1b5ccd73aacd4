use mathlib.Core.Path.{◌≡◌, sym, ap, ◌∙◌}
use native.Mathlib.Omega.{arith}
use lib.ListN.{length}
use Rattle.theory.specs.Refusals.{unplaced, needing}
use Rattle.theory.specs.CaseText.{case_length}
use Rattle.answers.specs.Answers.{refusal_in}
use Rattle.syntax.specs.Signatures.{signature_in}
use Rattle.accepting.proofs.Judged.{setting-counted}
use Rattle.accepting.proofs.Outcomes.{refuses}
use Rattle.accepting.proofs.Stated.{not-functional, functional-setting, writable, no-model, no_room, case-written}
use Rattle.accepting.proofs.accept_setting.Goals as goal

-- `accept_setting`: 14, 19, 11, the case.
pub is_functional-requires : goal.is_functional-requires
is_functional-requires c = let s = c in record { limited = (s.requires.sized.accepted.readable.limited, s.requires.sized.size); by_index = s.requires.numbered; setting_len = setting-counted _ _ _ _ _ s.requires }

pub returns-then-not-is_functional : goal.returns-then-not-is_functional
returns-then-not-is_functional c = let s = c in
    let a = s.args in
    let f = c.is_functional in
    refuses _ (unplaced 14) c.at_line.result a.output.now (not-functional a.sheet.now a.p a.n a.size.0 a.setting.now s.requires (length a.output.now) (sym (f.ensures a.sheet.now) ∙ c.if-not-is_functional.true)) c.at_line.ensures

pub is_model-requires : goal.is_model-requires
is_model-requires c = let s = c in
    let a = s.args in
    let f = c.is_functional in
    let functional = sym (f.ensures a.sheet.now) ∙ c.if-not-is_functional.false in
    functional-setting a.sheet.now a.p a.n a.size.0 a.setting.now s.requires (length a.output.now) functional

pub returns-then-not-is_model : goal.returns-then-not-is_model
returns-then-not-is_model c = let s = c in
    let a = s.args in
    let f = c.is_functional in
    let functional = sym (f.ensures a.sheet.now) ∙ c.if-not-is_functional.false in
    let m = c.is_model in
    refuses _ (unplaced 19) c.at_line-then-not-is_model.result a.output.now (no-model a.sheet.now a.p a.n a.size.0 a.setting.now s.requires (length a.output.now) functional (sym m.ensures ∙ c.if-not-is_model.true)) c.at_line-then-not-is_model.ensures

pub case_length-length-requires : goal.case_length-length-requires
case_length-length-requires c = let s = c in
    (s.requires.sized.size, (s.args.sheet.now, (s.requires.sized.accepted.readable, s.requires.sized.bytes)))

pub returns-then-output-length : goal.returns-then-output-length
returns-then-output-length c = let s = c in
    let a = s.args in
    let f = c.is_functional in
    let functional = sym (f.ensures a.sheet.now) ∙ c.if-not-is_functional.false in
    let m = c.is_model in
    let model = sym m.ensures ∙ c.if-not-is_model.false in
    let l = c.case_length-length.ensures a.sheet.now s.requires.sized.accepted.readable in
    let told : refusal_in c.needing.result ≡ needing 11 c.case_length-length.result = c.needing.ensures in
    refuses _ (needing 11 (case_length a.size.0 (signature_in a.sheet.now a.p.signature))) c.needing.result a.output.now (no_room a.sheet.now a.p a.n a.size.0 a.setting.now s.requires (length a.output.now) functional model (omega (arith, c.if-output-length.true, l))) (told ∙ ap (needing 11) l)

pub write_case-written-requires : goal.write_case-written-requires
write_case-written-requires c = let s = c in
    let a = s.args in
    let f = c.is_functional in
    let functional = sym (f.ensures a.sheet.now) ∙ c.if-not-is_functional.false in
    let l = c.case_length-length.ensures a.sheet.now s.requires.sized.accepted.readable in record { writable_bits = writable a.sheet.now a.p a.n a.size.0 a.setting.now s.requires (length a.output.now) functional; signature_in_bounds = omega (arith, c.if-output-length.false, l) }

pub returns : goal.returns
returns c = let s = c in
    let a = s.args in
    let f = c.is_functional in
    let functional = sym (f.ensures a.sheet.now) ∙ c.if-not-is_functional.false in
    let m = c.is_model in
    let model = sym m.ensures ∙ c.if-not-is_model.false in
    let l = c.case_length-length.ensures a.sheet.now s.requires.sized.accepted.readable in
    let w = c.write_case-written in
    case-written a.sheet.now a.p a.n a.size.0 a.setting.now s.requires functional model a.output.now w.new.out w.result (omega (arith, c.if-output-length.false, l)) w.ensures.place w.ensures.written
