-- `write_setting` meets its contract: 13, 14, 11, the case.
use mathlib.Core.Path.{sym, ◌∙◌}
use native.Mathlib.Omega.{arith}
use lib.ListN.{length}
use Rattle.theory.specs.Refusals.{unplaced, needing}
use Rattle.answers.proofs.Answering.{refuses}
use Rattle.syntax.specs.Signatures.{signature_in}
use Rattle.valuations.proofs.Bits.{is-counted}
use Rattle.reading_back.proofs.Answered.{no-valuation, not-functional}
use Rattle.reading_back.proofs.Fronts.{readable-shown, front-lent, shown-too-long, shown-written}
use Rattle.reading_back.proofs.setting.write_setting.Goals as goal

pub returns-then-not-is_valuation : goal.returns-then-not-is_valuation
returns-then-not-is_valuation c = let s = c in
    let a = s.args in
    let g = signature_in a.sheet.now a.signature in
    let n = c.numbering_of-n in
    let v = c.is_valuation in
    let is = v.ensures a.size.0 g (n.ensures a.sheet.now) in
    refuses _ (unplaced 13) c.at_line.result a.output.now (no-valuation a.size.0 g a.setting.now (length a.output.now) (sym is ∙ c.if-not-is_valuation.true)) c.at_line.ensures

pub is_functional-requires : goal.is_functional-requires
is_functional-requires c = let s = c in
    let a = s.args in
    let g = signature_in a.sheet.now a.signature in
    let n = c.numbering_of-n in
    let v = c.is_valuation in
    let is = v.ensures a.size.0 g (n.ensures a.sheet.now) in
    let valuation = sym is ∙ c.if-not-is_valuation.false in record { limited = (s.requires.readable.limited, s.requires.within); by_index = n.ensures; setting_len = is-counted a.size.0 g a.setting.now valuation ∙ sym (n.ensures a.sheet.now).count }

pub returns-then-not-is_functional : goal.returns-then-not-is_functional
returns-then-not-is_functional c = let s = c in
    let a = s.args in
    let g = signature_in a.sheet.now a.signature in
    let n = c.numbering_of-n in
    let v = c.is_valuation in
    let is = v.ensures a.size.0 g (n.ensures a.sheet.now) in
    let valuation = sym is ∙ c.if-not-is_valuation.false in
    let f = c.is_functional in
    refuses _ (unplaced 14) c.at_line-then-not-is_functional.result a.output.now
    (not-functional a.size.0 g a.setting.now (length a.output.now) valuation (sym (f.ensures a.sheet.now) ∙ c.if-not-is_functional.true)) c.at_line-then-not-is_functional.ensures

pub case_length-length-requires : goal.case_length-length-requires
case_length-length-requires c = let s = c in
    let a = s.args in
    (s.requires.within, (a.sheet.now, (readable-shown a.sheet.now a.signature a.size.0 a.setting.now s.requires c.declared-shown.result c.declared-shown.ensures, s.requires.bytes)))

pub returns-then-output-length : goal.returns-then-output-length
returns-then-output-length c = let s = c in
    let a = s.args in
    let g = signature_in a.sheet.now a.signature in
    let n = c.numbering_of-n in
    let v = c.is_valuation in
    let is = v.ensures a.size.0 g (n.ensures a.sheet.now) in
    let valuation = sym is ∙ c.if-not-is_valuation.false in
    let f = c.is_functional in
    let functional = sym (f.ensures a.sheet.now) ∙ c.if-not-is_functional.false in
    let y = c.declared-shown in
    let l = c.case_length-length in
    let readable = readable-shown a.sheet.now a.signature a.size.0 a.setting.now s.requires y.result y.ensures in
    refuses _ (needing 11 l.result) c.needing.result a.output.now
    (shown-too-long a.sheet.now a.signature a.size.0 a.setting.now s.requires y.result y.ensures valuation functional (length a.output.now) l.result (l.ensures a.sheet.now readable) c.if-output-length.true)
    c.needing.ensures

pub write_front-requires : goal.write_front-requires
write_front-requires c = let s = c in
    let a = s.args in
    let g = signature_in a.sheet.now a.signature in
    let n = c.numbering_of-n in
    let v = c.is_valuation in
    let is = v.ensures a.size.0 g (n.ensures a.sheet.now) in
    let valuation = sym is ∙ c.if-not-is_valuation.false in
    let f = c.is_functional in
    let functional = sym (f.ensures a.sheet.now) ∙ c.if-not-is_functional.false in
    let y = c.declared-shown in
    let l = c.case_length-length in
    let readable = readable-shown a.sheet.now a.signature a.size.0 a.setting.now s.requires y.result y.ensures in record { front_lent = front-lent a.sheet.now a.signature a.size.0 a.setting.now s.requires y.result y.ensures valuation functional; signature_in_bounds = omega (arith, c.if-output-length.false, l.ensures a.sheet.now readable) }

pub returns : goal.returns
returns c = let s = c in
    let a = s.args in
    let g = signature_in a.sheet.now a.signature in
    let n = c.numbering_of-n in
    let v = c.is_valuation in
    let is = v.ensures a.size.0 g (n.ensures a.sheet.now) in
    let valuation = sym is ∙ c.if-not-is_valuation.false in
    let f = c.is_functional in
    let functional = sym (f.ensures a.sheet.now) ∙ c.if-not-is_functional.false in
    let y = c.declared-shown in
    let l = c.case_length-length in
    let readable = readable-shown a.sheet.now a.signature a.size.0 a.setting.now s.requires y.result y.ensures in
    let w = c.write_front in
    shown-written a.sheet.now a.signature a.size.0 a.setting.now s.requires y.result y.ensures valuation functional a.output.now _ w.result w.ensures.place (omega (arith, c.if-output-length.false, l.ensures a.sheet.now readable, w.ensures.place)) w.ensures.written
