-- `word_place` goes by the fault.
use mathlib.Core.Path.{◌≡◌, ap, ◌∙◌}
use native.Mathlib.Omega.{arith}
use Rattle.theory.specs.Lines.{cut_words}
use Rattle.syntax.specs.declared.faults.Fault.TheVariants as fault
use Rattle.syntax.specs.Faults.{number_of}
use Rattle.syntax.specs.Signatures.{signature_in}
use Rattle.columns.specs.Words.{start_from}
use Rattle.columns.proofs.FaultNumbers.{same-number}
use Rattle.columns.proofs.WordPlaces.{unknown-fault, misplaced-fault, over-fault}
use Rattle.columns.proofs.sheet.word_place.Goals as goal

pub returns-in-Word : goal.returns-in-Word
returns-in-Word c = let a = c.args in
    let ws = cut_words a.value.now in
    record { start = c.first_unknown.ensures.start ∙ ap (start_from 0 ws) (unknown-fault (signature_in a.sheet.now a.signature) (number_of a.fault) ws (ap number_of c.in-Word.is)); within = c.first_unknown.ensures.within }

pub returns-in-Clause : goal.returns-in-Clause
returns-in-Clause c = let z = c in let a = z.args in
    let ws = cut_words a.value.now in
    let six : number_of a.fault ≡ 6 = ap number_of c.in-Clause.is in
    let k = z.requires.1.1 (omega (arith, six)) in
    record { start = c.first_misplaced.ensures.start ∙ ap (start_from 0 ws) (misplaced-fault (signature_in a.sheet.now a.signature) (number_of a.fault) ws k.0 k.1 six); within = c.first_misplaced.ensures.within }

pub returns-in_default : goal.returns-in_default
returns-in_default c = let z = c in let a = z.args in
    let ws = cut_words a.value.now in
    let n = number_of a.fault in
    let no5 : n ≡ 5 → ⊥ = λ e. c.in_default.not-Word (same-number a.fault fault.Word e) in
    let no6 : n ≡ 6 → ⊥ = λ e. c.in_default.not-Clause (same-number a.fault fault.Clause e) in
    let k = z.requires.1.1 (omega (arith, z.requires.1.0, no5)) in
    record { start = c.first_over.ensures.start ∙ ap (start_from 0 ws) (over-fault (signature_in a.sheet.now a.signature) n ws k.0 k.1 no5 no6); within = c.first_over.ensures.within }
