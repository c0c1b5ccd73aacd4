-- `shown_length` meets its contract.
use mathlib.Core.Path.{sym, ap, ◌∙◌, subst}
use Rattle.theory.specs.CaseText.{case_length}
use Rattle.syntax.specs.declared.signature.Signature.{Signature}
use Rattle.syntax.specs.Signatures.{signature_in}
use Rattle.clauses.specs.Names.{Readable}
use Rattle.reading_back.proofs.Shown.{readable-first}
use Rattle.finding.proofs.shown_length.Goals as goal

pub case_length-requires : goal.case_length-requires
case_length-requires c = let s = c in
    let q = s.requires.1 in
    (s.requires.0, (q.0, (subst (Readable q.0) (sym c.declared-shown.ensures) (readable-first s.args.signature q.0 q.1.0), q.1.1)))

pub returns : goal.returns
returns c sheet h = let s = c in
    let y = c.declared-shown in
    c.case_length.ensures sheet (subst (Readable sheet) (sym y.ensures) (readable-first s.args.signature sheet h))
    ∙ ap (λ (y : Signature). case_length s.args.size.0 (signature_in sheet y)) y.ensures
