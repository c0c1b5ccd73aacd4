-- `search_size` meets its contract.
use mathlib.Core.Path.{sym, ◌∙◌}
use Rattle.theory.specs.Walk.{yes_first}
use Rattle.syntax.specs.Signatures.{signature_in}
use Rattle.finding.specs.Searching.{sheet_clauses}
use Rattle.finding.proofs.Searched.{searched-walked}
use Rattle.finding.proofs.one_size.search_size.Goals as goal

pub returns : goal.returns
returns c = let s = c in
    let a = s.args in
    let l = c.load-m in
    let t = c.solve in
    searched-walked a.sheet.now a.p a.size.0 a.n.count a.allowed (s.requires.by_index a.sheet.now).count
    ∙ sym (t.ensures (sheet_clauses a.size.0 a.sheet.now a.p) (yes_first a.size.0 (signature_in a.sheet.now a.p.signature)) l.ensures.loaded l.ensures.number).ends
