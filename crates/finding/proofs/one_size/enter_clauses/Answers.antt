-- `enter_clauses` meets its contract.
use mathlib.Core.Path.{refl, ◌∙◌}
use Rattle.std.proofs.Common.{rules}
use lib.ListN.{length, length-map}
use Rattle.propagation.specs.Clauses.{codes}
use Rattle.stream.specs.Literals.{all_codes}
use Rattle.finding.specs.Searching.{sheet_clauses}
use Rattle.finding.proofs.Fitting.{boundable, enter-begins, enter-ends}
use Rattle.finding.proofs.one_size.enter_clauses.Goals as goal

pub bounds-requires : goal.bounds-requires
bounds-requires c = let s = c in
    let a = s.args in
    boundable a.sheet.now a.p a.size.0 (length a.work.now) a.n.count s.requires.searchable s.requires.numbering_of.count a.m a.work.now s.requires.p_len refl s.requires.tallied

pub all_clauses-requires : goal.all_clauses-requires
all_clauses-requires c = let s = c in
    let a = s.args in
    let b = c.bounds in
    let cs = sheet_clauses a.size.0 a.sheet.now a.p in record { accepted = (s.requires.searchable.accepted, s.requires.searchable.positive, s.requires.searchable.within); numbering_of = s.requires.numbering_of; all_next = enter-begins a.sheet.now a.p a.size.0 (length a.work.now) a.n.count s.requires.searchable s.requires.numbering_of.count _ refl refl (b.ensures (all_codes cs) s.requires.tallied (length-map cs codes ∙ s.requires.p_len)) }

pub returns : goal.returns
returns c = let s = c in
    let a = s.args in
    let b = c.bounds in
    let cs = sheet_clauses a.size.0 a.sheet.now a.p in
    let e = enter-ends a.sheet.now a.p a.size.0 (length a.work.now) a.n.count s.requires.searchable s.requires.numbering_of.count _ refl refl (b.ensures (all_codes cs) s.requires.tallied (length-map cs codes ∙ s.requires.p_len)) _ c.all_clauses.ensures in
    let same = e.same_reference in
    let entered = e.work in
    search rules
