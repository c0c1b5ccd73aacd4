-- `count_clauses` meets its contract.
use mathlib.Core.Path.{refl, sym}
use Rattle.std.proofs.Common.{rules}
use lib.ListN.{length}
use Rattle.finding.proofs.Fitting.{tally-begins, tally-ends}
use Rattle.finding.proofs.one_size.count_clauses.Goals as goal

pub all_clauses-requires : goal.all_clauses-requires
all_clauses-requires c = let s = c in
    let a = s.args in
    let k = c.clear_all in
    let n = length a.work.now in record { accepted = (s.requires.searchable.accepted, s.requires.searchable.positive, s.requires.searchable.within); numbering_of = s.requires.numbering_of; all_next = tally-begins a.sheet.now a.p a.size.0 n a.n.count s.requires.searchable s.requires.numbering_of.count _ n refl refl k.ensures k.auto.work }

pub returns-clause-number : goal.returns-clause-number
returns-clause-number c = let s = c in
    let a = s.args in
    let k = c.clear_all in
    let n = length a.work.now in
    sym (tally-ends a.sheet.now a.p a.size.0 n a.n.count s.requires.searchable s.requires.numbering_of.count _ n refl refl k.ensures k.auto.work _ c.all_clauses.ensures).count

pub returns-clause-tallied : goal.returns-clause-tallied
returns-clause-tallied c = let s = c in
    let a = s.args in
    let k = c.clear_all in
    let n = length a.work.now in
    let e = tally-ends a.sheet.now a.p a.size.0 n a.n.count s.requires.searchable s.requires.numbering_of.count _ n refl refl k.ensures k.auto.work _ c.all_clauses.ensures in
    let same = e.same_reference in
    let tallied = e.work in
    search rules
