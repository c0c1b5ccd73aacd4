-- `put_clauses` meets its contract.
use Rattle.std.proofs.Common.{rules}
use mathlib.Core.Path.{refl}
use Rattle.problem.specs.Problems.{problem_in}
use Rattle.encoding.proofs.Passes.{write-begins, write-ends}
use Rattle.writing.proofs.clause_text.put_clauses.Goals as goal

pub all_clauses-requires : goal.all_clauses-requires
unfolding problem_in
all_clauses-requires c = let z = c in
    let a = z.args in
    let h = z.requires.writable.0 in
    let n = z.requires.writable.1 in record { accepted = (h.sized.accepted, h.sized.positive, h.sized.within); numbering_of = n; all_next = write-begins a.sheet.now a.p h.sized.accepted a.size.0 h.sized.within h.instances h.sized.positive _ z.requires.size_in_bounds refl }

pub returns-clause-place : goal.returns-clause-place
unfolding problem_in
returns-clause-place c = let z = c in
    let a = z.args in
    let h = z.requires.writable.0 in
    (write-ends a.sheet.now a.p h.sized.accepted a.size.0 h.sized.within h.instances h.sized.positive _ z.requires.size_in_bounds refl _ c.all_clauses.ensures).at

pub returns-clause-written : goal.returns-clause-written
unfolding problem_in
returns-clause-written c = let z = c in
    let a = z.args in
    let h = z.requires.writable.0 in
    let e = write-ends a.sheet.now a.p h.sized.accepted a.size.0 h.sized.within h.instances h.sized.positive _ z.requires.size_in_bounds refl _ c.all_clauses.ensures in
    let same = e.same_reference in
    let text = e.output in
    search rules
