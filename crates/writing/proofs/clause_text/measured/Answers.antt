-- `measured` meets its contract.
use mathlib.Core.Path.{refl, ◌∙◌}
use native.Mathlib.Nat.{zero-add}
use native.Mathlib.Omega.{arith}
use Rattle.problem.specs.Problems.{problem_in}
use Rattle.encoding.proofs.Passes.{measure-begins, measure-ends}
use Rattle.writing.proofs.clause_text.measured.Goals as goal

pub all_clauses-requires : goal.all_clauses-requires
unfolding problem_in
all_clauses-requires c = let z = c in
    let a = z.args in
    let h = z.requires.0 in record { accepted = (h.sized.accepted, h.sized.positive, h.sized.within); numbering_of = z.requires.1; all_next = measure-begins a.sheet.now a.p h.sized.accepted a.size.0 h.sized.within h.instances h.sized.positive (record { at = 0; count = 0 }) (omega arith) refl }

pub returns : goal.returns
unfolding problem_in
returns c = let z = c in
    let a = z.args in
    let h = z.requires.0 in
    let e =
    measure-ends a.sheet.now a.p h.sized.accepted a.size.0 h.sized.within h.instances h.sized.positive (record { at = 0; count = 0 }) (omega arith) refl _ c.all_clauses.ensures in record { count = e.count; length = e.at ∙ zero-add _ }
