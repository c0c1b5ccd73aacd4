-- `predicates_from` reads the predicates, then the clauses.
use mathlib.Core.Path.{sym, ap, ◌∙◌}
use native.Mathlib.Omega.{arith}
use lib.ListN.{length, drop}
use Rattle.theory.specs.Bytes.{bytes}
use Rattle.theory.specs.Syntax.{predicate}
use Rattle.syntax.specs.Signatures.{signature_in}
use Rattle.problem.specs.Sections.{section_from, SectionRead}
use Rattle.problem.specs.Stages.{predicates_from}
use Rattle.problem.proofs.Stages.{section-refused, section-read, predicates-added}
use Rattle.problem.proofs.sheet.predicates_from.Goals as goal
use Rattle.std.proofs.lemmas.Result.{err_from_is_err_and}

pub read_section-requires : goal.read_section-requires
read_section-requires c = let p = c.requires in (p.0.within, (p.0.readable, (p.1, omega (arith, p.0.line))))

pub returns-in_err-p : goal.returns-in_err-p
unfolding predicates_from
returns-in_err-p c = let a = c.args in
    let p = err_from_is_err_and c.from_residual.result c.from_residual.ensures.1 in rw (p.1, p.2) (section-refused a.named a.sheet.now _ _ _ _ _ (rw c.in_err-p.was at c.read_section.ensures))

pub clauses_from-requires : goal.clauses_from-requires
clauses_from-requires c = let z = c in
    let a = z.args in
    let g = signature_in a.sheet.now a.before in
    let s : SectionRead a.sheet.now _ _ (section_from (bytes "preds=") (bytes "pred=") predicate g a.line (drop a.at a.sheet.now)) _ = rw c.in_ok-p.was at c.read_section.ensures in
    let h = s.held in
    record { within = h.next; readable = h.readable; few = omega (arith, h.count, z.requires.1); line = omega (arith, h.line, z.requires.0.line); counted = z.requires.0.counted ∙ ap length (sym (predicates-added _ _ g _ _ _ (sym s.read))) }

pub returns : goal.returns
unfolding predicates_from
returns c = let a = c.args in
    section-read a.named a.sheet.now _ _ _ _ _ c.clauses_from.result (rw c.in_ok-p.was at c.read_section.ensures) c.clauses_from.ensures
