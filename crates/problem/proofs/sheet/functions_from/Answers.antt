-- `functions_from` reads the functions, then the rest.
use mathlib.Core.Path.{◌≡◌, sym, ◌∙◌}
use mathlib.Core.List.{[]}
use native.Mathlib.Omega.{arith}
use lib.ListN.{length, drop}
use Rattle.theory.specs.Bytes.{bytes}
use Rattle.theory.specs.Syntax.{function, functions}
use Rattle.syntax.specs.Signatures.{signature_in}
use Rattle.clauses.proofs.Held.{count-signature_in}
use Rattle.problem.specs.Sections.{section_from, SectionRead}
use Rattle.problem.specs.Stages.{functions_from}
use Rattle.problem.proofs.SectionLines.{signature_in-none, readable-none}
use Rattle.problem.proofs.Stages.{section-refused, section-read, functions-added}
use Rattle.problem.proofs.sheet.functions_from.Goals as goal
use Rattle.std.proofs.lemmas.Result.{err_from_is_err_and}

pub read_section-requires : goal.read_section-requires
read_section-requires c = let z = c in (z.requires, (readable-none z.args.sheet.now c.empty.result c.empty.ensures, (omega (arith, c.empty.ensures), omega arith)))

pub returns-in_err-f : goal.returns-in_err-f
unfolding functions_from
returns-in_err-f c = let z = c in
    let a = z.args in
    let none : signature_in a.sheet.now c.empty.result ≡ [] = signature_in-none a.sheet.now c.empty.result c.empty.ensures in
    let s : SectionRead a.sheet.now _ _ (section_from (bytes "funs=") (bytes "fun=") function [] 2 (drop a.at a.sheet.now)) _ = rw (none, c.in_err-f.was) at c.read_section.ensures in
    let p = err_from_is_err_and c.from_residual.result c.from_residual.ensures.1 in rw (p.1, p.2) (section-refused a.named a.sheet.now _ _ _ _ _ s)

pub predicates_from-requires : goal.predicates_from-requires
predicates_from-requires c = let z = c in
    let a = z.args in
    let none : signature_in a.sheet.now c.empty.result ≡ [] = signature_in-none a.sheet.now c.empty.result c.empty.ensures in
    let s : SectionRead a.sheet.now _ _ (section_from (bytes "funs=") (bytes "fun=") function [] 2 (drop a.at a.sheet.now)) _ = rw (none, c.in_ok-f.was) at c.read_section.ensures in
    let h = s.held in
    let g = signature_in a.sheet.now c.in_ok-f.f.signature in
    let n : length (functions g) ≡ length g = functions-added (bytes "funs=") (bytes "fun=") 2 (drop a.at a.sheet.now) _ (sym s.read) in (
      record { within = h.next; readable = h.readable; few = omega (arith, h.count, c.empty.ensures); line = h.line; counted = sym (n ∙ count-signature_in c.in_ok-f.f.signature h.readable.limited a.sheet.now) },
      omega (arith, h.count, c.empty.ensures),
    )

pub returns : goal.returns
unfolding functions_from
returns c = let z = c in
    let a = z.args in
    let none : signature_in a.sheet.now c.empty.result ≡ [] = signature_in-none a.sheet.now c.empty.result c.empty.ensures in
    let s : SectionRead a.sheet.now _ _ (section_from (bytes "funs=") (bytes "fun=") function [] 2 (drop a.at a.sheet.now)) _ = rw (none, c.in_ok-f.was) at c.read_section.ensures in
    section-read a.named a.sheet.now _ _ _ _ _ c.predicates_from.result s c.predicates_from.ensures
