-- `short_clause` shortens the line with the names that its terms have.
use Prim.Native.Nat.{◌+◌}
use mathlib.Core.Path.{sym, subst}
use Rattle.problem.specs.Problems.{WordsOf}
use Rattle.problem.proofs.WordsAgain.{short-asks, short-told, short-there}
use Rattle.problem.proofs.named_words.short_clause.Goals as goal

pub line_end-end-requires : goal.line_end-end-requires
line_end-end-requires c = let z = c in (z.requires.0.lines z.args.k z.requires.1.0).within

pub shorten-requires : goal.shorten-requires
shorten-requires c = let z = c in
    let a = z.args in
    let e = c.line_end-end in
    short-asks a.sheet.now a.p z.requires.0 c.declared_of.result c.declared_of.ensures z.requires.1.1 a.k z.requires.1.0 e.result e.ensures

pub unreachable-requires : goal.unreachable-requires
unreachable-requires c = let z = c in
    let a = z.args in
    let e = c.line_end-end in
    let d = c.declared_of in
    short-there a.sheet.now a.p z.requires.0 d.result d.ensures z.requires.1.1 a.k z.requires.1.0 e.result e.ensures c.in_default.ensures

pub returns : goal.returns
returns c = let z = c in
    let a = z.args in
    let e = c.line_end-end in
    let d = c.declared_of in
    subst (WordsOf a.sheet.now a.p (a.p.terms.count + a.k)) (sym c.kept_codes.ensures)
    (short-told a.sheet.now a.p z.requires.0 d.result d.ensures z.requires.1.1 a.k z.requires.1.0 e.result e.ensures c.in-Some.line c.in-Some.ensures)
