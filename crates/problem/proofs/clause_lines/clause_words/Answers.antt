-- `clause_words` reads the clause at its place again, or gives its words in the mode.
use native.Mathlib.Omega.{arith}
use Rattle.problem.proofs.WordsAgain.{words-again, words-there}
use Rattle.problem.proofs.clause_lines.clause_words.Goals as goal

pub line_end-end-requires : goal.line_end-end-requires
line_end-end-requires c = let z = c in (z.requires.0.lines z.args.k (omega (arith, z.requires.1, c.if-p-ne0.false))).within

pub unreachable-requires : goal.unreachable-requires
unreachable-requires c = let z = c in
    let a = z.args in
    words-there a.sheet.now a.p z.requires.0 c.if-p-ne0.false a.k z.requires.1 _ c.line_end-end.ensures c.in_default.ensures

pub returns : goal.returns
returns c = let z = c in
    let a = z.args in
    rw c.kept_codes.ensures (words-again a.sheet.now a.p z.requires.0 c.if-p-ne0.false a.k z.requires.1 _ c.line_end-end.ensures c.in-Some.words c.in-Some.ensures)
