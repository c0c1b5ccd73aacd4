-- `helper_clause` reads the helper's term from its place.
use mathlib.Core.Path.{sym, subst}
use native.Mathlib.Omega.{arith}
use Rattle.problem.specs.Problems.{WordsOf}
use Rattle.problem.proofs.WordsAgain.{helper-asks, helper-told}
use Rattle.problem.proofs.named_words.helper_clause.Goals as goal

pub overflow_add-declared : goal.overflow_add-declared
overflow_add-declared c = let z = c in
    let a = helper-asks z.args.sheet.now z.args.p z.requires.0 c.declared_of-declared.result c.declared_of-declared.ensures z.args.k z.requires.1 in
    omega (arith, a.below, a.limited.count)

pub helper_words-requires : goal.helper_words-requires
helper_words-requires c = let z = c in
    helper-asks z.args.sheet.now z.args.p z.requires.0 c.declared_of-declared.result c.declared_of-declared.ensures z.args.k z.requires.1

pub returns : goal.returns
returns c = let z = c in
    let w = c.helper_words in
    subst (WordsOf z.args.sheet.now z.args.p z.args.k) (sym c.kept_codes.ensures)
    (helper-told z.args.sheet.now z.args.p z.requires.0 c.declared_of-declared.result c.declared_of-declared.ensures z.args.k z.requires.1 w.result w.ensures)
