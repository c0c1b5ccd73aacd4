-- `reason_of` meets its contract.
use borrow.Author.Rules.{rules}
use mathlib.Core.Path.{◌≡◌}
use lib.ListN.{length}
use Rattle.judging.proofs.ClausesLent.{codes-below}
use Rattle.judging.proofs.ReasonsGiven.{few-values, reason-shown}
use Rattle.judging.proofs.reasons.reason_of.Goals as goal

pub variables_of-variables-requires : goal.variables_of-variables-requires
variables_of-variables-requires c = let z = c in
    let w = c.clause_words in
    (w.ensures.accepted.clause.fits, codes-below _ _ z.requires.accepted _ w.result w.ensures (search rules))

pub values_of-requires : goal.values_of-requires
values_of-requires c = let z = c in
    let w = c.clause_words in
    let v = c.variables_of-variables in
    let long : length z.args.f.values.digits ≡ 10 = search rules in
    (few-values _ _ z.args.f z.requires w.result w.ensures (search rules) v.result v.ensures long, z.requires.below)

pub returns : goal.returns
returns c = let z = c in
    let w = c.clause_words in
    let v = c.variables_of-variables in
    reason-shown _ _ z.args.f z.requires w.result w.ensures (search rules) v.result v.ensures c.letters_of.result c.letters_of.ensures c.values_of.result c.values_of.ensures
