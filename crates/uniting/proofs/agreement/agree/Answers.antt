use native.Mathlib.Omega.{arith}
use mathlib.Core.Path.{◌∙◌}
use Rattle.std.proofs.Common.{rules, tests}
use Rattle.std.proofs.lemmas.Iterator.{YieldsList-from_range, serves_from_Range}
use Rattle.std.proofs.lemmas.Iterator.Search.{all_from_yields_List}
use Rattle.theory.specs.Lists as lists
use Rattle.theory.specs.Syntax.{Symbol}
use Rattle.syntax.specs.Signatures.{signature_in}
use Rattle.clauses.proofs.Held.{name-within}
use Rattle.sheet_merging.specs.Merging.{may_meet, agree}
use Rattle.uniting.proofs.Meeting.{at-place, all-places}
use Rattle.uniting.proofs.agreement.agree.Goals as goal

-- `agree` compares each symbol of the second sheet.
pub all-requires-clause-callable : goal.all-requires-clause-callable
all-requires-clause-callable c = let s = c in
    serves_from_Range (λ x q k. search (rules, tests)) (λ x low high.
    let n = name-within s.args.second.now s.args.other s.requires.1 x high in
    let k = s.requires.1.limited.count in
    search (rules, tests, n, k, s.requires.0))

pub returns : goal.returns
unfolding agree
returns c = let s = c in
    let a = s.args in
    let test = at-place (λ (v : Symbol). lists.all (may_meet v) (signature_in a.first.now a.own)) a.second.now a.other s.requires.1.limited in
    all_from_yields_List test _ _ _ c.all.ensures.ran (YieldsList-from_range 0 a.other.count a.other.count (cc) (omega arith)) (λ x b q k. search (rules, tests))
    ∙ all-places _ a.second.now a.other s.requires.1.limited
