use native.Mathlib.Omega.{arith}
use mathlib.Core.Path.{◌∙◌}
use Rattle.std.proofs.Common.{rules, tests}
use Rattle.std.proofs.lemmas.Iterator.{YieldsList-from_range, serves_from_Range}
use Rattle.std.proofs.lemmas.Iterator.Search.{all_from_yields_List}
use Rattle.syntax.specs.Signatures.{symbol_in}
use Rattle.clauses.proofs.Held.{name-within}
use Rattle.sheet_merging.specs.Merging.{may_meet}
use Rattle.uniting.proofs.Meeting.{at-place, all-places}
use Rattle.uniting.proofs.agreement.agrees.Goals as goal

-- `agrees` compares the symbol with each of the first sheet.
pub all-requires-clause-callable : goal.all-requires-clause-callable
all-requires-clause-callable c = let s = c in
    serves_from_Range (λ x q k. search (rules, tests)) (λ x low high.
    let n = name-within s.args.first.now s.args.own s.requires.0 x high in
    let k = s.requires.0.limited.count in
    search (rules, tests, n, k, s.requires.1))

pub returns : goal.returns
returns c = let s = c in
    let a = s.args in
    let test = at-place (may_meet (symbol_in a.second.now a.symbol)) a.first.now a.own s.requires.0.limited in
    all_from_yields_List test _ _ _ c.all.ensures.ran (YieldsList-from_range 0 a.own.count a.own.count (cc) (omega arith)) (λ x b q k. search (rules, tests))
    ∙ all-places _ a.first.now a.own s.requires.0.limited
