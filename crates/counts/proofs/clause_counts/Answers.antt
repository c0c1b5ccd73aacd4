-- `clause_counts` meets its contract.
use native.Mathlib.Omega.{arith}
use Rattle.syntax.specs.Signatures.{signature_in}
use Rattle.syntax.specs.Codes.{clause_in}
use Rattle.counts.proofs.Adding.{flat-variables, literals-few, clause-total, words-within}
use Rattle.counts.proofs.clause_counts.Goals as goal

pub flatten-flat-requires : goal.flatten-flat-requires
flatten-flat-requires c = let z = c in
    let a = z.args in
    let w = c.clause_words-words in
    words-within a.sheet.now a.p z.requires.0 a.k w.result c.arities-arities.result w.ensures c.arities-arities.ensures

pub power-instances-requires : goal.power-instances-requires
power-instances-requires c = let z = c in
    let a = z.args in
    let w = c.clause_words-words in
    let h = words-within a.sheet.now a.p z.requires.0 a.k w.result c.arities-arities.result w.ensures c.arities-arities.ensures in
    let g = signature_in a.sheet.now a.p.signature in
    (z.requires.2, omega (arith, flat-variables g (clause_in g w.result) c.flatten-flat.result (c.flatten-flat.ensures h), w.ensures.accepted.variables))

pub overflow_mul-result : goal.overflow_mul-result
overflow_mul-result c = let z = c in
    let a = z.args in
    let w = c.clause_words-words in
    let h = words-within a.sheet.now a.p z.requires.0 a.k w.result c.arities-arities.result w.ensures c.arities-arities.ensures in
    let g = signature_in a.sheet.now a.p.signature in
    let f = c.flatten-flat in
    omega (
      arith,
      literals-few g (clause_in g w.result) f.result (f.ensures h) w.ensures.accepted.variables w.ensures.accepted.literals a.size.0 z.requires.2
          c.power-instances.result c.power-instances.ensures,
    )

pub returns : goal.returns
returns c = let z = c in
    let a = z.args in
    let w = c.clause_words-words in
    let h = words-within a.sheet.now a.p z.requires.0 a.k w.result c.arities-arities.result w.ensures c.arities-arities.ensures in
    let g = signature_in a.sheet.now a.p.signature in
    let f = c.flatten-flat in
    clause-total g (clause_in g w.result) f.result (f.ensures h) w.ensures.accepted.variables w.ensures.accepted.literals a.size.0 z.requires.2
    c.power-instances.result c.power-instances.ensures _ w.ensures.clause
