-- `one_clause` meets its contract: the forms of the clause's words, flattened, give its instances.
use mathlib.Core.Path.{sym}
use native.Mathlib.Omega.{arith}
use Rattle.problem.specs.Problems.{problem_in}
use Rattle.stream.proofs.Streams.{consumes-same, consumed-same}
use Rattle.forms.proofs.Groundables.{few-variables, groundable}
use Rattle.instancing.specs.ClauseForms.{all_instances}
use Rattle.instancing.specs.InstancePart.{instances_of}
use Rattle.instancing.proofs.Placing.{words-within, words-forms, words-instances}
use Rattle.instancing.proofs.instances.one_clause.Goals as goal

pub flatten-flat-requires : goal.flatten-flat-requires
flatten-flat-requires g c = let s = c in
    let a = s.args in
    let w = c.clause_words-words in
    let y = c.arities-arities in
    words-within a.sheet.now a.p s.requires.accepted.0 y.result y.ensures a.k w.result w.ensures

pub forms_of-made-requires : goal.forms_of-made-requires
forms_of-made-requires g c = let s = c in
    let a = s.args in
    let w = c.clause_words-words in
    let y = c.arities-arities in
    let f = c.flatten-flat in
    let h = words-within a.sheet.now a.p s.requires.accepted.0 y.result y.ensures a.k w.result w.ensures in
    let e = f.ensures h in
    groundable h f.result a.n a.size.0 e s.requires.numbering_of s.requires.accepted.2

pub clause_instances-requires : goal.clause_instances-requires
clause_instances-requires g c = let s = c in
    let a = s.args in
    let w = c.clause_words-words in
    let y = c.arities-arities in
    let f = c.flatten-flat in
    let h = words-within a.sheet.now a.p s.requires.accepted.0 y.result y.ensures a.k w.result w.ensures in
    let e = f.ensures h in
    let m = c.forms_of-made in
    let safe = groundable h f.result a.n a.size.0 e s.requires.numbering_of s.requires.accepted.2 in
    let o = words-forms a.sheet.now a.p s.requires.accepted.0 y.result y.ensures a.k w.result w.ensures f.result e a.size.0 m.result.count m.result.forms (m.ensures.linear safe) in
    let q = words-instances a.sheet.now a.p s.requires.accepted.0 y.result y.ensures a.k w.result w.ensures f.result e a.size.0 m.result.count m.result.forms (m.ensures.linear safe) in
    let x = a.consumer.now in record { all_safe = (m.ensures.safe, m.ensures.count.1.0, omega (arith, m.ensures.count.1.0, m.ensures.count.1.1), few-variables h f.result a.n a.size.0 e, s.requires.accepted.2); forms_next = (o, consumes-same g.C.ClauseConsumer.effect (instances_of a.size.0 (problem_in a.sheet.now a.p) a.k) (all_instances o) x (sym q) s.requires.clause_next) }

pub returns : goal.returns
returns g c = let s = c in
    let a = s.args in
    let w = c.clause_words-words in
    let y = c.arities-arities in
    let f = c.flatten-flat in
    let h = words-within a.sheet.now a.p s.requires.accepted.0 y.result y.ensures a.k w.result w.ensures in
    let e = f.ensures h in
    let m = c.forms_of-made in
    let safe = groundable h f.result a.n a.size.0 e s.requires.numbering_of s.requires.accepted.2 in
    let o = words-forms a.sheet.now a.p s.requires.accepted.0 y.result y.ensures a.k w.result w.ensures f.result e a.size.0 m.result.count m.result.forms (m.ensures.linear safe) in
    let q = words-instances a.sheet.now a.p s.requires.accepted.0 y.result y.ensures a.k w.result w.ensures f.result e a.size.0 m.result.count m.result.forms (m.ensures.linear safe) in
    let x = a.consumer.now in
    let t = c.clause_instances in
    consumed-same g.C.ClauseConsumer.effect (all_instances o) (instances_of a.size.0 (problem_in a.sheet.now a.p) a.k) x t.new.consumer q (t.ensures o)
