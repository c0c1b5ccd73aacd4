use native.Mathlib.Omega.{arith}
use Rattle.instancing.proofs.Walking.{clause-consumes, clause-consumed, all-clauses}
use Rattle.instancing.proofs.instances.all_instances.Goals as goal

pub one_clause-requires : goal.one_clause-requires
one_clause-requires g c = let s = c in
    let a = s.args in
    let l = c.loop-k in record { accepted = (s.requires.accepted.0, omega arith, s.requires.accepted.1); numbering_of = s.requires.numbering_of; clause_next = clause-consumes g.C.ClauseConsumer.effect a.consumer.now a.size.0 a.sheet.now a.p s.requires.accepted.0 l.k l.consumer (omega arith) s.requires.instances_next l.invariant }

pub loop-k-preserved : goal.loop-k-preserved
loop-k-preserved g c = let a = c.args in
    let l = c.loop-k in
    let t = c.one_clause in
    clause-consumed g.C.ClauseConsumer.effect a.consumer.now a.size.0 a.sheet.now a.p l.k l.consumer
    t.new.consumer l.invariant t.ensures

pub returns : goal.returns
returns g c = let s = c in
    let a = s.args in
    let l = c.loop-k in
    all-clauses g.C.ClauseConsumer.effect a.consumer.now a.size.0 a.sheet.now a.p s.requires.accepted.0 l.k l.consumer (omega arith) l.invariant
