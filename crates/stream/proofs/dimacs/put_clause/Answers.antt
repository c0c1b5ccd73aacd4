use mathlib.Core.Path.{sym}
use native.Mathlib.Omega.{arith}
use native.Mathlib.Numerals.{add-one}
use lib.ListN.{get_or, take, length-set}
use Rattle.text.specs.Put.{put-none, put-run, cursor-run}
use Rattle.stream.specs.Literals.{prop_clause_of, literal_of, literal_spaced}
use Rattle.stream.proofs.Texts.{body, body_more, body-fits, line-ended, end_fits}
use Rattle.stream.proofs.dimacs.put_clause.Goals as goal

pub loop-l-init : goal.loop-l-init
loop-l-init c = (sym (put-none c.args.out.now c.args.at), omega arith)

pub put_literal-e-requires : goal.put_literal-e-requires
put_literal-e-requires c = omega (arith, c.requires, body-fits c.args.clause.now c.loop-l.l-index c.loop-l-test.true)

pub loop-l-preserved : goal.loop-l-preserved
loop-l-preserved c =
    let l = c.loop-l in
    let a = c.args in
    let us = a.clause.now in
    let more = body_more us l.l-index c.loop-l-test.true in (
      rw (add-one, more) (put-run a.out.now l.out c.put_literal-e.new.out a.at l.e (body (prop_clause_of (take l.l-index us))) (literal_spaced (literal_of (get_or us l.l-index 0))) l.invariant.0 l.invariant.1 c.put_literal-e.ensures.written
          (omega (arith, c.requires, body-fits us l.l-index c.loop-l-test.true))),
      rw (add-one, more) (cursor-run a.at l.e c.put_literal-e.result (body (prop_clause_of (take l.l-index us))) (literal_spaced (literal_of (get_or us l.l-index 0))) l.invariant.1 c.put_literal-e.ensures.place),
    )

pub bounds-out-e : goal.bounds-out-e
bounds-out-e c = omega (arith, c.requires, end_fits c.args.clause.now c.loop-l.l-index (omega arith))

pub overflow_add-out : goal.overflow_add-out
overflow_add-out c = omega (arith, c.requires, c.well_formed, end_fits c.args.clause.now c.loop-l.l-index (omega arith))

pub bounds-out-e-2 : goal.bounds-out-e-2
bounds-out-e-2 c = simp length-set (omega (arith, c.requires, end_fits c.args.clause.now c.loop-l.l-index (omega arith)))

pub overflow_add-result : goal.overflow_add-result
overflow_add-result c = omega (arith, c.requires, c.well_formed, end_fits c.args.clause.now c.loop-l.l-index (omega arith))

pub returns : goal.returns
returns c =
    let both = line-ended c.args.out.now c.loop-l.out c.args.at c.loop-l.e c.args.clause.now c.loop-l.l-index (omega arith) c.requires c.loop-l.invariant.0 c.loop-l.invariant.1 in
    record { written = both.0; place = both.1 }
