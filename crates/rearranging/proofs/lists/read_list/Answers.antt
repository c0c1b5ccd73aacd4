use mathlib.Core.Path.{sym, ap, ◌∙◌}
use native.Mathlib.Omega.{arith}
use Rattle.std.specs.Prelude as rust
use Rattle.std.specs.Prelude.{is_some}
use Rattle.rearranging.specs.declared.rearrangement.Rearrangement.{Rearrangement}
use Rattle.rearranging.proofs.Listing.{none-listed, other_length, byte-zero, too_large, counted, one-listed, entries-listed, decided, some-told, some-held}
use Rattle.rearranging.proofs.lists.read_list.Goals as goal

pub returns-then-list-size-clause-taken : goal.returns-then-list-size-clause-taken
returns-then-list-size-clause-taken c = sym (other_length _ _ c.if-list-size.true)

pub loop-b-init : goal.loop-b-init
loop-b-init c = (none-listed _ _ c.none-r.ensures.held c.none-r.ensures.entries, c.if-list-size.false)

pub returns-in_err-d-clause-taken : goal.returns-in_err-d-clause-taken
returns-in_err-d-clause-taken c = rw c.from_residual.ensures (sym (byte-zero _ _ c.loop-b.b-index c.loop-b-test.true (omega (arith, c.in_err-d.ensures))))

pub returns-then-size-d-clause-taken : goal.returns-then-size-d-clause-taken
returns-then-size-d-clause-taken c = let l = c.loop-b in
    sym (too_large _ _ l.b-index c.loop-b-test.true l.invariant.1 (omega (arith, c.if-size-d.true, c.in_ok-d.ensures.1)))

pub with-r-requires : goal.with-r-requires
with-r-requires c = let s = c in
    let l = c.loop-b in
    (l.invariant.0.held, (omega (arith, c.if-size-d.false, s.requires), omega (arith, counted s.args.list.now l.r l.b-index l.invariant.0, c.loop-b-test.true, l.invariant.1, s.requires)))

pub loop-b-preserved : goal.loop-b-preserved
loop-b-preserved c = let s = c in
    let l = c.loop-b in
    let w = c.with-r in
    (one-listed s.args.list.now l.r l.b-index l.invariant.0 c.loop-b-test.true (λ z. omega (arith, z, c.in_ok-d.ensures.0)) w.result w.ensures.held (rw c.in_ok-d.ensures.1 at w.ensures.entries), l.invariant.1)

pub covers-requires : goal.covers-requires
covers-requires c = (c.loop-b.invariant.0.held, c.requires)

pub returns-clause-taken : goal.returns-clause-taken
returns-clause-taken c = let s = c in
    let a = s.args in
    let l = c.loop-b in
    ap (λ (o : rust.Option Rearrangement). is_some o) c.then_some.ensures ∙ some-told c.covers.result l.r ∙ c.covers.ensures ∙ sym (decided a.list.now l.r l.b-index l.invariant.0 (omega arith) a.size.0 l.invariant.1)

pub returns-clause-entries : goal.returns-clause-entries
returns-clause-entries c = let s = c in
    let a = s.args in
    let l = c.loop-b in
    rw c.then_some.ensures (some-held a.list.now c.covers.result l.r l.invariant.0.held (entries-listed a.list.now l.r l.b-index l.invariant.0 (omega arith) a.size.0 l.invariant.1))
