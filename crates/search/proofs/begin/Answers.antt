use mathlib.Core.Path.{◌≡◌, refl}
use Prim.Native.Nat.{◌+◌, ◌*◌}
use native.Mathlib.Omega.{arith}
use Rattle.std.proofs.Common.{rules, Err}
use Rattle.propagation.specs.Clauses.{coded}
use Rattle.search.proofs.Beginning.{beginning-start, begun-visitable, begun-turn, begun-stop, begun-done}
use Rattle.search.proofs.begin.Goals as goal

pub loop-address-init : goal.loop-address-init
loop-address-init c cs first k n = beginning-start c.args.v (coded cs) (7 * c.args.v) c.args.work.now refl k.held

pub visit-requires : goal.visit-requires
visit-requires c =
    let k = c.requires.loaded in
    begun-visitable _ _ c.requires.first _ k (7 * c.args.v + c.args.m) _ _ _ (omega (arith, c.requires.number)) (omega arith)
    (c.loop-address.invariant c.requires.clauses c.requires.first k c.requires.number) c.loop-address-test.true

pub returns-in_err-entries : goal.returns-in_err-entries
returns-in_err-entries c =
    let clashes : c.from_residual.result ≡ Err c.in_err-entries.field-0.0 = search rules in
    rw clashes
    (λ cs first k n.
    begun-stop _ cs first _ k (7 * c.args.v + c.args.m) _ _ _ (omega (arith, n)) (omega arith) (c.loop-address.invariant cs first k n) c.loop-address-test.true
    _ _ c.in_err-entries.ensures)

pub loop-address-preserved : goal.loop-address-preserved
loop-address-preserved c cs first k n =
    begun-turn _ cs first _ k (7 * c.args.v + c.args.m) _ _ _ (omega (arith, n)) (omega arith) (c.loop-address.invariant cs first k n) c.loop-address-test.true
    _ _ c.in_ok-entries.ensures

pub returns : goal.returns
returns c cs first k n =
    begun-done _ cs first _ k (7 * c.args.v + c.args.m) _ _ _ (omega (arith, n)) (omega arith) (c.loop-address.invariant cs first k n) c.loop-address-test.false
