-- `weight_of` meets its contract.
use mathlib.Core.Path.{◌≡◌, sym, ◌∙◌}
use native.Mathlib.Omega.{arith}
use Rattle.interpretation.proofs.Ranks.{table-within}
use Rattle.forms.proofs.Weights.{weight-within, weight-past, weight-small}
use Rattle.forms.specs.LinearForms.{rank_weight}
use Prim.Native.Nat.{◌-◌}
use Rattle.forms.proofs.linear.weight_of.Goals as goal

pub overflow_cast-result : goal.overflow_cast-result
overflow_cast-result c = let s = c in
    omega (arith, c.power.ensures, table-within s.args.size.0 (s.args.arity - s.args.j - 1) s.requires.1 (omega (arith, s.requires.0)))

pub returns-then-j-arity : goal.returns-then-j-arity
returns-then-j-arity c = let s = c in
    let e : c.power.result ≡ rank_weight s.args.size.0 s.args.arity s.args.j = c.power.ensures ∙ sym (weight-within s.args.size.0 s.args.arity s.args.j c.if-j-arity.true) in record { weight = e; small = omega (arith, e, weight-small s.args.size.0 s.args.arity s.args.j s.requires.1 s.requires.0) }

pub returns : goal.returns
returns c = let s = c in record { weight = sym (weight-past s.args.size.0 s.args.arity s.args.j (omega arith)); small = omega arith }
