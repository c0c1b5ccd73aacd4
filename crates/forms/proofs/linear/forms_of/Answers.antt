use Prim.Native.Nat.{ℕ, suc, ◌+◌, ◌<◌}
use mathlib.Core.Path.{◌≡◌, refl, sym, subst}
use native.Mathlib.Omega.{arith}
use Rattle.forms.proofs.Gathering.{literal-over, Gathered, one-gathered, gathered-safe, gathered-linear}
use Rattle.forms.proofs.linear.forms_of.Goals as goal

pub form_of-form-requires : goal.form_of-form-requires
form_of-form-requires c = let s = c in
    literal-over s.requires c.loop-i.i (omega arith)

pub loop-i-preserved : goal.loop-i-preserved
loop-i-preserved c = let l = c.loop-i in
    let s = c in
    let a = s.args in
    let f = c.form_of-form in
    let p = c.put in
    let lt : l.i < a.flat.count = omega arith in
    let n : suc l.i ≡ l.i + 1 = omega arith in
    subst (λ (k : ℕ). Gathered a.arities.now a.flat a.n a.size.0 k p.new.forms) n
    (subst (Gathered a.arities.now a.flat a.n a.size.0 (suc l.i)) (sym p.ensures)
    (one-gathered a.arities.now a.flat a.n a.size.0 l.i l.forms f.result l.invariant lt s.requires.count f.ensures.safe.1 f.ensures.safe.0 f.ensures.means))

pub returns : goal.returns
returns c = let l = c.loop-i in
    let s = c in
    let a = s.args in
    let e : l.i ≡ a.flat.count = omega (arith, l.invariant.within) in
    let p : Gathered a.arities.now a.flat a.n a.size.0 a.flat.count l.forms = subst (λ (k : ℕ). Gathered a.arities.now a.flat a.n a.size.0 k l.forms) e l.invariant in record { count = (refl, (s.requires.count, l.invariant.held)); safe = gathered-safe a.arities.now a.flat a.n a.size.0 l.forms p; linear = gathered-linear a.arities.now a.flat a.n a.size.0 l.forms p }
