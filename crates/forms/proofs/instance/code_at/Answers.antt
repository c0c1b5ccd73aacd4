-- `code_at` meets its contract.
use mathlib.Core.Path.{refl}
use native.Mathlib.Omega.{arith}
use Rattle.forms.proofs.Evaluating.{field, place-safe, coefficient-safe, code-made}
use Rattle.forms.proofs.instance.code_at.Goals as goal

pub product_at-x-requires : goal.product_at-x-requires
product_at-x-requires c = let s = c in
    let fs = s.args.forms.now in
    let at = s.args.at in record { at_in_bounds = (omega (arith, s.requires.1.0), s.requires.1.1); at_bound = (place-safe fs at 2 (omega arith) s.requires.0.x, coefficient-safe fs at 2 (omega arith) s.requires.0.a) }

pub product_at-y-requires : goal.product_at-y-requires
product_at-y-requires c = let s = c in
    let fs = s.args.forms.now in
    let at = s.args.at in record { at_in_bounds = (omega (arith, s.requires.1.0), s.requires.1.1); at_bound = (place-safe fs at 4 (omega arith) s.requires.0.y, coefficient-safe fs at 4 (omega arith) s.requires.0.b) }

pub product_at-z-requires : goal.product_at-z-requires
product_at-z-requires c = let s = c in
    let fs = s.args.forms.now in
    let at = s.args.at in record { at_in_bounds = (omega (arith, s.requires.1.0), s.requires.1.1); at_bound = (place-safe fs at 6 (omega arith) s.requires.0.z, coefficient-safe fs at 6 (omega arith) s.requires.0.c) }

pub product_at-w-requires : goal.product_at-w-requires
product_at-w-requires c = let s = c in
    let fs = s.args.forms.now in
    let at = s.args.at in record { at_in_bounds = (omega (arith, s.requires.1.0), s.requires.1.1); at_bound = (place-safe fs at 8 (omega arith) s.requires.0.w, coefficient-safe fs at 8 (omega arith) s.requires.0.d) }

pub overflow_add-result-5 : goal.overflow_add-result-5
overflow_add-result-5 c = let s = c in
    omega (arith, s.requires.0.base, field s.args.forms.now s.args.at 1 (omega arith), c.product_at-x.ensures.small, c.product_at-y.ensures.small, c.product_at-z.ensures.small, c.product_at-w.ensures.small)

pub returns : goal.returns
returns c = let s = c in
    code-made s.args.forms.now s.args.at s.args.values.now _ _ _ _ _ refl c.product_at-x.ensures.product c.product_at-y.ensures.product c.product_at-z.ensures.product c.product_at-w.ensures.product
