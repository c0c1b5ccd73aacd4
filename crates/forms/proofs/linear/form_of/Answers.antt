-- `form_of` meets its contract.
use mathlib.Core.Path.{refl}
use native.Mathlib.Omega.{arith}
use Rattle.forms.proofs.Meaning.{predicate-over, function-over, predicate-means, function-means, predicate-safe, function-safe}
use Rattle.forms.proofs.linear.form_of.Goals as goal

pub linear_form-requires : goal.linear_form-requires
linear_form-requires c = let o = c.requires in
    let q = predicate-over o _ c.in-Predicate.is in
    (q.small, (omega arith, (q.few, o.size)))

pub linear_form-requires-in-FunctionResult : goal.linear_form-requires-in-FunctionResult
linear_form-requires-in-FunctionResult c = let o = c.requires in
    let q = function-over o _ _ c.in-FunctionResult.is in
    (q.small, (omega (arith, o.size), (q.few, o.size)))

pub returns-in-Predicate : goal.returns-in-Predicate
returns-in-Predicate c = let e = c.in-Predicate.is in
    rw c.linear_form.ensures (record { safe = (predicate-safe c.requires _ e, refl {a = 10}); means = λ o. predicate-means o _ e })

pub returns-in-FunctionResult : goal.returns-in-FunctionResult
returns-in-FunctionResult c = let e = c.in-FunctionResult.is in
    rw c.linear_form-in-FunctionResult.ensures (record { safe = (function-safe c.requires _ _ e, refl {a = 10}); means = λ o. function-means o _ _ e })
