use borrow.Author.Rules.{rules}
use mathlib.Core.Path.{◌≡◌, sym, ◌∙◌}
use Rattle.std.specs.Prelude.{Some, None, eqb}
use Rattle.std.specs.List.{position}
use Rattle.search.proofs.LowestUnset.{first-unset, none-unset}
use Rattle.search.proofs.unset.Goals as goal

-- `unset` meets its contract.
pub returns-in_err-variable : goal.returns-in_err-variable
returns-in_err-variable c =
    let zs = c.args.values.now in
    let none_there : position (λ z. eqb z 0) zs ≡ None = search rules in
    let e : c.from_residual.result ≡ None = search rules in
    e ∙ sym (none-unset zs none_there)

pub returns : goal.returns
returns c =
    let zs = c.args.values.now in
    let x = c.in_ok-variable.variable in
    let there : position (λ z. eqb z 0) zs ≡ Some x = search rules in
    sym (first-unset zs x there)
