-- `after_token` goes by the kind.
use mathlib.Core.Path.{◌≡◌}
use mathlib.Core.Bool.{false}
use native.Mathlib.Omega.{arith}
use Rattle.std.proofs.Common.{rules}
use Rattle.tptp.specs.Tokens.{left_paren, right_paren, comma}
use Rattle.tptp.specs.Scanning.{same_token_kind}
use Rattle.tokens.specs.Pieces.{kind_in}
use Rattle.argument_lists.proofs.Passes.{other-token}
use Rattle.argument_lists.proofs.KeptSlices.{kept_still}
use Rattle.argument_lists.proofs.pass.Lists.after_token.Goals as goal

pub returns-in_default : goal.returns-in_default
returns-in_default c =
    let k = kind_in c.args.kind in
    let l : same_token_kind left_paren k ≡ false = search rules in
    let r : same_token_kind right_paren k ≡ false = search rules in
    let m : same_token_kind comma k ≡ false = search rules in
    record { tells = λ ns w us t. other-token ns k w us _ _ _ t l r m; more = (omega arith, omega arith); same_slices = kept_still _ }
