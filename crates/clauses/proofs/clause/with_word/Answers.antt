-- `with_word` takes one word more, or none where it is unknown.
use mathlib.Core.Path.{sym}
use Rattle.syntax.specs.Codes.{code_word}
use Rattle.clauses.proofs.Held.{count-signature_in}
use Rattle.clauses.proofs.clause.with_word.Goals as goal

pub returns-in_err-code : goal.returns-in_err-code
returns-in_err-code c = rw c.from_residual.ensures (sym c.in_err-code.ensures.read)

pub with_code-requires : goal.with_code-requires
with_code-requires c = let z = c in
    let k = c.in_ok-code.ensures.coded in
    (z.requires.0.limited, (rw (count-signature_in _ z.requires.0.limited z.args.sheet.now) at k, z.requires.1))

pub returns : goal.returns
returns c = (code_word c.in_ok-code.code, sym c.in_ok-code.ensures.read, c.with_code.ensures c.args.sheet.now)
