-- `arguments` looks the symbol up.
use mathlib.Core.Path.{sym, ap}
use Rattle.theory.specs.Syntax as theory
use Rattle.clauses.proofs.Held.{arity-at, symbol_at-signature_in}
use Rattle.shortening.proofs.terms.arguments.Goals as goal

pub returns : goal.returns
returns c = let s = c.args.signature in record { arity = λ sheet. sym (ap (λ (y : theory.Symbol). y.arity) (symbol_at-signature_in s c.requires.0 sheet c.args.code c.requires.1)); few = arity-at s c.requires.0 c.args.code c.requires.1 }
