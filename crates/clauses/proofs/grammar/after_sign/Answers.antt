use native.Mathlib.Omega.{arith}
use Rattle.syntax.specs.Signatures.{signature_in}
use Rattle.clauses.proofs.Held.{arity-at}
use Rattle.clauses.proofs.Automaton.{equals-atom, no-atom, symbol-code, function-no-atom, predicate-atom}
use Rattle.clauses.proofs.grammar.after_sign.Goals as goal

-- `after_sign` takes = or a predicate.
pub returns-then-code-eq-EQUALS : goal.returns-then-code-eq-EQUALS
returns-then-code-eq-EQUALS c = record { due = λ sheet. equals-atom _ _ c.if-code-eq-EQUALS.true; pending = omega arith }

pub returns-then-code-ge-PLUS : goal.returns-then-code-ge-PLUS
returns-then-code-ge-PLUS c = let z = c in record { due = λ sheet. no-atom z.args.signature.count z.args.code z.requires.0.count z.requires.1 (signature_in sheet z.args.signature) c.if-code-eq-EQUALS.false c.if-code-ge-PLUS.true; pending = omega arith }

pub bounds-signature-i : goal.bounds-signature-i
bounds-signature-i c = let z = c in omega (arith, symbol-code z.args.signature.count z.args.code z.requires.0.count z.requires.1 c.if-code-ge-PLUS.false, z.requires.0.count)

pub returns-then-symbol : goal.returns-then-symbol
returns-then-symbol c = let z = c in let below = c.if-code-ge-PLUS.false in let held = symbol-code z.args.signature.count z.args.code z.requires.0.count z.requires.1 below in record { due = λ sheet. function-no-atom sheet z.args.signature z.requires.0 z.args.code below held c.if-symbol.true; pending = omega arith }

pub returns : goal.returns
returns c = let z = c in let below = c.if-code-ge-PLUS.false in let held = symbol-code z.args.signature.count z.args.code z.requires.0.count z.requires.1 below in record { due = λ sheet. predicate-atom sheet z.args.signature z.requires.0 z.args.code below held c.if-symbol.false; pending = arity-at z.args.signature z.requires.0 z.args.code held }
