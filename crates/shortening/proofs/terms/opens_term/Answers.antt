use native.Mathlib.Omega.{arith}
use borrow.Author.Tests.{not-true, not-false}
use Rattle.clauses.proofs.Automaton.{symbol-code}
use Rattle.shortening.proofs.Openings.{fixed-closed, predicate-closed, function-opens}
use Rattle.shortening.proofs.terms.opens_term.Goals as goal

-- `opens_term` looks at the symbol's kind and arity.
pub returns-then-code-ge-PLUS : goal.returns-then-code-ge-PLUS
returns-then-code-ge-PLUS c sheet = let z = c in fixed-closed _ z.args.signature.count z.args.code (omega (arith, z.requires.0.count)) z.requires.1 c.if-code-ge-PLUS.true

pub bounds-signature-i : goal.bounds-signature-i
bounds-signature-i c = let z = c in omega (arith, z.requires.0.count, symbol-code z.args.signature.count z.args.code z.requires.0.count z.requires.1 c.if-code-ge-PLUS.false)

pub returns-then-not-symbol : goal.returns-then-not-symbol
returns-then-not-symbol c sheet = let z = c in
    let a = z.args in
    let l = c.if-code-ge-PLUS.false in
    predicate-closed sheet a.signature z.requires.0 a.code l (symbol-code a.signature.count a.code z.requires.0.count z.requires.1 l) (not-true _ c.if-not-symbol.true)

pub returns : goal.returns
returns c sheet = let z = c in
    let a = z.args in
    let l = c.if-code-ge-PLUS.false in
    function-opens sheet a.signature z.requires.0 a.code l (symbol-code a.signature.count a.code z.requires.0.count z.requires.1 l) (not-false _ c.if-not-symbol.false)
