-- `after_terms` takes a letter or a function, or a sign where nothing is due.
use Prim.Native.Nat.{ℕ, ◌-◌}
use mathlib.Core.Path.{sym, ap, ◌∙◌}
use native.Mathlib.Omega.{arith}
use Rattle.theory.specs.Grammar.{terms, due_after}
use Rattle.syntax.specs.Signatures.{signature_in}
use Rattle.syntax.specs.Codes.{code_word}
use Rattle.clauses.proofs.Held.{arity-at}
use Rattle.clauses.proofs.Automaton.{some-due, letter-term, no-term, symbol-code, function-term, predicate-no-term}
use Rattle.clauses.proofs.grammar.after_terms.Goals as goal

pub returns-then-n-eq0 : goal.returns-then-n-eq0
returns-then-n-eq0 c = let a = c.args in record { due = λ sheet. c.after_literal.ensures.due (signature_in sheet a.signature) ∙ ap (λ (k : ℕ). due_after (signature_in sheet a.signature) (terms k) (code_word a.code)) (sym c.if-n-eq0.true); pending = omega (arith, c.after_literal.ensures.pending) }

pub returns-then-code-ge-LETTER : goal.returns-then-code-ge-LETTER
returns-then-code-ge-LETTER c = let a = c.args in record { due = λ sheet. some-due (signature_in sheet a.signature) a.n (code_word a.code) _ c.if-n-eq0.false (letter-term _ a.code (a.n - 1) c.if-code-ge-LETTER.true); pending = omega arith }

pub returns-then-code-ge-PLUS : goal.returns-then-code-ge-PLUS
returns-then-code-ge-PLUS c = let z = c in
    let a = z.args in record { due = λ sheet. some-due (signature_in sheet a.signature) a.n (code_word a.code) _ c.if-n-eq0.false (no-term a.signature.count a.code z.requires.0.count z.requires.1.0 _ (a.n - 1) c.if-code-ge-PLUS.true c.if-code-ge-LETTER.false); pending = omega arith }

pub bounds-signature-i : goal.bounds-signature-i
bounds-signature-i c = let z = c in
    let a = z.args in
    let below = c.if-code-ge-PLUS.false in
    let held = symbol-code a.signature.count a.code z.requires.0.count z.requires.1.0 below in
    omega (arith, z.requires.0.count)

pub overflow_add-result : goal.overflow_add-result
overflow_add-result c = let z = c in
    let a = z.args in
    let below = c.if-code-ge-PLUS.false in
    let held = symbol-code a.signature.count a.code z.requires.0.count z.requires.1.0 below in
    omega (arith, z.requires.1.1, arity-at a.signature z.requires.0 a.code held)

pub returns-then-symbol : goal.returns-then-symbol
returns-then-symbol c = let z = c in
    let a = z.args in
    let below = c.if-code-ge-PLUS.false in
    let held = symbol-code a.signature.count a.code z.requires.0.count z.requires.1.0 below in record { due = λ sheet. some-due (signature_in sheet a.signature) a.n (code_word a.code) _ c.if-n-eq0.false (function-term sheet a.signature z.requires.0 a.code below held (a.n - 1) c.if-symbol.true); pending = omega (arith, arity-at a.signature z.requires.0 a.code held) }

pub returns : goal.returns
returns c = let z = c in
    let a = z.args in
    let below = c.if-code-ge-PLUS.false in
    let held = symbol-code a.signature.count a.code z.requires.0.count z.requires.1.0 below in record { due = λ sheet. some-due (signature_in sheet a.signature) a.n (code_word a.code) _ c.if-n-eq0.false (predicate-no-term sheet a.signature z.requires.0 a.code below held (a.n - 1) c.if-symbol.false); pending = omega arith }
