-- `read_words` reads no words of an empty line, and those between the spaces of any other.
use mathlib.Core.Path.{sym, subst}
use mathlib.Core.List.{List}
use Prim.Native.Nat.{ℕ}
use Rattle.syntax.specs.Signatures.{signature_in}
use Rattle.clauses.specs.Clauses.{WordsRead}
use Rattle.clauses.proofs.Going.{nothing, all_words}
use Rattle.clauses.proofs.clause.read_words.Goals as goal

pub returns-then-value-eq0 : goal.returns-then-value-eq0
returns-then-value-eq0 c = let a = c.args in
    let g = signature_in a.sheet.now a.signature in
    rw c.no_words.ensures (nothing g a.value.now c.if-value-eq0.true)

pub returns : goal.returns
returns c = let a = c.args in
    let g = signature_in a.sheet.now a.signature in
    subst (λ (line : List (List ℕ)). WordsRead g line c.take_words.result) (sym (all_words a.value.now c.if-value-eq0.false)) c.take_words.ensures
