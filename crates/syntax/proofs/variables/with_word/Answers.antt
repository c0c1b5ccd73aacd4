use mathlib.Core.Path.{◌≡◌}
use lib.ListN.{length}
use Rattle.syntax.proofs.Places.{none-added, old-added, new-added}
use borrow.Author.Rules.{rules}
use Rattle.syntax.proofs.variables.with_word.Goals as goal

-- `with_word` meets its contract: a letter without a place gets the next one.
pub returns-then-word-lt-LETTER : goal.returns-then-word-lt-LETTER
returns-then-word-lt-LETTER c xs k h = let a = c.args in none-added xs k a.found h a.word c.if-word-lt-LETTER.true

pub returns-then-found-x-lt-NONE : goal.returns-then-found-x-lt-NONE
returns-then-found-x-lt-NONE c xs k h = let s = c in
    let a = s.args in
    old-added xs k a.found h a.word c.if-word-lt-LETTER.false s.requires.0 c.if-found-x-lt-NONE.true

pub returns : goal.returns
returns c xs k h = let s = c in
    let a = s.args in
    let n : length a.found.place ≡ 8 = search rules in
    new-added xs k a.found h a.word c.if-word-lt-LETTER.false s.requires.0 c.if-found-x-lt-NONE.false n
