-- `words_of` takes one token after the other, up to the first word too many.
use native.Mathlib.Omega.{arith}
use Rattle.syntax.specs.Signatures.{signature_in}
use Rattle.clauses.proofs.Going.{passed_none}
use Rattle.importing.proofs.CodingLoop.{reached-starts, reached-long, reached-stop, reached-ready, reached-on}
use Rattle.importing.proofs.words.words_of.Goals.{in-Some+then-c-gt-MAX_WORDS, in_default}
use Rattle.importing.proofs.words.words_of.Goals as goal

pub loop-taken-init : goal.loop-taken-init
loop-taken-init c = let z = c in let a = z.args in (reached-starts a.text.now a.signature a.at _ z.requires.1.0 (record { passed = rw c.no_words.ensures (passed_none (signature_in a.text.now a.signature)); letters = c.none.ensures.empty a.text.now; lettered = c.none.ensures.lettered a.text.now }) z.requires.1.1, rw c.no_words.ensures (omega arith))

pub with_entries-c-requires : goal.with_entries-c-requires
with_entries-c-requires c = let z = c in let a = z.args in let l = c.loop-taken in let t = c.in-Some.ensures in ((_, reached-ready a.text.now a.signature a.at l.i _ _ l.invariant.0 _ t z.requires.0 l.invariant.1), (t.long, t.rest.within))

pub loop-taken-preserved : goal.loop-taken-preserved
loop-taken-preserved c = let a = c.args in let l = c.loop-taken in (reached-on a.text.now a.signature a.at l.i _ _ l.invariant.0 _ c.in-Some.ensures _ (c.with_entries-c.ensures _), c.if-c-gt-MAX_WORDS.false)

pub returns : goal.returns
returns c = let a = c.args in let l = c.loop-taken in
    elim c.match-take_token.branch [
      | in-Some+then-c-gt-MAX_WORDS w ↦ rw w.c-is (reached-long a.text.now a.signature a.at _ _ _ (reached-on a.text.now a.signature a.at l.i _ _ l.invariant.0 _ w.in-Some.ensures _ (w.with_entries-c.ensures _)) w.if-c-gt-MAX_WORDS.true)
      | in_default w ↦ rw w.c-is (reached-stop a.text.now a.signature a.at l.i _ _ l.invariant.0 l.invariant.1 w.in_default.ensures)
    ]
