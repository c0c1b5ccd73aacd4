use native.Mathlib.Omega.{arith}
use mathlib.Core.Path.{◌≡◌}
use lib.ListN.{length}
use borrow.Author.Rules.{rules}
use Rattle.sheet_text.proofs.WordsBefore.{one_word, all_words}
use Rattle.sheet_text.proofs.clause_lines.clause_line_length.Goals as goal

pub loop-i-preserved : goal.loop-i-preserved
loop-i-preserved c = let s = c in
    let l = c.loop-i in
    let p = c.next_word_length-n in
    let n : length s.args.words.words ≡ 64 = search rules in
    one_word s.args.signature s.args.words (omega (arith, s.requires.1)) l.i l.n p.result c.loop-i-test.true p.ensures.short p.ensures.length l.invariant

pub returns : goal.returns
returns c = let s = c in
    let l = c.loop-i in
    let n : length s.args.words.words ≡ 64 = search rules in record { length = all_words s.args.signature s.args.words (omega (arith, s.requires.1)) l.i l.n (omega arith) l.invariant; short = omega (arith, l.invariant.within, s.requires.1) }
