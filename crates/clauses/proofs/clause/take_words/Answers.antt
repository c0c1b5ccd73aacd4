-- `take_words` meets its contract: one reader hands out the words, from the first to the last.
use Rattle.std.proofs.Common.{◌≡◌, ℕ, ◌+◌, ◌-◌, ◌<◌, ◌≤◌, Bool, List, Some, None, length, leb, sym, ap, ◌∙◌, subst, arith}
use borrow.Author.Tests.{leb-true, leb-false}
use Rattle.theory.specs.Syntax.{Signature}
use Rattle.theory.specs.Lines.{cut_words}
use Rattle.word_reader.specs.declared.WordReader.{WordReader}
use Rattle.word_reader.specs.declared.Step.{Step}
use Rattle.word_reader.specs.WordsLeft.{FirstWord, Handed}
use Rattle.syntax.specs.Signatures.{signature_in}
use Rattle.clauses.specs.declared.clause.Words.{Words}
use Rattle.clauses.specs.Clauses.{no_words, WordAdded, WordsRead}
use Rattle.clauses.proofs.Passing.{passed-bounded}
use Rattle.clauses.proofs.Going.{Going, begins, stops, goes_on, ends}
use Rattle.clauses.proofs.clause.take_words.Goals as goal

starts : (g : Signature) (v : List ℕ) (w : Words) (at : ℕ) → w ≡ no_words → at ≡ 0 → Going g v w at
starts g v w at e f = subst (λ (k : ℕ). Going g v w k) (sym f) (subst (λ (u : Words). Going g v u 0) (sym e) (begins g v))

-- what a reader hands out is of the line that it stands in
in_line : (v : List ℕ) (r : WordReader) (s : Step) → r.line.now ≡ v → FirstWord r.line.now r.at s.word.now → FirstWord v r.at s.word.now
in_line v r s e f = subst (λ (l : List ℕ). FirstWord l r.at s.word.now) e f

module _ (g : Signature) (v : List ℕ) (w : Words) (r : WordReader) (s : Step) (line : r.line.now ≡ v) (z : Going g v w r.at) (h : Handed r s) where
  ended : WordAdded g s.word.now w None → WordsRead g (cut_words v) None
  ended k = stops g v w r.at s.word.now z (in_line v r s line h.word) k

  same_line : s.rest.line.now ≡ v
  same_line = ap (λ (x : WordReader). x.line.now) h.rest ∙ line

  further : (u : Words) → WordAdded g s.word.now w (Some u) → Going g v u s.rest.at
  further u t = subst (λ (x : WordReader). Going g v u x.at) (sym h.rest) (goes_on g v w r.at s.word.now z (in_line v r s line h.word) u t)

  nearer : length v + 1 - s.rest.at < length v + 1 - r.at
  nearer = let e : s.rest.at ≡ r.at + length s.word.now + 1 = ap (λ (x : WordReader). x.at) h.rest in let f = in_line v r s line h.word in omega (arith, e, f.within)

-- whether the reader has a word, of the line that it stands in
within_line : (v : List ℕ) (r : WordReader) (b : Bool) → r.line.now ≡ v → b ≡ leb r.at (length r.line.now) → b ≡ leb r.at (length v)
within_line v r b line e = e ∙ ap (λ (l : List ℕ). leb r.at (length l)) line

pub loop-reader-init : goal.loop-reader-init
loop-reader-init c = let e = c.new-reader.ensures in
    (ap (λ (b : _). b.now) e.0, starts (signature_in c.args.sheet.now c.args.signature) c.args.value.now _ _ c.no_words-w.ensures e.1)

pub with_word-requires : goal.with_word-requires
with_word-requires c = let z = c.loop-reader.invariant.1 in
    let r = c.loop-reader.reader in
    let le : r.at ≤ length c.args.value.now = leb-true _ _ (sym (within_line _ r _ c.loop-reader.invariant.0 c.has_word.ensures) ∙ c.loop-reader-test.true) in
    (c.requires, passed-bounded _ z.words _ z.passed (omega (arith, z.room, le)))

pub returns-in_err-w : goal.returns-in_err-w
returns-in_err-w c = let l = c.loop-reader in
    rw c.from_residual.ensures (ended _ _ _ _ _ l.invariant.0 l.invariant.1 c.next-step.ensures c.in_err-w.ensures)

pub loop-reader-smaller : goal.loop-reader-smaller
loop-reader-smaller c = let l = c.loop-reader in
    nearer (signature_in c.args.sheet.now c.args.signature) _ l.w _ _ l.invariant.0 l.invariant.1 c.next-step.ensures

pub loop-reader-preserved : goal.loop-reader-preserved
loop-reader-preserved c = let l = c.loop-reader in
    (same_line _ _ _ _ _ l.invariant.0 l.invariant.1 c.next-step.ensures, further _ _ _ _ _ l.invariant.0 l.invariant.1 c.next-step.ensures _ c.in_ok-w.ensures)

pub returns : goal.returns
returns c = let l = c.loop-reader in
    ends _ _ _ _ l.invariant.1 (leb-false _ _ (sym (within_line _ l.reader _ l.invariant.0 c.has_word.ensures) ∙ c.loop-reader-test.false))
