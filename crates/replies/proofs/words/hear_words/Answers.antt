use borrow.Author.Rules.{rules}
use borrow.Author.Tests.{leb-false}
use Prim.Native.Nat.{ℕ, ◌+◌, ◌-◌, ◌<◌}
use mathlib.Core.Path.{◌≡◌, refl, sym, ap, ◌∙◌, subst}
use mathlib.Core.List.{List}
use native.Mathlib.Omega.{arith}
use lib.Dec.{leb}
use lib.ListN.{length}
use Rattle.word_reader.specs.declared.WordReader.{WordReader}
use Rattle.word_reader.specs.declared.Step.{Step}
use Rattle.word_reader.specs.WordsLeft.{FirstWord, Handed}
use Rattle.replies.specs.Hearing.{values_in}
use Rattle.replies.proofs.WordsHeard.{HeardTo, begins, one_more, ends}
use Rattle.replies.proofs.words.hear_words.Goals as goal

-- what a reader hands out is of the line that it stands in
module _ (v : List ℕ) (r : WordReader) (s : Step) (line : r.line.now ≡ v) (h : Handed r s) where
  word : FirstWord v r.at s.word.now
  word = subst (λ (l : List ℕ). FirstWord l r.at s.word.now) line h.word

  same_line : s.rest.line.now ≡ v
  same_line = ap (λ (x : WordReader). x.line.now) h.rest ∙ line

  place : s.rest.at ≡ r.at + length s.word.now + 1
  place = ap (λ (x : WordReader). x.at) h.rest

  nearer : length v + 1 - s.rest.at < length v + 1 - r.at
  nearer = omega (arith, place, word.within)

pub loop-reader-init : goal.loop-reader-init
loop-reader-init c = let e = c.new-reader.ensures in
    (ap (λ (b : _). b.now) e.0, (subst (λ (k : ℕ). HeardTo c.args.value.now (values_in c.args.marks.now) _ c.args.marks.now k) (sym e.1) (begins _ _ _ refl), refl))

pub loop-reader-smaller : goal.loop-reader-smaller
loop-reader-smaller c = nearer _ _ _ c.loop-reader.invariant.0 c.next-step.ensures

pub loop-reader-preserved : goal.loop-reader-preserved
loop-reader-preserved c = let l = c.loop-reader in
    let v = c.args.value.now in
    let h = c.next-step.ensures in (
      same_line v _ _ l.invariant.0 h,
      (
        subst (λ (k : ℕ). HeardTo v (values_in c.args.marks.now) c.hear_word-stage.result c.hear_word-stage.new.marks k) (sym (place v _ _ l.invariant.0 h))
            (one_more _ _ l.stage l.marks l.reader.at _ l.invariant.1.0 (word v _ _ l.invariant.0 h) _ _ c.hear_word-stage.ensures),
        search rules,
      ),
    )

pub returns : goal.returns
returns c = let l = c.loop-reader in
    ends _ _ l.stage l.marks l.reader.at l.invariant.1.0
    (leb-false _ _ (sym (c.has_word.ensures ∙ ap (λ (v : List ℕ). leb l.reader.at (length v)) l.invariant.0) ∙ c.loop-reader-test.false))
