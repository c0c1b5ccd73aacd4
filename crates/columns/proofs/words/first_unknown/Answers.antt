use mathlib.Core.Path.{◌≡◌, subst, sym, ap, ◌∙◌}
use mathlib.Core.Bool.{Bool, true, not}
use Rattle.syntax.specs.Signatures.{signature_in}
use Rattle.columns.specs.Words.{is_known_word, known_after}
use Rattle.columns.proofs.WordWalk.{Passing, starts, none-left, same_line, nearer, stopped, passed}
use Rattle.columns.proofs.words.first_unknown.Goals as goal

pub loop-reader-init : goal.loop-reader-init
loop-reader-init c = let e = c.new-reader.ensures in (ap (λ (b : _). b.now) e.0, starts _ _ _ _ _ e.1)

pub loop-reader-smaller : goal.loop-reader-smaller
loop-reader-smaller c = let a = c.args in nearer (known_after (signature_in a.sheet.now a.signature)) not true a.value.now _ _ c.loop-reader.invariant.0 c.next-step.ensures

pub returns-then-not-is_known : goal.returns-then-not-is_known
returns-then-not-is_known c = let l = c.loop-reader in
    stopped _ _ _ _ _ _ l.invariant.0 c.next-step.ensures true l.invariant.1 (ap not (sym c.is_known.ensures ∙ c.if-not-is_known.true))

pub loop-reader-preserved : goal.loop-reader-preserved
loop-reader-preserved c = let a = c.args in
    let l = c.loop-reader in
    let t = c.next-step in
    let k : is_known_word (signature_in a.sheet.now a.signature) _ ≡ true = sym c.is_known.ensures ∙ c.if-not-is_known.false in (
      same_line (known_after (signature_in a.sheet.now a.signature)) not true a.value.now _ _ l.invariant.0 t.ensures,
      subst (λ (b : Bool). Passing (known_after (signature_in a.sheet.now a.signature)) not true a.value.now b t.result.rest.at) k
          (passed _ _ _ _ _ _ l.invariant.0 t.ensures true l.invariant.1 (ap not k)),
    )

pub returns : goal.returns
returns c = let l = c.loop-reader in none-left _ _ _ _ true l.reader _ l.invariant.0 l.invariant.1 c.has_word.ensures c.loop-reader-test.false
