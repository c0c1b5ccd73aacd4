use mathlib.Core.Bool.{false}
use mathlib.Core.Path.{sym, ap, ◌∙◌, subst, ◌≡◌}
use mathlib.Core.Option.{Option, some}
use native.Mathlib.Omega.{arith}
use Rattle.theory.specs.Grammar as theory
use Rattle.theory.specs.Grammar.{terms}
use Rattle.syntax.specs.Signatures.{signature_in}
use Rattle.clauses.specs.Grammar.{due_in}
use Rattle.columns.specs.Words.{due_after_word, is_stuck}
use Rattle.columns.proofs.WordFaults.{passed-filled}
use Rattle.columns.proofs.WordWalk.{Passing, starts, none-left, next-place, same_line, nearer, stopped, passed}
use Rattle.columns.proofs.words.first_misplaced.Goals as goal

pub loop-reader-init : goal.loop-reader-init
loop-reader-init c = let e = c.new-reader.ensures in (ap (λ (b : _). b.now) e.0, (starts _ _ _ _ _ e.1, omega arith))

pub loop-reader-smaller : goal.loop-reader-smaller
loop-reader-smaller c = let a = c.args in nearer (due_after_word (signature_in a.sheet.now a.signature)) is_stuck (some (terms 0)) a.value.now _ _ c.loop-reader.invariant.0 c.next-step.ensures

pub returns-then-is_stuck : goal.returns-then-is_stuck
returns-then-is_stuck c = let l = c.loop-reader in
    stopped _ _ _ _ _ _ l.invariant.0 c.next-step.ensures (due_in l.due) l.invariant.1.0 (ap is_stuck (sym c.after_word-due.ensures.due) ∙ sym c.is_stuck.ensures ∙ c.if-is_stuck.true)

pub loop-reader-preserved : goal.loop-reader-preserved
loop-reader-preserved c = let a = c.args in
    let l = c.loop-reader in
    let t = c.next-step in
    let m = c.after_word-due in
    let g = signature_in a.sheet.now a.signature in
    let free : is_stuck (due_after_word g (due_in l.due) _) ≡ false = ap is_stuck (sym m.ensures.due) ∙ sym c.is_stuck.ensures ∙ c.if-is_stuck.false in (
      same_line (due_after_word g) is_stuck (some (terms 0)) a.value.now _ _ l.invariant.0 t.ensures,
      (
        subst (λ (d : Option theory.Due). Passing (due_after_word g) is_stuck (some (terms 0)) a.value.now d t.result.rest.at) (sym m.ensures.due)
            (passed _ _ _ _ _ _ l.invariant.0 t.ensures (due_in l.due) l.invariant.1.0 free),
        omega (arith, passed-filled g (due_in l.due) _ free, next-place (due_after_word g) is_stuck (some (terms 0)) a.value.now _ _ l.invariant.0 t.ensures, m.ensures.pending, l.invariant.1.1),
      ),
    )

pub returns : goal.returns
returns c = let l = c.loop-reader in none-left _ _ _ _ (due_in l.due) l.reader _ l.invariant.0 l.invariant.1.0 c.has_word.ensures c.loop-reader-test.false
