use mathlib.Core.Path.{refl, sym, ap, ◌∙◌, subst}
use mathlib.Core.Bool.{true, false}
use Rattle.std.specs.Prelude as rust
use Rattle.std.specs.Prelude.{Err}
use native.Mathlib.Omega.{arith}
use Prim.Native.Nat.{◌+◌}
use lib.ListN.{set}
use Rattle.plain.specs.declared.cells.PlainCells.{PlainCells}
use Rattle.plain.specs.Filling.{Fillable, filling}
use Rattle.plain.proofs.Guesses.{after, begins, hit, on, ends, judged-full, guess-found, guess-missed}
use Rattle.plain.proofs.Filled.{guessed, cells-lent, case-judged}
use borrow.Author.Rules.{rules}
use Rattle.plain.proofs.filling.+fill.Goals as goal

pub is_model-requires : goal.is_model-requires
is_model-requires t c = let z = c in
    let a = z.args in
    cells-lent a.sheet.now a.p a.size.0 a.choices.now a.cells.values a.at z.requires c.if-choices-at.true

pub returns-then-is_model : goal.returns-then-is_model
returns-then-is_model t c = let z = c in
    let a = z.args in
    let m = c.is_model in
    judged-full a.sheet.now a.p a.size.0 a.choices.now a.cells a.at true c.if-choices-at.true
    (sym c.if-is_model.true ∙ case-judged a.sheet.now a.p a.size.0 a.choices.now a.cells.values a.at z.requires c.if-choices-at.true m.result m.ensures)

pub returns-then-choices-at : goal.returns-then-choices-at
returns-then-choices-at t c = let z = c in
    let a = z.args in
    let m = c.is_model in
    judged-full a.sheet.now a.p a.size.0 a.choices.now a.cells a.at false c.if-choices-at.true
    (sym c.if-is_model.false ∙ case-judged a.sheet.now a.p a.size.0 a.choices.now a.cells.values a.at z.requires c.if-choices-at.true m.result m.ensures)

pub loop-d-init : goal.loop-d-init
loop-d-init t c = let z = c in
    let a = z.args in
    let h = z.requires in
    (refl, h.held, begins a.sheet.now a.p a.size.0 a.choices.now a.cells.values a.at (omega (arith, c.if-choices-at.false)) (omega (arith, h.few, h.held, c.if-choices-at.false)))

pub fill-model-requires : goal.fill-model-requires
fill-model-requires t c = let z = c in
    let a = z.args in
    let h = z.requires in
    let l = c.loop-d in (
      search rules,
      subst (λ (k : PlainCells). Fillable a.sheet.now a.p a.size.0 a.choices.now (set k.values a.at l.d) (a.at + 1)) (sym l.invariant.0)
          (guessed a.sheet.now a.p a.size.0 a.choices.now a.cells.values a.at h l.d (omega (arith, c.if-choices-at.false)) c.loop-d-test.true),
    )

pub returns-then-is_ok : goal.returns-then-is_ok
returns-then-is_ok t c = let z = c in
    let a = z.args in
    let h = z.requires in
    let l = c.loop-d in
    let k = after a.sheet.now a.p a.size.0 a.choices.now a.cells.values a.at in
    let f = guess-found a.sheet.now a.p a.size.0 a.choices.now a.cells l.cells a.at l.d c.fill-model.result l.invariant.0 c.fill-model.ensures
    (omega (arith, h.few, h.held, c.if-choices-at.false)) (sym c.is_ok.ensures.value ∙ c.if-is_ok.true) in
    f.0 ∙ ap (filling a.cells a.at) (sym (l.invariant.2 ∙ hit k _ l.d c.loop-d-test.true f.1.0 f.1.1))

pub loop-d-preserved : goal.loop-d-preserved
loop-d-preserved t c = let z = c in
    let a = z.args in
    let l = c.loop-d in
    let k = after a.sheet.now a.p a.size.0 a.choices.now a.cells.values a.at in
    let none = guess-missed a.sheet.now a.p a.size.0 a.choices.now a.cells l.cells a.at l.d c.fill-model.result l.invariant.0 c.fill-model.ensures (sym c.is_ok.ensures.value ∙ c.if-is_ok.false) in
    (l.invariant.0, l.invariant.1, l.invariant.2 ∙ on k _ l.d c.loop-d-test.true none)

pub returns : goal.returns
returns t c = let z = c in
    let a = z.args in
    let l = c.loop-d in
    let k = after a.sheet.now a.p a.size.0 a.choices.now a.cells.values a.at in
    ap {B = rust.Result PlainCells PlainCells} (λ (k : PlainCells). Err k) l.invariant.0 ∙ ap (filling a.cells a.at) (sym (l.invariant.2 ∙ ends k _ l.d (omega arith)))
