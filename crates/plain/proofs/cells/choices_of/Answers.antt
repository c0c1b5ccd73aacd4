use Prim.Native.Nat.{ℕ, ◌+◌}
use mathlib.Core.Path.{◌≡◌, ap, ◌∙◌}
use mathlib.Core.List.{List, [], ◌++◌}
use native.Mathlib.Omega.{arith}
use lib.ListN.{length, get_or, take, replicate}
use Rattle.syntax.specs.Signatures.{signature_in}
use Rattle.clauses.proofs.Held.{blank, arity-at, count-signature_in, symbol_at-signature_in}
use Rattle.plain.proofs.Choosing.{none-chosen, symbol-fits, symbol-chosen, all-counted, all-chosen}
use Rattle.plain.proofs.cells.choices_of.Goals as goal

pub loop-i-init : goal.loop-i-init
loop-i-init c = λ sheet. none-chosen c.args.size.0 (signature_in sheet c.args.signature) _

pub power-n-requires : goal.power-n-requires
power-n-requires c = let s = c in
    let l = c.loop-i in
    (s.requires.limited.1, omega (arith, arity-at s.args.signature s.requires.limited.0 l.i (omega arith)))

pub with-choices-requires : goal.with-choices-requires
with-choices-requires c = let s = c in
    let y = s.args.signature in
    let l = c.loop-i in
    omega (
      arith,
      c.power-n.ensures,
      symbol-fits s.args.size.0 (signature_in [] y) l.choices l.i (l.invariant []) (omega (arith, count-signature_in y s.requires.limited.0 [])) (get_or y.symbols l.i blank) []
          (symbol_at-signature_in y s.requires.limited.0 [] l.i (omega arith)) (s.requires.by_index []),
    )

pub loop-i-preserved : goal.loop-i-preserved
loop-i-preserved c = let s = c in
    let y = s.args.signature in
    let l = c.loop-i in
    let w = c.with-choices in
    let n = c.power-n.ensures in
    λ sheet.
    symbol-chosen s.args.size.0 (signature_in sheet y) l.choices l.i (l.invariant sheet) (omega (arith, count-signature_in y s.requires.limited.0 sheet)) (get_or y.symbols l.i blank) sheet
    (symbol_at-signature_in y s.requires.limited.0 sheet l.i (omega arith)) w.result c.value_count.result c.value_count.ensures
    (w.ensures.count ∙ ap (λ (m : ℕ). l.choices.count + m) n) (w.ensures.values ∙ ap (λ (m : ℕ). take l.choices.count l.choices.values ++ replicate m c.value_count.result) n)

pub returns : goal.returns
returns c = let s = c in
    let y = s.args.signature in
    let l = c.loop-i in
    let all : (sheet : List ℕ) → l.i ≡ length (signature_in sheet y) = λ sheet. omega (arith, count-signature_in y s.requires.limited.0 sheet) in record { count = λ sheet. all-counted s.args.size.0 (signature_in sheet y) l.choices l.i (l.invariant sheet) (all sheet); values = λ sheet. all-chosen s.args.size.0 (signature_in sheet y) l.choices l.i (l.invariant sheet) (all sheet) }
