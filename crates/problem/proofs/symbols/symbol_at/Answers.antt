-- `symbol_at` looks at the last two bytes, the arity, the name.
use mathlib.Core.Path.{sym, ◌∙◌}
use native.Mathlib.Omega.{arith}
use Rattle.syntax.specs.Signatures.{signature_in}
use Prim.Native.Nat.{◌+◌, ◌-◌}
use lib.ListN.{get_or}
use Rattle.text.specs.Lines.{part}
use Rattle.text.proofs.Counts.{digit-from}
use Rattle.problem.proofs.Declaring.{digit-below, value-short, value-unslashed, value-undigited, arity-over, name-bad, name-repeated, symbol-declared, name-found, name-not-found}
use Rattle.problem.proofs.symbols.symbol_at.Goals as goal

pub returns-then-end-from-lt2 : goal.returns-then-end-from-lt2
returns-then-end-from-lt2 c = let z = c in
    let a = z.args in
    value-short a.sheet.now a.from a.end a.function (signature_in a.sheet.now a.before) z.requires.0 z.requires.1.0 c.if-end-from-lt2.true

pub returns-then-sheet-slash-ne47 : goal.returns-then-sheet-slash-ne47
returns-then-sheet-slash-ne47 c = let z = c in
    let a = z.args in
    value-unslashed a.sheet.now a.from a.end a.function (signature_in a.sheet.now a.before) z.requires.0 z.requires.1.0 c.if-end-from-lt2.false c.if-sheet-slash-ne47.true

pub returns-then-not-is_digit : goal.returns-then-not-is_digit
returns-then-not-is_digit c = let z = c in
    let a = z.args in
    value-undigited a.sheet.now a.from a.end a.function (signature_in a.sheet.now a.before) z.requires.0 z.requires.1.0 c.if-end-from-lt2.false c.if-sheet-slash-ne47.false (sym c.is_digit.ensures ∙ c.if-not-is_digit.true)

pub overflow_sub-arity : goal.overflow_sub-arity
overflow_sub-arity c = digit-from _ (sym c.is_digit.ensures ∙ c.if-not-is_digit.false)

pub overflow_cast-arity : goal.overflow_cast-arity
overflow_cast-arity c = let a = c.args in
    omega (arith, digit-below (get_or a.sheet.now (a.end - 2 + 1) 0) (sym c.is_digit.ensures ∙ c.if-not-is_digit.false))

pub returns-then-arity-gt-MAX_ARITY : goal.returns-then-arity-gt-MAX_ARITY
returns-then-arity-gt-MAX_ARITY c = let z = c in
    let a = z.args in
    arity-over a.sheet.now a.from a.end a.function (signature_in a.sheet.now a.before) z.requires.0 z.requires.1.0 c.if-end-from-lt2.false c.if-sheet-slash-ne47.false (sym c.is_digit.ensures ∙ c.if-not-is_digit.false) c.if-arity-gt-MAX_ARITY.true

pub returns-then-not-is_name : goal.returns-then-not-is_name
returns-then-not-is_name c = let z = c in
    let a = z.args in
    name-bad a.sheet.now a.from a.end a.function (signature_in a.sheet.now a.before) z.requires.0 z.requires.1.0 c.if-end-from-lt2.false c.if-sheet-slash-ne47.false (sym c.is_digit.ensures ∙ c.if-not-is_digit.false) c.if-arity-gt-MAX_ARITY.false (sym c.is_name.ensures ∙ c.if-not-is_name.true)

pub returns-then-is_some : goal.returns-then-is_some
returns-then-is_some c = let z = c in
    let a = z.args in
    name-repeated a.sheet.now a.from a.end a.function (signature_in a.sheet.now a.before) z.requires.0 z.requires.1.0 c.if-end-from-lt2.false c.if-sheet-slash-ne47.false (sym c.is_digit.ensures ∙ c.if-not-is_digit.false) c.if-arity-gt-MAX_ARITY.false (sym c.is_name.ensures ∙ c.if-not-is_name.false) (name-found (part a.sheet.now a.from (a.end - 2)) (signature_in a.sheet.now a.before) _ c.find_name.ensures.place (sym c.is_some.ensures ∙ c.if-is_some.true))

pub returns : goal.returns
returns c = let z = c in
    let a = z.args in
    symbol-declared a.sheet.now a.from a.end a.function (signature_in a.sheet.now a.before) z.requires.0 z.requires.1.0 c.if-end-from-lt2.false c.if-sheet-slash-ne47.false (sym c.is_digit.ensures ∙ c.if-not-is_digit.false) c.if-arity-gt-MAX_ARITY.false (sym c.is_name.ensures ∙ c.if-not-is_name.false) (name-not-found (part a.sheet.now a.from (a.end - 2)) (signature_in a.sheet.now a.before) _ c.find_name.ensures.place (sym c.is_some.ensures ∙ c.if-is_some.false))
