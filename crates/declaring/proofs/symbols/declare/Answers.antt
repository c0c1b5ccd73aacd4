-- `declare` meets its contract: the name is looked up, then held to its first appearance or to the limits.
use mathlib.Core.Path.{sym, ◌∙◌}
use native.Mathlib.Omega.{arith}
use Rattle.declaring.proofs.Declaring.{known-other, known_same, over-arity, over-name, over-count, new-taken}
use Rattle.declaring.proofs.symbols.declare.Goals as goal

pub returns-then-is_other : goal.returns-then-is_other
returns-then-is_other c = let z = c in
    let a = z.args in
    known-other a.text.now a.table z.requires.0 a.start a.end a.function a.arity _ c.in-Some.ensures.place c.in-Some.ensures.within (sym c.is_other.ensures ∙ c.if-is_other.true)

pub returns-in-Some : goal.returns-in-Some
returns-in-Some c = let z = c in
    let a = z.args in
    known_same a.text.now a.table z.requires.0 a.start a.end a.function a.arity _ c.in-Some.ensures.place c.in-Some.ensures.within (sym c.is_other.ensures ∙ c.if-is_other.false)

pub returns-then-arity-gt-MAX_ARITY : goal.returns-then-arity-gt-MAX_ARITY
returns-then-arity-gt-MAX_ARITY c = let z = c in
    let a = z.args in
    over-arity a.text.now a.table z.requires.0 a.start a.end a.function a.arity c.in_default.ensures.place c.if-arity-gt-MAX_ARITY.true

pub returns-then-not-is_name : goal.returns-then-not-is_name
returns-then-not-is_name c = let z = c in
    let a = z.args in
    over-name a.text.now a.table z.requires.0 a.start a.end a.function a.arity c.in_default.ensures.place (sym c.is_name.ensures ∙ c.if-not-is_name.true)

pub returns-then-count_of_kind-ge-MAX_OF_A_KIND : goal.returns-then-count_of_kind-ge-MAX_OF_A_KIND
returns-then-count_of_kind-ge-MAX_OF_A_KIND c = let z = c in
    let a = z.args in
    over-count a.text.now a.table z.requires.0 a.start a.end a.function a.arity c.in_default.ensures.place (omega (arith, c.count_of_kind.ensures, c.if-count_of_kind-ge-MAX_OF_A_KIND.true))

pub returns : goal.returns
returns c = let z = c in
    let a = z.args in
    new-taken a.text.now a.table z.requires.0 a.start a.end a.function a.arity c.in_default.ensures.place _ c.with_symbol.ensures z.requires.1.0 z.requires.1.1
    c.if-arity-gt-MAX_ARITY.false (sym c.is_name.ensures ∙ c.if-not-is_name.false)
    (omega (arith, c.count_of_kind.ensures))
