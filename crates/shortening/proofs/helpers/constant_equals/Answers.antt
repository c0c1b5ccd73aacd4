-- `constant_equals` takes the three words.
use mathlib.Core.Path.{refl, sym, subst}
use mathlib.Core.Bool.{true}
use mathlib.Core.List.{[], ◌∷◌}
use native.Mathlib.Omega.{arith}
use lib.Dec.{ltb}
use Rattle.theory.specs.Grammar.{Word, sign, equals}
use Rattle.theory.proofs.Tests.{ltb-of-<, or_left, or_right}
use Rattle.syntax.specs.Codes.{code_of}
use Rattle.syntax.specs.Signatures.{signature_in}
use Rattle.syntax.proofs.Codes.{word_of-symbol}
use Rattle.clauses.specs.Words.{is_fixed_code}
use Rattle.clauses.specs.Clauses.{Passed}
use Rattle.clauses.proofs.Passing.{passed-bounded}
use Rattle.clauses.proofs.Going.{passed_none}
use Rattle.shortening.proofs.helpers.constant_equals.Goals as goal

pub with_code-plus-requires : goal.with_code-plus-requires
with_code-plus-requires c = let z = c in
    let g = signature_in [] z.args.all in
    let p = subst (Passed g []) (sym c.no_words.ensures) (passed_none g) in
    (z.requires.0, (or_right (ltb (code_of (sign true)) z.args.all.count) (is_fixed_code (code_of (sign true))) refl, passed-bounded g [] c.no_words.result p (omega (arith, p.count))))

pub with_code-equals-requires : goal.with_code-equals-requires
with_code-equals-requires c = let z = c in
    let g = signature_in [] z.args.all in
    let p = c.with_code-plus.ensures [] [] (subst (Passed g []) (sym c.no_words.ensures) (passed_none g)) in
    (z.requires.0, (or_right (ltb (code_of equals) z.args.all.count) (is_fixed_code (code_of equals)) refl, passed-bounded g (sign true ∷ []) c.with_code-plus.result p (omega (arith, p.count))))

pub with_code-requires : goal.with_code-requires
with_code-requires c = let z = c in
    let g = signature_in [] z.args.all in
    let p = c.with_code-equals.ensures [] (sign true ∷ []) (c.with_code-plus.ensures [] [] (subst (Passed g []) (sym c.no_words.ensures) (passed_none g))) in (
      z.requires.0,
      (
        or_left (ltb z.args.place z.args.all.count) (is_fixed_code z.args.place) (ltb-of-< z.args.place z.args.all.count z.requires.1),
        passed-bounded g (sign true ∷ equals ∷ []) c.with_code-equals.result p (omega (arith, p.count)),
      ),
    )

pub returns : goal.returns
returns c sheet = let z = c in
    let g = signature_in sheet z.args.all in
    let p = c.with_code-equals.ensures sheet (sign true ∷ []) (c.with_code-plus.ensures sheet [] (subst (Passed g []) (sym c.no_words.ensures) (passed_none g))) in
    subst (λ (x : Word). Passed g (sign true ∷ equals ∷ x ∷ []) c.with_code.result) (word_of-symbol z.args.place (omega (arith, z.requires.0.count, z.requires.1))) (c.with_code.ensures sheet (sign true ∷ equals ∷ []) p)
