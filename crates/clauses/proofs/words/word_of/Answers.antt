use mathlib.Core.Path.{sym, ◌∙◌}
use native.Mathlib.Omega.{arith}
use Rattle.syntax.specs.Signatures.{signature_in}
use Rattle.clauses.proofs.Held.{count-signature_in}
use Rattle.clauses.proofs.Fixed.{fixed-below}
use Rattle.clauses.proofs.OneWord.{word-empty, word-fixed, word-named, word-unknown}
use Rattle.clauses.proofs.words.word_of.Goals as goal

-- `word_of` looks for a fixed word, then for a name.
pub returns-then-word-eq0 : goal.returns-then-word-eq0
returns-then-word-eq0 c = let z = c in let g = signature_in z.args.sheet.now z.args.signature in let w = z.args.word.now in word-empty g w c.if-word-eq0.true

pub overflow_add-result : goal.overflow_add-result
overflow_add-result c = omega (arith, fixed-below c.args.word.now (sym c.is_fixed_word.ensures ∙ c.if-is_fixed_word.true))

pub returns-then-is_fixed_word : goal.returns-then-is_fixed_word
returns-then-is_fixed_word c = let z = c in let g = signature_in z.args.sheet.now z.args.signature in let w = z.args.word.now in word-fixed g w (sym c.is_fixed_word.ensures ∙ c.if-is_fixed_word.true)

pub returns-in_err-i : goal.returns-in_err-i
returns-in_err-i c = let z = c in
    let g = signature_in z.args.sheet.now z.args.signature in
    rw c.from_residual.ensures (word-unknown g z.args.word.now c.if-word-eq0.false (sym c.is_fixed_word.ensures ∙ c.if-is_fixed_word.false) c.in_err-i.ensures.place)

pub returns : goal.returns
returns c = let z = c in
    let g = signature_in z.args.sheet.now z.args.signature in
    let n = count-signature_in z.args.signature z.requires.limited z.args.sheet.now in
    word-named g z.args.word.now c.if-word-eq0.false (sym c.is_fixed_word.ensures ∙ c.if-is_fixed_word.false) c.in_ok-i.i c.in_ok-i.ensures.place (omega (arith, c.in_ok-i.ensures.within)) (omega (arith, z.requires.limited.count))
