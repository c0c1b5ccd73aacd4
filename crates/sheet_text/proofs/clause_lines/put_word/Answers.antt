-- `put_word` meets its contract.
use Prim.Native.Nat.{◌-◌}
use mathlib.Core.Path.{sym, ap}
use native.Mathlib.Omega.{arith}
use lib.ListN.{length, get_or}
use Rattle.theory.specs.SheetText.{word_text}
use Rattle.syntax.specs.Signatures.{symbol_in, signature_in}
use Rattle.syntax.specs.Codes.{max_places, code_word}
use Rattle.clauses.proofs.Held.{blank}
use Rattle.sheet_text.proofs.LinesWritten.{same_text}
use Rattle.sheet_text.proofs.Symbols.{named-at}
use Rattle.sheet_text.proofs.WordTexts.{name-word, byte-code, byte_word, byte-written}
use Rattle.sheet_text.proofs.clause_lines.put_word.Goals as goal

pub put_name-requires : goal.put_name-requires
put_name-requires c = let z = c in
    let a = z.args in
    let l = c.if-place-signature.true in
    (named-at a.text.now a.signature z.requires.0.readable a.code l, omega (arith, z.requires.1, ap length (name-word a.text.now a.signature a.code z.requires.0 l)))

pub returns-then-place-signature : goal.returns-then-place-signature
returns-then-place-signature c = let z = c in
    let a = z.args in
    let p = c.put_name in let both = same_text a.out.now p.new.out a.at p.result (symbol_in a.text.now (get_or a.signature.symbols a.code blank)).name (word_text (signature_in a.text.now a.signature) (code_word a.code))
    (sym (name-word a.text.now a.signature a.code z.requires.0 c.if-place-signature.true)) p.ensures.written p.ensures.place in record { written = both.0; place = both.1 }

pub overflow_sub-out : goal.overflow_sub-out
overflow_sub-out c = let z = c in byte-code z.args.text.now z.args.signature z.args.code z.requires.0 c.if-place-signature.false

pub bounds-out-at : goal.bounds-out-at
bounds-out-at c = let z = c in
    let a = z.args in
    omega (arith, z.requires.1, ap length (byte_word a.text.now a.signature a.code z.requires.0 c.if-place-signature.false))

pub returns : goal.returns
returns c = let z = c in
    let a = z.args in let both = byte-written a.out.now a.at (a.code - max_places) (word_text (signature_in a.text.now a.signature) (code_word a.code)) (byte_word a.text.now a.signature a.code z.requires.0 c.if-place-signature.false) z.requires.1 in record { written = both.0; place = both.1 }
