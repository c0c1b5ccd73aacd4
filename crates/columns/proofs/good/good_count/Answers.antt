-- `good_count` looks at the bytes behind the key.
use mathlib.Core.Path.{ap, ◌∙◌}
use native.Mathlib.Omega.{arith}
use lib.ListN.{length}
use Rattle.theory.specs.LineForms.{count_digits, good_value}
use Rattle.theory.proofs.LineValues.{value-within}
use Rattle.text.specs.Lines.{part}
use Rattle.text.proofs.Part.{length_part}
use Rattle.columns.proofs.KeyBytes.{lent-rest, key-short, key-whole}
use Rattle.columns.proofs.good.good_count.Goals as goal

pub returns-then-n-key : goal.returns-then-n-key
returns-then-n-key c = let k = c.key_bytes-n in key-short _ _ k.result k.ensures c.if-n-key.true count_digits

pub overflow_add-result : goal.overflow_add-result
overflow_add-result c = let b = c.args.line.now in
    let k = c.key_bytes-n in
    omega (arith, value-within count_digits (part b k.result (length b)), c.count_digits.ensures, length_part b k.result (length b) k.ensures.within (omega arith), k.ensures.within)

pub returns : goal.returns
returns c = let a = c.args in
    let k = c.key_bytes-n in
    key-whole a.line.now a.key.now k.result k.ensures (omega arith) count_digits c.count_digits.result (c.count_digits.ensures ∙ ap (good_value count_digits) (lent-rest a.line.now k.result))
