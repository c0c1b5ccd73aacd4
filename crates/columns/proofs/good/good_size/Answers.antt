-- `good_size` looks at the byte behind the key.
use Prim.Native.Nat.{◌+◌, ◌≤◌}
use mathlib.Core.Path.{◌≡◌, sym, ◌∙◌}
use mathlib.Core.Bool.{true, false}
use native.Mathlib.Omega.{arith}
use Rattle.theory.specs.Bytes.{bytes}
use Rattle.theory.specs.LineForms.{size_digit}
use Rattle.columns.proofs.KeyBytes.{key-whole}
use Rattle.columns.proofs.ValueBytes.{no_size, size-byte}
use Rattle.columns.proofs.good.good_size.Goals as goal

pub returns-then-line-n : goal.returns-then-line-n
returns-then-line-n c = let b = c.args.line.now in
    let k = c.key_bytes-n in
    let z : k.result ≡ k.result + 0 = omega arith in
    let h : 5 ≤ k.result = omega arith in
    z ∙ key-whole b (bytes "size=") k.result k.ensures h size_digit 0 (no_size b k.result c.if-line-n.true)

pub returns-then-not-is_size : goal.returns-then-not-is_size
returns-then-not-is_size c = let b = c.args.line.now in
    let k = c.key_bytes-n in
    let z : k.result ≡ k.result + 0 = omega arith in
    let h : 5 ≤ k.result = omega arith in
    z ∙ key-whole b (bytes "size=") k.result k.ensures h size_digit 0 (size-byte b k.result false (omega (arith, k.ensures.within)) (sym c.if-not-is_size.true ∙ c.is_size.ensures))

pub returns : goal.returns
returns c = let b = c.args.line.now in
    let k = c.key_bytes-n in
    let h : 5 ≤ k.result = omega arith in
    key-whole b (bytes "size=") k.result k.ensures h size_digit 1 (size-byte b k.result true (omega (arith, k.ensures.within)) (sym c.if-not-is_size.false ∙ c.is_size.ensures))
