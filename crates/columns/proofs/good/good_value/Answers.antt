-- `good_value` takes every byte behind the key.
use native.Mathlib.Omega.{arith}
use Rattle.theory.specs.LineForms.{declaration, any_words}
use Rattle.columns.proofs.KeyBytes.{key-short, any-bytes}
use Rattle.columns.proofs.good.good_value.Goals as goal

pub returns-then-n-key : goal.returns-then-n-key
returns-then-n-key c = let k = c.key_bytes-n in record { declared = key-short _ _ k.result k.ensures c.if-n-key.true declaration; words = key-short _ _ k.result k.ensures c.if-n-key.true any_words }

pub returns : goal.returns
returns c = let k = c.key_bytes-n in let both = any-bytes _ _ k.result k.ensures (omega arith) in record { declared = both.0; words = both.1 }
