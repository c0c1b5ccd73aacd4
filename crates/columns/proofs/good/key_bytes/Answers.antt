use Prim.Native.Nat.{ℕ}
use mathlib.Core.Path.{◌≡◌, sym, ◌∙◌, subst}
use Rattle.std.specs.List.{zip}
use Rattle.std.proofs.Common.{rules, tests}
use Rattle.std.proofs.lemmas.Iterator.{YieldsList-from_slice, YieldsList-from_zip}
use Rattle.std.proofs.lemmas.Iterator.Consumers.{count_from_yields_List}
use Rattle.std.proofs.lemmas.Iterator.Search.{YieldsList-from_take_while}
use Rattle.std.proofs.lemmas.List.Folds.{length-prefix_len}
use Rattle.columns.specs.Good.{KeyMet}
use Rattle.columns.proofs.KeyBytes.{alike, bytes_met, key-met}
use Rattle.columns.proofs.good.key_bytes.Goals as goal

-- `key_bytes` counts the bytes that are alike.
pub returns : goal.returns
returns c = let a = c.args in
    let both = zip a.line.now a.key.now in
    let e : c.count.result ≡ bytes_met a.line.now a.key.now =
    count_from_yields_List c.take_while.result _ c.count.ensures.ran (YieldsList-from_take_while _ alike (YieldsList-from_zip (YieldsList-from_slice a.line.now (cc)) (YieldsList-from_slice a.key.now (cc))) c.take_while.ensures.closure c.take_while.ensures.done (λ x b q k. search (rules, tests))) ∙ length-prefix_len alike both in
    subst (λ (r : ℕ). KeyMet a.line.now a.key.now r) (sym e) (key-met a.line.now a.key.now)
