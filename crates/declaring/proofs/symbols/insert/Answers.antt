use Prim.Native.Nat.{◌+◌}
use mathlib.Core.Path.{◌≡◌, ap, ◌∙◌}
use mathlib.Core.List.{List}
use Rattle.syntax.specs.declared.signature.Symbol.{Symbol}
use native.Mathlib.Omega.{arith}
use lib.ListN.{length, take, set}
use borrow.Author.Rules.{rules}
use Rattle.clauses.proofs.Held.{blank}
use Rattle.declaring.proofs.Inserting.{moved-up}
use Rattle.declaring.proofs.symbols.insert.Goals as goal

-- `insert` moves up what stands from the place on.
pub returns : goal.returns
returns c =
    let a = c.args in
    let s = a.signature in
    let long : length s.symbols ≡ 56 = search rules in
    record {
      count = omega arith;
      symbols = ap (λ (l : List Symbol). take (s.count + 1) (set l a.at a.symbol)) c.copy_within.ensures.after ∙ moved-up s.symbols a.at s.count a.symbol blank c.requires.0 (omega arith);
    }
