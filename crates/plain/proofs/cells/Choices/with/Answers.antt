-- `with` meets its contract: the cells stand behind the old ones.
use borrow.Author.Rules.{rules}
use Prim.Native.Nat.{ℕ, ◌+◌, ◌-◌}
use mathlib.Core.Path.{◌≡◌, refl, ap, ◌∙◌}
use mathlib.Core.List.{List, ◌++◌}
use native.Mathlib.Omega.{arith}
use lib.ListN.{length, take, drop, replicate, length-replicate, length-drop}
use lib.Seq.{length-take-le}
use Rattle.std.proofs.lemmas.Slice.{take-put_mid}
use Rattle.plain.proofs.cells.Choices.with.Goals as goal

pub returns : goal.returns
returns c = let z = c in
    let a = z.args in
    let from = a.self.count in
    let long : length a.self.values ≡ 64 = search rules in
    let new : length (take (from + a.n - from) (drop from a.self.values)) ≡ a.n = omega (arith, long, z.requires, length-drop from a.self.values, length-take-le (from + a.n - from) (drop from a.self.values)) in
    let filled : c.fill.new.self ≡ replicate a.n a.values = c.fill.ensures.after (λ y e. e) ∙ ap (λ (m : ℕ). replicate m a.values) new in record {
      count = refl;
      values =
          take-put_mid from (from + a.n - from) a.self.values c.fill.new.self (from + a.n) (omega (arith, ap length filled, length-replicate a.n a.values)) (omega (arith, long, z.requires))
          ∙ ap (λ (l : List ℕ). take from a.self.values ++ l) filled;
    }
