-- `is_named` compares the name with the bytes at the variable's place.
use Prim.Native.Nat.{ℕ, ◌+◌, ◌-◌}
use mathlib.Core.Path.{◌≡◌, ap, ◌∙◌}
use native.Mathlib.Omega.{arith}
use lib.ListN.{take, drop}
use Rattle.theory.specs.Lists.{same}
use Rattle.declaring.proofs.letters.is_named.Goals as goal

pub returns : goal.returns
returns c = let a = c.args in
    let e : a.letter.name + a.letter.length - a.letter.name ≡ a.letter.length = omega arith in
    c.eq.ensures ∙ ap (λ (n : ℕ). same a.name.now (take n (drop a.letter.name a.text.now))) e
