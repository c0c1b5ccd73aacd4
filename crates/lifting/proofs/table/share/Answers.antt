-- `share` meets its contract: where no row is the term's, its place is the number of rows.
use Prim.Native.Nat.{ℕ, ◌≤◌}
use mathlib.Core.Path.{◌≡◌, refl, sym}
use mathlib.Core.Bool.{Bool, true, false, cond}
use mathlib.Core.List.{List}
use native.Mathlib.Omega.{arith}
use borrow.Author.Rules.{rules}
use lib.Dec.{ltb}
use lib.ListN.{length, take}
use lib.Seq.{length-take-le}
use Rattle.std.specs.Prelude.{Some, None}
use Rattle.std.specs.Prelude as rust
use Rattle.std.specs.List.{position, position_or_len}
use Rattle.std.proofs.lemmas.List.Sums.{prefix_len-le-length}
use Rattle.theory.proofs.Tests.{ltb-false}
use Rattle.lifting.specs.Rows.{same_row}
use Rattle.lifting.proofs.table.share.Goals as goal

nowhere : {A : Type 0} (p : A → Bool) (xs : List A) → position p xs ≡ None → position_or_len p xs ≡ length xs
nowhere p xs = go (ltb (position_or_len p xs) (length xs)) refl
  where
    go : (b : Bool) → ltb (position_or_len p xs) (length xs) ≡ b → ◌≡◌ {A = rust.Option ℕ} (cond b (Some (position_or_len p xs)) None) None → position_or_len p xs ≡ length xs
    go true q e = let z : ◌≡◌ {A = ℕ} 0 1 = cc in absurd (omega arith)
    go false q e = let le : position_or_len p xs ≤ length xs = prefix_len-le-length _ xs in omega (arith, ltb-false (position_or_len p xs) (length xs) q)

pub returns-in-None-clause-variable : goal.returns-in-None-clause-variable
returns-in-None-clause-variable c =
    let t = c.args.table.now in
    let long : length t.rows ≡ 64 = search rules in
    let n = length-take-le t.count t.rows (omega (arith, c.requires.0)) in
    omega (arith, n, nowhere (λ x. same_row x c.args.row) (take t.count t.rows) (sym c.in-None.ensures))
