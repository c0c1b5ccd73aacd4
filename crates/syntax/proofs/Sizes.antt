-- What the check of a size tells: a size of 1 to 8 is taken as it is, another refused.
use Prim.Native.Nat.{ℕ, ◌≤◌}
use mathlib.Core.Path.{◌≡◌, refl, sym, ap}
use mathlib.Core.Bool.{Bool, true, false, cond}
use native.Mathlib.Omega.{arith}
use lib.Dec.{leb}
use Rattle.theory.specs.Operations.{max_size, is_size}
use Rattle.theory.proofs.Tests.{leb-true, and_left, and_right}
use Rattle.syntax.specs.declared.size.DomainSize.{DomainSize}
use Rattle.std.specs.Prelude.{Some, None}
use Rattle.std.specs.Prelude as rust
use Rattle.syntax.specs.Sizes.{checked_size}

pub checked-size : (n : ℕ) (s : DomainSize) → checked_size n ≡ Some s → (is_size n ≡ true) × (s.0 ≡ n)
checked-size n s = go (is_size n)
  where
    go : (b : Bool) → cond {A = rust.Option DomainSize} b (Some (record { 0 = n })) None ≡ Some s → (b ≡ true) × (s.0 ≡ n)
    go true e = let h : ◌≡◌ {A = DomainSize} (record { 0 = n }) s = cc in (refl, sym (ap (λ (x : DomainSize). x.0) h))
    go false e = let z : ◌≡◌ {A = ℕ} 0 1 = cc in absurd (omega arith)

pub refused-size : (n : ℕ) → checked_size n ≡ None → is_size n ≡ false
refused-size n = go (is_size n)
  where
    go : (b : Bool) → cond {A = rust.Option DomainSize} b (Some (record { 0 = n })) None ≡ None → b ≡ false
    go true e = let z : ◌≡◌ {A = ℕ} 0 1 = cc in absurd (omega arith)
    go false e = refl

pub size-within : (n : ℕ) → is_size n ≡ true → (1 ≤ n) × (n ≤ max_size)
size-within n e = (leb-true 1 n (and_left (leb 1 n) (leb n max_size) e), leb-true n max_size (and_right (leb 1 n) (leb n max_size) e))
