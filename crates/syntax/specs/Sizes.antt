-- A checked domain size.
use Rattle.std.specs.Prelude.{ℕ, cond}
use Rattle.theory.specs.Operations.{is_size}
use Rattle.syntax.specs.declared.size.DomainSize.{DomainSize}
use Rattle.std.specs.Prelude as rust
use Rattle.std.specs.Prelude.{Some, None}

-- the size n, if it is 1 to 8
abbrev pub checked_size : ℕ → rust.Option DomainSize
checked_size n = cond (is_size n) (Some (record { 0 = n })) None
