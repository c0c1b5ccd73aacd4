-- Low and high, as both searches check them.
use Rattle.std.specs.Prelude.{ℕ, Bool, cond, ◌&&◌, leb}
use Rattle.theory.specs.Operations.{max_size}
use Rattle.std.specs.Prelude as rust
use Rattle.std.specs.Prelude.{Some, None}
use Rattle.syntax.specs.declared.size.DomainSize.{DomainSize}
use Rattle.ranges.specs.declared.size_range.SizeRange.{SizeRange}

-- low to high are sizes: 1 to 8, in order
abbrev pub are_sizes : ℕ → ℕ → Bool
are_sizes low high = leb 1 low && leb high max_size && leb low high

-- those sizes, if they are
abbrev pub checked_range : ℕ → ℕ → rust.Option (DomainSize × DomainSize)
checked_range low high = cond (are_sizes low high) (Some (record { 0 = low }, record { 0 = high })) None

-- the low and the high of a range that was made
abbrev pub ends_of : rust.Option SizeRange → rust.Option (DomainSize × DomainSize)
ends_of (Some r) = Some (r.low, r.high)
ends_of None = None
