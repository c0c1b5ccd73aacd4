-- What an option of the code says, as the theory's options say it.
use Rattle.std.specs.Prelude.{Some, None}
use Rattle.std.specs.Prelude as rust
use Rattle.std.proofs.Math.Option.{Option, none, some}

-- the value, if there is one
abbrev pub told : {A : Type 0} → rust.Option A → Option A
told (Some x) = some x
told None = none
