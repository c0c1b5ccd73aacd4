-- What the finder's input asks, as the code says it.
use Rattle.std.specs.Prelude.{ℕ, List, drop, Ok, Err}
use Rattle.std.specs.Prelude as rust
use Rattle.std.proofs.Math.Option.{Option, none, some}
use Rattle.allowance.specs.FinderProgram as theory
use Rattle.syntax.specs.declared.faults.Fault.{Fault}
use Rattle.program.specs.declared.Question.{Question}

-- the question of an input, its sheet as text; none where a line is refused
abbrev pub asked_in : List ℕ → rust.Result Question Fault → Option theory.Question
asked_in input (Ok q) = some (record { low = q.low; high = q.high; symmetry = q.symmetry; allowance = q.allowance; sheet = drop q.sheet input })
asked_in input (Err f) = none
