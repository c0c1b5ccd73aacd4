-- OnePass: reading in one pass from the beginning, no variable being set, reads the reply.
use Rattle.std.specs.Prelude.{ℕ, ◌≡◌, List, replicate}
use Rattle.std.proofs.Math.Option.{none}
use Rattle.solver.specs.Replies.{read_reply}
use Rattle.solver.specs.OnePass.{unanswered, hear}

abbrev pub OnePassHolds : Type 0
OnePassHolds = (v : ℕ) (text : List ℕ) → hear unanswered (replicate v none) text ≡ read_reply v text
