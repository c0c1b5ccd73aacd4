-- What the explainer program prints, from the bytes of a reason.
use Rattle.std.specs.Prelude.{ℕ, ◌≤◌, ◌<◌, ◌^◌, ◌≡◌, List, length}
use Rattle.std.proofs.Math.Option.{Option, some}
use Rattle.theory.specs.Vectors.{AllBelow}
use Rattle.theory.specs.Refusals.{Refusal, Answer, answer, refused}
use Rattle.theory.specs.Operations as operations
use Rattle.answers.specs.declared.Reason.{Reason}
use Rattle.answers.specs.Answers.{ExplainAnswer, reason_bytes}
use Rattle.answers.specs.Calls.{ReasoningCall}

-- a reason of few lines: a clause's number, and for each of at most eight letters a value of one digit
pub record Short (q : operations.Reason) : Type 0 where
  pub clause : q.clause < 2 ^ 32
  pub letters : length q.letters ≤ 8
  pub counted : length q.values ≡ length q.letters
  pub values : AllBelow 8 q.values

-- a reason that these bytes are
pub record Printable (r : Reason) : Type 0 where
  pub reason : operations.Reason
  pub is : r ≡ reason_bytes reason
  pub short : Short reason

-- an answer, and the output that has room for what is printed
pub record Explicable (r : ExplainAnswer) (output : List ℕ) : Type 0 where
  pub result : Answer (Option operations.Reason)
  pub call : ReasoningCall result r
  pub room : 128 ≤ length output
  pub short : (q : operations.Reason) → result ≡ answer (some q) → Short q
  pub placed : (q : Refusal) → result ≡ refused q → (q.place.line < 2 ^ 32) × (q.place.column < 2 ^ 32)
