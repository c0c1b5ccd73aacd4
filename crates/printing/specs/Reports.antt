-- What the programs leave in their output buffers.
use Rattle.std.specs.Prelude.{ℕ, ◌≤◌, ◌<◌, ◌^◌, ◌≡◌, List, ◌++◌, length, take, drop}
use Rattle.theory.specs.Refusals.{Answer, Refusal, answer, refused}
use Rattle.theory.specs.Operations.{Search, over}
use Rattle.allowance.specs.AllowedFind.{Stoppable, stopped, allowed_answer, allowed_output}
use Rattle.finding.specs.Calls.{AllowedAnswer, allowed_in}

-- n is the length of the text, which stands at the front of the output, and the bytes after it are as they were
pub record Responds (text : List ℕ) (n : ℕ) (output output' : List ℕ) : Type 0 where
  pub counted : n ≡ length text
  pub within : n ≤ length output'
  pub left : output' ≡ over text output

-- a search's answer, and the output in which it was lent all but the first 13 bytes
pub record Reportable (r : AllowedAnswer) (output : List ℕ) : Type 0 where
  pub result : Answer (Stoppable Search)
  pub answered : allowed_in r ≡ allowed_answer result
  pub before : List ℕ
  pub left : output ≡ take 13 before ++ allowed_output result (drop 13 before)
  pub long : length output ≡ 24915
  pub kept : length before ≡ 24915
  pub placed : (q : Refusal) → result ≡ refused q → (q.place.line < 2 ^ 32) × (q.place.column < 2 ^ 32)
  pub sized : (s n : ℕ) → result ≡ answer (stopped s n) → s < 2 ^ 32
