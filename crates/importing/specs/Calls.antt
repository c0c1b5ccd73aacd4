-- One call of From TPTP: what it was handed, the answer r, and the lent output before and after.
use Rattle.std.specs.Prelude.{ℕ, List, length}
use Rattle.tptp.specs.Tptp.{tptp_text}
use Rattle.answers.specs.Answers.{WriteAnswer}
use Rattle.answers.specs.Calls.{WritingCall}

abbrev pub TptpCall : List ℕ → WriteAnswer → List ℕ → List ℕ → Type 0
TptpCall text r output output' = WritingCall (tptp_text text (length output)) r output output'
