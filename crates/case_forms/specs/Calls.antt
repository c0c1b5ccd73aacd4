-- One call of Renumber and of Least form: what it was handed, the answer r, and the output before and after.
use Rattle.std.specs.Prelude.{ℕ, List, length}
use Rattle.renumbered_cases.specs.RenumberedCases.{renumbered_text, least_form_text}
use Rattle.answers.specs.Answers.{WriteAnswer}
use Rattle.answers.specs.Calls.{WritingCall}

-- Renumber
abbrev pub RenumberCall : List ℕ → List ℕ → List ℕ → WriteAnswer → List ℕ → List ℕ → Type 0
RenumberCall sheet case list r output output' = WritingCall (renumbered_text sheet case list (length output)) r output output'

-- Least form
abbrev pub LeastFormCall : List ℕ → List ℕ → WriteAnswer → List ℕ → List ℕ → Type 0
LeastFormCall sheet case r output output' = WritingCall (least_form_text sheet case (length output)) r output output'
