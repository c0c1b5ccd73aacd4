-- A sheet read in one of the two modes: plain, or with named terms.
use Rattle.std.specs.Prelude.{◌≡◌, Bool, List, ℕ}
use Rattle.theory.specs.Refusals.{Answer, answer, ◌>>=◌}
use Rattle.theory.specs.Problem as theory
use Rattle.naming.specs.NamedProblem.{shown_symbols}
use Rattle.naming.specs.NamedOperations.{read_problem_in, mode_problem}
use Rattle.syntax.specs.declared.signature.Signature.{Signature}
use Rattle.syntax.specs.Signatures.{signature_in, without_helpers}

-- the problem whose clauses are written and searched, or the refusal
abbrev pub read_in : Bool → List ℕ → Answer theory.Problem
read_in named sheet = read_problem_in named sheet >>= λ p. answer (mode_problem named p)

-- the symbols that a case shows are those before the first helper
abbrev pub Shows : List ℕ → Signature → Type 0
Shows sheet s = shown_symbols (signature_in sheet s) ≡ signature_in sheet (without_helpers s)
