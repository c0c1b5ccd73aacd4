-- What was read of a sheet in a mode is the problem that the definition reads, or its refusal.
use Prim.Native.Nat.{ℕ, ◌≤◌}
use mathlib.Core.Path.{◌≡◌, refl, sym, ap, ◌∙◌}
use mathlib.Core.Bool.{Bool, true, false}
use mathlib.Core.List.{List, [], append-nil}
use lib.Dec.{leb}
use lib.ListN.{length}
use Rattle.theory.specs.Refusals.{Answer, answer, refused, at_line, unplaced, ◌>>=◌}
use Rattle.theory.specs.Syntax.{all_declared}
use Rattle.theory.specs.Problem.{max_bytes, Problem, read_problem}
use Rattle.theory.proofs.Tests.{leb-true}
use Rattle.theory.proofs.Answers.{unbind, unrefused, answer-inj, answer≢refused, check-true}
use Rattle.theory.proofs.PlacedReading.{placed-problem}
use Rattle.theory.proofs.Parsing.{read_problem-bytes, read_problem-well_formed}
use Rattle.naming.specs.FixedTerms.{named_terms}
use Rattle.naming.specs.NamedProblem.{in_mode}
use Rattle.naming.specs.NamedReading.{read_named}
use Rattle.naming.specs.NamedOperations.{read_problem_in, placed_in, mode_problem}
use Rattle.naming.proofs.Reading.{read_named-taken, placed-named}
use Rattle.syntax.specs.declared.limits.Problem as code
use Rattle.problem.specs.declared.sections.SheetFault.{SheetFault}
use Rattle.syntax.specs.Faults.{number_of}
use Rattle.std.specs.Prelude.{Ok, Err}
use Rattle.problem.specs.Problems.{problem_in, reading_of}
use Rattle.problem.specs.Modes.{read_in, Shows}
use Rattle.problem.proofs.Showing.{shows}

-- plain, the problem that is written and searched is the one handed in
pub plain_in : (sheet : List ℕ) → read_in false sheet ≡ read_problem sheet
unfolding ◌>>=◌
plain_in sheet = go (read_problem sheet)
  where
    go : (m : Answer Problem) → (m >>= λ p. answer p) ≡ m
    go (answer p) = refl
    go (refused r) = refl

-- with columns the same problem is read
pub placed-in : (named : Bool) (sheet : List ℕ) (p : Problem) → read_problem_in named sheet ≡ answer p → placed_in named sheet ≡ answer p
placed-in false sheet p e = placed-problem sheet p e
placed-in true sheet p e = placed-named sheet p e

-- its symbols are declared
declared-in : (named : Bool) (sheet : List ℕ) (p : Problem) → read_problem_in named sheet ≡ answer p → all_declared p.symbols ≡ true
declared-in false sheet p e = (read_problem-well_formed sheet p e).origins
declared-in true sheet p e = (read_named-taken sheet p e).symbols.origins

-- the sheet is not too long
bytes-in : (named : Bool) (sheet : List ℕ) (p : Problem) → read_problem_in named sheet ≡ answer p → length sheet ≤ max_bytes
unfolding read_named
bytes-in false sheet p e = read_problem-bytes sheet p e
bytes-in true sheet p e = unbind _ _ p e λ (u : Unit {0}) h _. leb-true (length sheet) max_bytes (check-true (leb (length sheet) max_bytes) (unplaced 1) u h)

-- p was read of the sheet in a mode: the problem as handed in, and the one that is written and searched
pub record ReadAs (named : Bool) (sheet : List ℕ) (p : code.Problem) : Type 0 where
  pub problem : Problem
  pub read : read_problem_in named sheet ≡ answer problem
  pub is : problem_in sheet p ≡ mode_problem named problem
  pub placed : placed_in named sheet ≡ answer problem
  pub declared : all_declared problem.symbols ≡ true
  pub bytes : length sheet ≤ max_bytes

-- its helpers stand behind the declared symbols
pub read-shows : (named : Bool) (sheet : List ℕ) (p : code.Problem) → ReadAs named sheet p → Shows sheet p.signature
unfolding problem_in in_mode
read-shows false sheet p h = shows sheet p.signature h.problem.symbols [] (ap (λ (q : Problem). q.symbols) h.is ∙ sym (append-nil h.problem.symbols)) h.declared
read-shows true sheet p h = shows sheet p.signature h.problem.symbols (named_terms h.problem.clauses) (ap (λ (q : Problem). q.symbols) h.is) h.declared

-- the sheet is accepted
pub mode-accepted : (sheet : List ℕ) (named : Bool) (p : code.Problem) → reading_of sheet (Ok p) ≡ read_in named sheet → ReadAs named sheet p
mode-accepted sheet named q read =
    unbind (read_problem_in named sheet) _ (problem_in sheet q) (sym read) λ (p : Problem) h k.
    record {
      problem = p;
      read = h;
      is = sym (answer-inj (mode_problem named p) (problem_in sheet q) k);
      placed = placed-in named sheet p h;
      declared = declared-in named sheet p h;
      bytes = bytes-in named sheet p h;
    }

-- it is refused
pub mode-refused : (sheet : List ℕ) (named : Bool) (f : SheetFault) → reading_of sheet (Err f) ≡ read_in named sheet → read_problem_in named sheet ≡ refused (at_line (number_of f.fault) f.line)
mode-refused sheet named f read =
    unrefused (read_problem_in named sheet) _ (at_line (number_of f.fault) f.line) (sym read)
    (λ h. h) λ (p : Problem) _ k. absurd (answer≢refused (mode_problem named p) (at_line (number_of f.fault) f.line) k)
