-- Demand 2 of the calls: truth in a finite interpretation decides what Judge, Write, Find and Find plain answer; of Write and Find in the mode of named terms too, `named` being the switch. "No others" and the least model are
-- of Write not asked for the constant clauses and of Find told no: the switch after `named` is `false`. What is said of the other calls is `Symmetry`; of stopped ones, `Allowance`.
use Rattle.std.specs.Prelude.{ℕ, ◌≤◌, ◌<◌, ◌≡◌, ◌⊎◌, ◌↔◌, Bool, false, List, take, Ok, Err, true}
use Rattle.theory.specs.Refusals.{answer}
use Rattle.theory.specs.Problem.{Problem, read_problem}
use Rattle.theory.specs.CaseText.{Case, read_case}
use Rattle.theory.specs.Claims.Least.{NotAfter}
use Rattle.naming.specs.NamedOperations.{read_problem_in, mode_problem, content_of_in}
use Rattle.answers.specs.declared.Refusal.{Refusal}
use Rattle.answers.specs.declared.PlainResult.TheVariants.{Found, Nothing}
use Rattle.answers.specs.Answers.{FindAnswer, JudgeAnswer, WriteAnswer}
use Rattle.answers.specs.Calls.{JudgeCall, WriteCall, PlainCall}
use Rattle.theorems.specs.Texts.{clauses_text}
use Rattle.theorems.specs.Leaving.{Leaves}
use Rattle.theorems.specs.Models.{IsTrue, Model}
use Rattle.theorems.specs.Unstopped.{UnstoppedCall}

-- sheet and case are laid out as document 01 says
pub record CaseOf (sheet text : List ℕ) : Type 0 where
  pub problem : Problem
  pub sheet_read : read_problem sheet ≡ answer problem
  pub case : Case
  pub case_read : read_case problem.symbols text ≡ answer case

-- of a call of Judge: a case is judged a model exactly if it is one
pub record Judges (sheet text : List ℕ) (r : JudgeAnswer) : Type 0 where
  pub yes : (r ≡ Ok true) ↔ ((c : CaseOf sheet text) × IsTrue c.problem c.case)
  pub no : (r ≡ Ok false) ↔ ((c : CaseOf sheet text) × (IsTrue c.problem c.case → ⊥))

-- of the text that a call of Write leaves, not asked: the clauses are those of document 01's steps, taken on the clauses that the mode has, and no others
pub record Writes (sheet : List ℕ) (size : ℕ) (named : Bool) (text : List ℕ) : Type 0 where
  pub problem : Problem
  pub content : content_of_in named sheet size ≡ answer problem
  pub clauses : text ≡ clauses_text (mode_problem named problem) size

-- no case of a searched size is a model
abbrev pub NoModel : Problem → ℕ → ℕ → Type 0
NoModel p low high = (t : ℕ) (d : List ℕ) → low ≤ t → t ≤ high → Model p t d → ⊥

-- the text is that of a model of a searched size; each model of a searched size has a larger size, or the same and values that do not come before
pub record LeastModel (p : Problem) (low high size : ℕ) (text : List ℕ) : Type 0 where
  pub model : Model p size text
  pub searched : (low ≤ size) × (size ≤ high)
  pub least : (t : ℕ) (d : List ℕ) → low ≤ t → t ≤ high → (m : Model p t d) → (size < t) ⊎ ((size ≡ t) × NotAfter model.case.values m.case.values)

-- of a call of Find told no that is not stopped, or of Find plain: it finds the least model at the smallest size that has one, or it says none; none exactly if no case of a searched size is a model
pub record Finds (p : Problem) (low high : ℕ) (r : FindAnswer) (output : List ℕ) : Type 0 where
  pub found : (size n : ℕ) → r ≡ Ok (Found size n) → LeastModel p low high size (take n output)
  pub says_none : (settled : Bool) → r ≡ Ok (Nothing settled) → NoModel p low high
  pub none_if : NoModel p low high → ((q : Refusal) → r ≡ Err q → ⊥) → (settled : Bool) × (r ≡ Ok (Nothing settled))

-- it holds of every call
pub record Demand2 : Type 0 where
  pub judge : (sheet text : List ℕ) (r : JudgeAnswer) → JudgeCall sheet text r → Judges sheet text r
  pub write : (sheet : List ℕ) (size : ℕ) (named : Bool) (r : WriteAnswer) (output output' : List ℕ) → WriteCall sheet size named false r output output'
      → (text : List ℕ) → Leaves r output' text → Writes sheet size named text
  pub find : (sheet : List ℕ) (p : Problem) (low high : ℕ) (named : Bool) → read_problem_in named sheet ≡ answer p
      → (r : FindAnswer) (work work' output output' : List ℕ) → UnstoppedCall sheet low high named false r work work' output output' → Finds p low high r output'
  pub find_plain : (sheet : List ℕ) (p : Problem) (low high : ℕ) → read_problem sheet ≡ answer p
      → (r : FindAnswer) (output output' : List ℕ) → PlainCall sheet low high r output output' → Finds p low high r output'
