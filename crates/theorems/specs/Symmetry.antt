-- Symmetry, of the calls (document 02, slip 10): Find told yes and Write asked for the constant clauses, in the mode of named terms too. None still means that no case of a searched size is a model; found is the least model
-- among those that obey, at the smallest size that has a model; and every model has a renumbering that obeys. What obeying is says `symmetry/specs/Obeying`; that the clauses say it, `symmetry/specs/Claims/ConstantClauses`.
use Rattle.std.specs.Prelude.{ℕ, ◌≤◌, ◌<◌, ◌≡◌, ◌⊎◌, ◌↔◌, Bool, true, false, List, take, Ok, Err}
use Rattle.theory.specs.Valuation.{read_back}
use Rattle.theory.specs.Refusals.{answer}
use Rattle.theory.specs.Problem.{Problem}
use Rattle.theory.specs.Claims.Least.{NotAfter}
use Rattle.theory.specs.Claims.ReadingBack.{Satisfying}
use Rattle.naming.specs.NamedOperations.{read_problem_in, mode_problem}
use Rattle.renumbering.specs.Rearrangements.{is_rearrangement}
use Rattle.renumbering.specs.Renumbering.{renumbered}
use Rattle.symmetry.specs.Obeying.{obeys, constants_first}
use Rattle.syntax.specs.Faults.{number_of}
use Rattle.answers.specs.declared.Refusal.{Refusal}
use Rattle.answers.specs.declared.PlainResult.TheVariants.{Found, Nothing}
use Rattle.answers.specs.Answers.{FindAnswer, WriteAnswer}
use Rattle.answers.specs.Calls.{WriteCall}
use Rattle.finding.specs.declared.allowed.FindResult.TheVariants as allowed
use Rattle.finding.specs.Calls.{AllowedAnswer, FindCall}
use Rattle.theorems.specs.Leaving.{Leaves}
use Rattle.theorems.specs.Models.{Model}
use Rattle.theorems.specs.Unstopped.{UnstoppedCall}
use Rattle.theorems.specs.Allowance.{Unrefused}
use Rattle.theorems.specs.Demand2.{NoModel}
use Rattle.theorems.specs.SameAnswers.{NotRefused}
use Rattle.theorems.specs.Named.{AnswersAlike}

-- the text is that of a model that obeys the constant clauses
pub record ObeyingModel (p : Problem) (size : ℕ) (text : List ℕ) : Type 0 where
  pub model : Model p size text
  pub obeying : obeys size p.symbols model.case.values ≡ true

-- the text is that of a model of a searched size that obeys; no smaller searched size has a model, obeying or not; and no model of its size that obeys comes before it
pub record LeastObeyingModel (p : Problem) (low high size : ℕ) (text : List ℕ) : Type 0 where
  pub obeying : ObeyingModel p size text
  pub searched : (low ≤ size) × (size ≤ high)
  pub smallest : (t : ℕ) (d : List ℕ) → low ≤ t → t < size → Model p t d → ⊥
  pub least : (d : List ℕ) (m : ObeyingModel p size d) → NotAfter obeying.model.case.values m.model.case.values

-- of a call of Find told yes that is neither refused nor stopped; none exactly if no case of a searched size is a model, obeying or not
pub record FindsToldYes (p : Problem) (low high : ℕ) (r : FindAnswer) (output : List ℕ) : Type 0 where
  pub found : (size n : ℕ) → r ≡ Ok (Found size n) → LeastObeyingModel p low high size (take n output)
  pub says_none : (settled : Bool) → r ≡ Ok (Nothing settled) → NoModel p low high
  pub none_if : NoModel p low high → NotRefused r → (settled : Bool) × (r ≡ Ok (Nothing settled))

-- of a model's values: a renumbering of them that obeys, and its text
pub record RenumberedModel (p : Problem) (size : ℕ) (values : List ℕ) : Type 0 where
  pub by : List ℕ
  pub rearrangement : is_rearrangement size by ≡ true
  pub text : List ℕ
  pub obeying : ObeyingModel p size text
  pub turned : obeying.model.case.values ≡ renumbered size p.symbols by values

-- some call of Find, with whatever allowance and lent whatever it was, answers r and is neither refused nor stopped
pub record Answers (sheet : List ℕ) (low high : ℕ) (named symmetry : Bool) (r : FindAnswer) (output' : List ℕ) : Type 0 where
  pub work : List ℕ
  pub work' : List ℕ
  pub output : List ℕ
  pub call : UnstoppedCall sheet low high named symmetry r work work' output output'
  pub taken : NotRefused r

-- the answer without the length of its case: the size, or none with the mark
abbrev pub size_of : FindAnswer → FindAnswer
size_of (Ok (Found size n)) = Ok (Found size 0)
size_of (Ok (Nothing settled)) = Ok (Nothing settled)
size_of (Err q) = Err q

-- the theorem
pub record Symmetry : Type 0 where
  -- what Find told yes finds
  pub find : (sheet : List ℕ) (p : Problem) (low high : ℕ) (named : Bool) → read_problem_in named sheet ≡ answer p
      → (r : FindAnswer) (work work' output output' : List ℕ) → UnstoppedCall sheet low high named true r work work' output output' → FindsToldYes p low high r output'
  -- every model of a sheet has a renumbering that obeys
  pub every_model : (sheet : List ℕ) (p : Problem) (named : Bool) → read_problem_in named sheet ≡ answer p
      → (size : ℕ) (text : List ℕ) (m : Model p size text) → RenumberedModel p size m.case.values
  -- told no and told yes, where neither is refused or stopped: the same size, or both none with the same mark,
  pub same_size : (sheet : List ℕ) (low high : ℕ) (named : Bool) (r s : FindAnswer) (output other : List ℕ)
      → Answers sheet low high named false r output → Answers sheet low high named true s other → size_of r ≡ size_of s
  -- and the same case where all constants are declared before other functions
  pub same_case : (sheet : List ℕ) (p : Problem) (low high : ℕ) (named : Bool) → read_problem_in named sheet ≡ answer p → constants_first p.symbols ≡ true
      → (r s : FindAnswer) (output other : List ℕ) → Answers sheet low high named false r output → Answers sheet low high named true s other → AnswersAlike r output s other
  -- told yes and told no with the same allowance, work and output, stopped or not: where told yes it is not refused, told no it is not,
  pub not_refused : (sheet : List ℕ) (low high : ℕ) (named : Bool) (a : ℕ) (r s : AllowedAnswer) (work work' work⁺ output output' output⁺ : List ℕ)
      → FindCall sheet low high named false a r work work' output output' → FindCall sheet low high named true a s work work⁺ output output⁺ → Unrefused s → Unrefused r
  -- and where told no it is not refused, told yes it is refused with 9 or 10 at most
  pub refused_more : (sheet : List ℕ) (low high : ℕ) (named : Bool) (a : ℕ) (r s : AllowedAnswer) (work work' work⁺ output output' output⁺ : List ℕ)
      → FindCall sheet low high named false a r work work' output output' → FindCall sheet low high named true a s work work⁺ output output⁺ → Unrefused r
      → (q : Refusal) → s ≡ Err q → (number_of q.fault ≡ 9) ⊎ (number_of q.fault ≡ 10)
  -- Write: a setting satisfies the text of Write asked exactly if it satisfies the text of Write not asked, and the values that it is read back as obey; helpers are no constants of the sheet
  pub write : (sheet : List ℕ) (p : Problem) (size : ℕ) (named : Bool) → read_problem_in named sheet ≡ answer p
      → (r : WriteAnswer) (output output' text : List ℕ) → WriteCall sheet size named false r output output' → Leaves r output' text
      → (s : WriteAnswer) (other other' more : List ℕ) → WriteCall sheet size named true s other other' → Leaves s other' more
      → (σ : List ℕ) → Satisfying (mode_problem named p) size more σ
      ↔ (Satisfying (mode_problem named p) size text σ × (obeys size (mode_problem named p).symbols (read_back size (mode_problem named p).symbols σ) ≡ true))
