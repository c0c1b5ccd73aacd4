-- Reading with columns gives what reading without them gives, and a refusal its column.
use Prim.Native.Nat.{ℕ}
use mathlib.Core.Path.{◌≡◌, refl, sym, ap}
use mathlib.Core.List.{List}
use Rattle.theory.specs.Syntax.{Signature}
use Rattle.theory.specs.Refusals.{Refusal, Answer, answer, refused}
use Rattle.theory.specs.Problem.{Problem, read_problem}
use Rattle.theory.specs.CaseText.{Case, read_case}
use Rattle.theory.specs.Columns.{sheet_column, case_column, with_column, with_columns, placed_problem, placed_case}
use Rattle.theory.proofs.Answers.{answer≢refused, refused-inj}

-- the answer of a refusal, and the refusal without its column
pub record PlacedRefusal {A : Type 0} (column : ℕ → ℕ → ℕ) (m : Answer A) (r : Refusal) : Type 0 where
  pub plain : Refusal
  pub refuses : m ≡ refused plain
  pub placed : with_column (column plain.number plain.place.line) plain ≡ r

module _ {A : Type 0} (column : ℕ → ℕ → ℕ) where
  pub answered : (m : Answer A) (a : A) → with_columns column m ≡ answer a → m ≡ answer a
  answered (answer b) a e = e
  answered (refused q) a e = absurd (answer≢refused a _ (sym e))

  pub refusal : (m : Answer A) (r : Refusal) → with_columns column m ≡ refused r → PlacedRefusal column m r
  refusal (answer a) r e = absurd (answer≢refused a r e)
  refusal (refused q) r e = record { plain = q; refuses = refl; placed = refused-inj {A = A} _ r e }

pub placed-problem : (sheet : List ℕ) (p : Problem) → read_problem sheet ≡ answer p → placed_problem sheet ≡ answer p
unfolding placed_problem
placed-problem sheet p e = ap (with_columns (sheet_column sheet)) e

pub problem-read : (sheet : List ℕ) (p : Problem) → placed_problem sheet ≡ answer p → read_problem sheet ≡ answer p
unfolding placed_problem
problem-read sheet p e = answered (sheet_column sheet) (read_problem sheet) p e

pub plain-problem : (sheet : List ℕ) (r : Refusal) → placed_problem sheet ≡ refused r → PlacedRefusal (sheet_column sheet) (read_problem sheet) r
unfolding placed_problem
plain-problem sheet r e = refusal (sheet_column sheet) (read_problem sheet) r e

pub problem-refused : (sheet : List ℕ) (r : Refusal) → read_problem sheet ≡ refused r → placed_problem sheet ≡ refused (with_column (sheet_column sheet r.number r.place.line) r)
unfolding placed_problem
problem-refused sheet r e = ap (with_columns (sheet_column sheet)) e

module _ (g : Signature) (case : List ℕ) where
  pub placed-case : (k : Case) → read_case g case ≡ answer k → placed_case g case ≡ answer k
  unfolding placed_case
  placed-case k e = ap (with_columns (λ _ l. case_column g case l)) e

  pub case-read : (k : Case) → placed_case g case ≡ answer k → read_case g case ≡ answer k
  unfolding placed_case
  case-read k e = answered (λ _ l. case_column g case l) (read_case g case) k e

  pub plain-case : (r : Refusal) → placed_case g case ≡ refused r → PlacedRefusal (λ _ l. case_column g case l) (read_case g case) r
  unfolding placed_case
  plain-case r e = refusal (λ _ l. case_column g case l) (read_case g case) r e
