-- Explaining: no reason is given exactly when Judge says yes, and a reason shows the first clause and the first choice of values under which it fails.
use Rattle.std.specs.Prelude.{ℕ, zero, suc, ◌≤◌, ◌<◌, ◌≡◌, ◌⊎◌, ◌↔◌, true, false, List, [], ◌∷◌, length, get_or, take}
use Rattle.std.proofs.Math.Option.{none, some}
use Rattle.theory.specs.Lists.{concat_map, elem}
use Rattle.theory.specs.Vectors.{AllBelow}
use Rattle.theory.specs.Syntax.{Literal, Clause, atom_variables}
use Rattle.theory.specs.Truth.{clause_true, assign}
use Rattle.theory.specs.Cells.{interpretation}
use Rattle.theory.specs.Refusals.{Refusal, answer, refused}
use Rattle.theory.specs.Problem.{Problem}
use Rattle.theory.specs.CaseText.{Case}
use Rattle.theory.specs.Columns.{placed_problem, placed_case}
use Rattle.theory.specs.Operations.{judge_answer, Reason, explain_answer}
use Rattle.theory.specs.Claims.Truth.{Valid}

-- clause n of a problem, counted from 1
abbrev pub clause_number : Problem → ℕ → Clause
clause_number p zero = []
clause_number p (suc n) = get_or p.clauses n []

-- the letters of a clause as they appear in it, repeats included
abbrev pub appearances : Clause → List ℕ
appearances c = concat_map (λ (l : Literal). atom_variables l.atom) c

-- x stands at some place of the list, and y at none up to there
abbrev pub AppearsBefore : List ℕ → ℕ → ℕ → Type 0
AppearsBefore ys x y = (i : ℕ) × (i < length ys) × (get_or ys i 0 ≡ x) × (elem y (take (suc i) ys) ≡ false)

-- each of the letters appears before all that follow it do, so that none stands twice
abbrev pub InOrder : List ℕ → List ℕ → Type 0
InOrder ys [] = Unit {0}
InOrder ys (x ∷ xs) = ((y : ℕ) → elem y xs ≡ true → AppearsBefore ys x y) × InOrder ys xs

-- v comes before u: it has the smaller element at the first place where they differ, so that the last place runs fastest
abbrev pub Before : List ℕ → List ℕ → Type 0
Before [] u = ⊥
Before (d ∷ v) [] = ⊥
Before (d ∷ v) (e ∷ u) = (d < e) ⊎ ((d ≡ e) × Before v u)

-- v has an element for each of the letters xs
pub record Choice (s : ℕ) (xs v : List ℕ) : Type 0 where
  pub counted : length v ≡ length xs
  pub elements : AllBelow s v

-- what is true of a reason, of the problem and the case that were read
pub record FirstFailing (p : Problem) (k : Case) (q : Reason) : Type 0 where
  -- the clause is one of the sheet
  pub from-1 : 1 ≤ q.clause
  pub among : q.clause ≤ length p.clauses
  -- its letters are those that appear in it, each once, in order of first appearance
  pub appear : (x : ℕ) → (elem x q.letters ≡ true) ↔ (elem x (appearances (clause_number p q.clause)) ≡ true)
  pub ordered : InOrder (appearances (clause_number p q.clause)) q.letters
  -- under the choice shown the clause is false in the case
  pub choice : Choice k.size q.letters q.values
  pub fails : clause_true (interpretation k.size p.symbols k.values) (assign q.letters q.values) (clause_number p q.clause) ≡ false
  -- every clause before it is true under every assignment
  pub clauses-before : (n : ℕ) → 1 ≤ n → n < q.clause → Valid (interpretation k.size p.symbols k.values) k.size (clause_number p n)
  -- every choice before the one shown leaves it true
  pub choices-before : (v : List ℕ) → Choice k.size q.letters v → Before v q.values
      → clause_true (interpretation k.size p.symbols k.values) (assign q.letters v) (clause_number p q.clause) ≡ true

-- the problem and the case of two texts, and what is true of a reason
pub record Explained (sheet case : List ℕ) (q : Reason) : Type 0 where
  pub problem : Problem
  pub read : placed_problem sheet ≡ answer problem
  pub values : Case
  pub case-read : placed_case problem.symbols case ≡ answer values
  pub first : FirstFailing problem values q

-- the theorem
pub record Explaining (sheet case : List ℕ) : Type 0 where
  -- Explain is refused exactly as Judge is
  pub refuses : (r : Refusal) → (explain_answer sheet case ≡ refused r) ↔ (judge_answer sheet case ≡ refused r)
  -- unless refused, it gives no reason exactly when Judge says yes
  pub yes : (explain_answer sheet case ≡ answer none) ↔ (judge_answer sheet case ≡ answer true)
  -- and one exactly when it says no
  pub no : ((q : Reason) × (explain_answer sheet case ≡ answer (some q))) ↔ (judge_answer sheet case ≡ answer false)
  -- a reason is the first failure
  pub reason : (q : Reason) → explain_answer sheet case ≡ answer (some q) → Explained sheet case q

-- it holds of all texts
abbrev pub ExplainingHolds : Type 0
ExplainingHolds = (sheet case : List ℕ) → Explaining sheet case
