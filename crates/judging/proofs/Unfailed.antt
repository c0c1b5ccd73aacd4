-- The walk over clauses and choices: no clause before the one reached fails, nor does that one under the choices before the one reached.
use Prim.Native.Nat.{ℕ, suc, ◌+◌, ◌-◌, ◌^◌, ◌≤◌, ◌<◌}
use mathlib.Core.Path.{◌≡◌, refl, sym, ap, ◌∙◌}
use mathlib.Core.Bool.{Bool, true, false, not}
use mathlib.Core.Option.{Option, none, some}
use mathlib.Core.List.{List, []}
use native.Mathlib.Numerals.{add-one}
use native.Mathlib.Omega.{arith}
use lib.ListN.{length, get_or, take, drop, drop_of_length-le}
use lib.Seq.{drop-cons}
use Rattle.theory.specs.Lists.{first_that}
use Rattle.theory.specs.Vectors.{vectors}
use Rattle.theory.specs.Syntax.{Signature, Clause, variables}
use Rattle.theory.specs.Truth.{Interpretation, first_failure}
use Rattle.theory.specs.Truth as theory
use Rattle.theory.specs.Cells.{interpretation, judged}
use Rattle.syntax.specs.declared.limits.Problem.{Problem}
use Rattle.interpretation.specs.declared.vector.ArgumentVector.{ArgumentVector}
use Rattle.interpretation.specs.Vectors.{digits_in, first_vector, IsNext}
use Rattle.problem.specs.Problems.{problem_in, Accepted}
use Rattle.truth.specs.Values.{Chosen, IsClauseValue}
use Rattle.problem.proofs.Counted.{clause-count}
use Rattle.judging.proofs.ClausesLent.{true_at, ClauseHeld}
use Rattle.judging.proofs.Passing.{Reached, first-reached, next-reached, reached-length, reached-below, found_here, found-later, found_none}

-- clause k with its first failing choice, or the first failure behind it
abbrev failure_or : ℕ → Option (List ℕ) → Option theory.Failure → Option theory.Failure
failure_or k o r = elim o as (λ _. Option theory.Failure) [ some v ↦ some (record { clause = k; choice = v }) | none ↦ r ]

module _ (sheet : List ℕ) (p : Problem) (cells : List ℕ) (s : ℕ) where
  abbrev g : Signature
  g = (problem_in sheet p).symbols

  abbrev cs : List Clause
  cs = (problem_in sheet p).clauses

  abbrev I : Interpretation
  I = interpretation s g cells

  abbrev clause : ℕ → Clause
  clause k = get_or cs k []

  -- how many variables clause k has
  abbrev own : ℕ → ℕ
  own k = length (variables (clause k))

  abbrev fails_at : ℕ → List ℕ → Bool
  fails_at k v = not (true_at sheet p cells s k v)

  -- no clause before clause k fails
  pub record Unfailed (k : ℕ) : Type 0 where
    pub within : k ≤ p.count
    pub rest : judged s g cs cells ≡ first_failure I s k (drop k cs)

  -- nor does clause k under the choices before choice i, which is a
  pub record Passed (k : ℕ) (a : ArgumentVector) (i : ℕ) : Type 0 where
    pub reached : Reached s (own k) a i
    pub rest : judged s g cs cells ≡ failure_or k (first_that (fails_at k) (drop i (vectors s (own k)))) (first_failure I s (suc k) (drop (suc k) cs))

  pub none-failed : Unfailed 0
  unfolding judged
  none-failed = record { within = omega arith; rest = refl }

  module _ (accepted : Accepted sheet p) where
    counted : length cs ≡ p.count
    counted = clause-count sheet p accepted

    module _ (k : ℕ) (u : Unfailed k) where
      pub all-passed : p.count ≤ k → none ≡ judged s g cs cells
      all-passed h = sym (u.rest ∙ ap (first_failure I s k) (drop_of_length-le cs {i = k} (omega (arith, counted))))

      module _ {arities : List ℕ} {functions : List Bool} {bases words : List ℕ} {n : ℕ} {place : List ℕ} {count choices : ℕ} (c : ClauseHeld sheet p arities functions bases cells s k words n place count choices) where
        -- at its first choice the clause has passed none
        pub none_passed : k < p.count → 1 ≤ s → s ≤ 8 → (a : ArgumentVector) → a ≡ first_vector count (record { 0 = s }) → Passed k a 0
        none_passed l h b a e =
            record {
              reached = rw (e, c.own) (first-reached s (own k) h b (omega (arith, c.own, c.few)));
              rest = u.rest ∙ ap (first_failure I s k) (drop-cons cs k [] (omega (arith, counted)));
            }

  module _ {arities : List ℕ} {functions : List Bool} {bases : List ℕ} {k : ℕ} {words : List ℕ} {n : ℕ} {place : List ℕ} {count choices : ℕ}
      (c : ClauseHeld sheet p arities functions bases cells s k words n place count choices) {a : ArgumentVector} {i : ℕ} (q : Passed k a i) where
    lent : take (count - 0) a.digits ≡ digits_in a
    lent = let z : count - 0 ≡ a.count = omega (arith, q.reached.count, c.own) in ap (λ (m : ℕ). take m a.digits) z

    -- the digits, as they are lent, are a choice
    pub choice-lent : Chosen c.lent.variables s (take (count - 0) a.digits)
    choice-lent = rw lent (record { counted = reached-length s (own k) a i q.reached ∙ sym c.own ∙ c.counted; below = reached-below s (own k) a i q.reached })

    choices-held : choices ≡ s ^ own k
    choices-held = c.all ∙ ap (λ (m : ℕ). s ^ m) c.own

    abbrev rest : Option (List ℕ) → Option theory.Failure
    rest o = failure_or k o (first_failure I s (suc k) (drop (suc k) cs))

    -- the choices are at an end: the next clause
    pub clause-passes : k < p.count → choices ≤ i → Unfailed (k + 1)
    clause-passes l h = rw add-one (record { within = l; rest = q.rest ∙ ap rest (found_none s (own k) a i q.reached (fails_at k) (omega (arith, choices-held))) })

    -- b is the clause's truth under the choice
    module _ (l : i < choices) (b : Bool) (t : IsClauseValue (take (n - 0) words) place arities functions bases cells s (take (count - 0) a.digits) b) where
      here : i < s ^ own k
      here = omega (arith, choices-held)

      fails-not : fails_at k (digits_in a) ≡ not b
      fails-not = sym (ap not (c.value b (take (count - 0) a.digits) (t c.lent choice-lent) ∙ ap (true_at sheet p cells s k) lent))

      -- false: it is the first failure
      pub choice-fails : b ≡ false → some (record { clause = k; choice = digits_in a }) ≡ judged s g cs cells
      choice-fails z = sym (q.rest ∙ ap rest (found_here s (own k) a i q.reached (fails_at k) here (fails-not ∙ ap not z)))

      -- true: the next choice
      pub choice-passes : b ≡ true → (r : ArgumentVector) → length r.digits ≡ 10 → IsNext a r → Passed k r (i + 1)
      choice-passes z r long x =
          rw add-one
          record {
            reached = next-reached s (own k) a r i long q.reached here x;
            rest = q.rest ∙ ap rest (found-later s (own k) a i q.reached (fails_at k) here (fails-not ∙ ap not z));
          }
