-- From a failure to the reason that is shown of it.
use Prim.Native.Nat.{ℕ, suc, ◌+◌, ◌≤◌}
use mathlib.Core.Path.{◌≡◌, refl, sym, ap, ◌∙◌}
use mathlib.Core.Bool.{true, not}
use mathlib.Core.Option.{some}
use mathlib.Core.List.{List, [], map}
use native.Mathlib.Numerals.{add-one}
use native.Mathlib.Omega.{arith}
use lib.ListN.{length, get_or, length-take}
use Rattle.std.specs.Prelude.{Some, None}
use Rattle.std.specs.Prelude as rust
use Rattle.std.specs.Option.{MatchOption, IsSomeAnd}
use Rattle.theory.specs.Lists.{all, distinct}
use Rattle.theory.specs.Syntax.{Clause, variables}
use Rattle.theory.specs.Truth.{Interpretation, clause_true, assign}
use Rattle.theory.specs.Cells.{interpretation}
use Rattle.theory.specs.Refusals.{answer}
use Rattle.theory.specs.Operations.{Reason, reason_of}
use Rattle.theory.proofs.Vectors.{all_below-within}
use Rattle.theory.proofs.Truth.{judged-some}
use Rattle.theory.proofs.FirstChoice.{first-choice}
use Rattle.syntax.specs.declared.limits.Problem.{Problem}
use Rattle.syntax.specs.declared.words.ClauseWords.{ClauseWords}
use Rattle.syntax.specs.declared.variables.Variables.{Variables}
use Rattle.syntax.specs.Codes.{words_in}
use Rattle.syntax.specs.Variables.{letters_of, is_letter, variables_in, Places}
use Rattle.syntax.proofs.Places.{letters-below}
use Rattle.interpretation.specs.Vectors.{digits_in}
use Rattle.problem.specs.Problems.{problem_in, WordsOf}
use Rattle.answers.specs.declared.Reason as declared
use Rattle.std.specs.Prelude.{Ok}
use Rattle.answers.specs.Answers.{eight, reason_bytes}
use Rattle.answers.specs.Calls.{ReasoningCall}
use Rattle.answers.proofs.Reasons.{reason-said}
use Rattle.problem.proofs.Counted.{clause-count}
use Rattle.judging.specs.declared.failures.Failure.{Failure}
use Rattle.judging.specs.Failures.{failure_in}
use Rattle.judging.specs.Cases.{CellsLent, cells_of, judged_in}
use Rattle.judging.specs.Reasons.{reason_at, FailureHeld, reason_for}
use Rattle.judging.proofs.ClausesLent.{codes-below, own-variables, own-count, few-own}

-- the words of the clause that fails, and its variables
module _ (sheet : List ℕ) (p : Problem) (f : Failure) (h : FailureHeld sheet p f) (w : ClauseWords) (of : WordsOf sheet p f.clause w) (held : length w.words ≡ 64) (v : Variables) (placed : Places (variables_in w) v) where
  pub few-values : length f.values.digits ≡ 10 → f.values.count ≤ 8
  few-values long =
      omega
      (arith, h.counted, own-count sheet p h.accepted f.clause w of held v placed, few-own sheet p h.accepted f.clause w of held v placed, length-take f.values.count f.values.digits)

  -- what is shown is the reason that it is
  pub reason-shown : (letters : List ℕ) → ((xs : List ℕ) → all is_letter xs ≡ true → Places (distinct xs) v → letters ≡ eight (map (λ x. 65 + x) (distinct xs)))
      → (values : List ℕ) → values ≡ eight (map suc (digits_in f.values))
      → record { clause = f.clause + 1; count = v.count; letters = letters; values = values } ≡ reason_bytes (reason_at sheet p f)
  unfolding variables_in
  reason-shown letters e values z =
      let k : f.clause + 1 ≡ suc f.clause = add-one f.clause in
      let n : v.count ≡ length (reason_at sheet p f).letters = own-count sheet p h.accepted f.clause w of held v placed in
      let x : letters ≡ eight (map (λ x. 65 + x) (reason_at sheet p f).letters) =
      e (letters_of (words_in w)) (letters-below w.words w.count (codes-below sheet p h.accepted f.clause w of held)) placed
      ∙ ap (λ (xs : List ℕ). eight (map (λ x. 65 + x) xs)) (own-variables sheet p h.accepted f.clause w of held) in
      cc

module _ (sheet : List ℕ) (p : Problem) (cells : List ℕ) (s : ℕ) (o : rust.Option Failure) (e : failure_in o ≡ judged_in sheet p cells s) where
  told : (r : rust.Option Failure) → o ≡ r → judged_in sheet p cells s ≡ failure_in r
  told r t = sym e ∙ ap failure_in t

  -- nothing fails
  unexplained : o ≡ None → ReasoningCall (answer (reason_for sheet p cells s)) (Ok None)
  unexplained t = rw (told None t) (record { answer = refl; beside = refl })

  module _ (h : CellsLent sheet p cells s) (f : Failure) (t : o ≡ Some f) where
    -- a clause fails under a choice for its variables
    pub failure-held : FailureHeld sheet p f
    failure-held =
        let c : Clause = get_or (problem_in sheet p).clauses f.clause [] in
        let I : Interpretation = interpretation s (problem_in sheet p).symbols (cells_of sheet p cells s) in
        let r = judged-some s (problem_in sheet p).symbols (problem_in sheet p).clauses (cells_of sheet p cells s) (record { clause = f.clause; choice = digits_in f.values }) (told (Some f) t) in
        let first = first-choice s (length (variables c)) (λ v. not (clause_true I (assign (variables c) v) c)) (digits_in f.values) r.1 in
        record {
          accepted = h.accepted;
          clause = omega (arith, r.0, clause-count sheet p h.accepted);
          counted = first.0;
          below = all_below-within s 8 (digits_in f.values) h.size first.1;
        }

    reason-given : (q : declared.Reason) → q ≡ reason_bytes (reason_at sheet p f) → ReasoningCall (answer (reason_for sheet p cells s)) (Ok (Some q))
    reason-given q z =
        let u : reason_for sheet p cells s ≡ some (reason_at sheet p f) = ap (reason_of (problem_in sheet p).clauses) (told (Some f) t) in
        rw (u, z) (record { answer = ap (λ (q : Reason). answer (some q)) (reason-said (reason_at sheet p f) failure-held.counted); beside = refl })

  -- the reason of the failure, if there is one
  pub reasoned : CellsLent sheet p cells s → (P : Failure → declared.Reason → Type 0) → ((f : Failure) (q : declared.Reason) → P f q → q ≡ reason_bytes (reason_at sheet p f)) → (r : rust.Option declared.Reason)
      → MatchOption o (r ≡ None) (λ f. IsSomeAnd r (P f)) → ReasoningCall (answer (reason_for sheet p cells s)) (Ok r)
  reasoned h P gives r m = go o refl m
    where
      some_reason : (f : Failure) → o ≡ Some f → (r : rust.Option declared.Reason) → IsSomeAnd r (P f) → ReasoningCall (answer (reason_for sheet p cells s)) (Ok r)
      some_reason f t None k = absurd k
      some_reason f t (Some q) k = reason-given h f t q (gives f q k)

      go : (o' : rust.Option Failure) → o ≡ o' → MatchOption o' (r ≡ None) (λ f. IsSomeAnd r (P f)) → ReasoningCall (answer (reason_for sheet p cells s)) (Ok r)
      go None t k = rw k (unexplained t)
      go (Some f) t k = some_reason f t r k
