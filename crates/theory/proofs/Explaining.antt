-- The theorem Explaining: the reason given is the first failure, and there is none exactly when Judge says yes.
use Prim.Native.Nat.{ℕ, zero, suc, ◌≤◌, ◌<◌}
use mathlib.Core.Path.{◌≡◌, refl, sym, ap, subst}
use mathlib.Core.Bool.{Bool, true, false, not, false≢true}
use mathlib.Core.Option.{Option, none, some, some-injective}
use mathlib.Core.List.{List, []}
use native.Mathlib.Omega.{arith}
use lib.ListN.{length, get_or}
use Rattle.theory.specs.Syntax.{Clause, variables}
use Rattle.theory.specs.Truth.{Interpretation, clause_true, assign, Failure, no_failure}
use Rattle.theory.specs.Cells.{interpretation, judged, is_model}
use Rattle.theory.specs.Refusals.{Refusal, Answer, answer, refused, ◌>>=◌}
use Rattle.theory.specs.Problem.{Problem}
use Rattle.theory.specs.CaseText.{Case}
use Rattle.theory.specs.Columns.{placed_problem, placed_case}
use Rattle.theory.specs.Operations.{judge_answer, Reason, reason_of, explain_answer}
use Rattle.theory.specs.Claims.Truth.{Valid}
use Rattle.theory.specs.Claims.Explaining.{appearances, clause_number, FirstFailing, ExplainingHolds}
use Rattle.theory.proofs.Tests.{true_of_not}
use Rattle.theory.proofs.Answers.{answer-inj, answer≢refused, unbind, unrefused, bind-step, bind-refused}
use Rattle.theory.proofs.Truth.{is_valid, judged-some, is_valid→Valid, failing_choice-false}
use Rattle.theory.proofs.Appearances.{distinct-exactly, distinct-in-order}
use Rattle.theory.proofs.FirstChoice.{first-choice, choices-before}

-- there is a reason exactly if there is a failure
module _ (cs : List Clause) where
  reason-none : (o : Option Failure) → reason_of cs o ≡ none → no_failure o ≡ true
  reason-none none e = refl
  reason-none (some f) e = cc

  none-reason : (o : Option Failure) → no_failure o ≡ true → reason_of cs o ≡ none
  none-reason none e = refl
  none-reason (some f) e = absurd (false≢true e)

  reason-some : (o : Option Failure) (q : Reason) → reason_of cs o ≡ some q → no_failure o ≡ false
  reason-some none q e = cc
  reason-some (some f) q e = refl

  some-reason : (o : Option Failure) → no_failure o ≡ false → (q : Reason) × (reason_of cs o ≡ some q)
  some-reason none e = absurd (false≢true (sym e))
  some-reason (some f) e = (_, refl)

-- the reason that a failure is shows the first
module _ (p : Problem) (k : Case) where
  abbrev I : Interpretation
  I = interpretation k.size p.symbols k.values

  failure-first : (f : Failure) → judged k.size p.symbols p.clauses k.values ≡ some f
      → FirstFailing p k (record { clause = suc f.clause; letters = variables (get_or p.clauses f.clause []); values = f.choice })
  failure-first f e =
      let c : Clause = get_or p.clauses f.clause [] in
      let r = judged-some k.size p.symbols p.clauses k.values f e in
      let fails : List ℕ → Bool = λ v. not (clause_true I (assign (variables c) v) c) in
      let first = first-choice k.size (length (variables c)) fails f.choice r.1 in
      record {
        from-1 = omega arith;
        among = r.0;
        appear = λ x. distinct-exactly x (appearances c);
        ordered = distinct-in-order (appearances c);
        choice = record { counted = first.0; elements = first.1 };
        fails = failing_choice-false I k.size c f.choice r.1;
        clauses-before = earlier r.2;
        choices-before = λ v h b. true_of_not (clause_true I (assign (variables c) v) c) (choices-before k.size (length (variables c)) fails f.choice r.1 v h.counted h.elements b);
      }
    where
      earlier : ((j : ℕ) → j < f.clause → is_valid I k.size (get_or p.clauses j []) ≡ true) → (n : ℕ) → 1 ≤ n → n < suc f.clause → Valid I k.size (clause_number p n)
      earlier h zero l m = absurd (omega arith)
      earlier h (suc n) l m = is_valid→Valid I k.size (get_or p.clauses n []) (h n (omega arith))

  reason-first : (o : Option Failure) → judged k.size p.symbols p.clauses k.values ≡ o → (q : Reason) → reason_of p.clauses o ≡ some q → FirstFailing p k q
  reason-first none e q h = let z : ◌≡◌ {A = ℕ} 0 1 = cc in absurd (omega arith)
  reason-first (some f) e q h = subst (FirstFailing p k) (some-injective _ q h) (failure-first f e)

-- both calls read sheet and case, and then answer of the two
module _ (sheet case : List ℕ) where
  abbrev then : {B : Type 0} → (Problem → Case → B) → Problem → Answer B
  then f p = placed_case p.symbols case >>= (λ k. answer (f p k))

  abbrev both : {B : Type 0} → (Problem → Case → B) → Answer B
  both f = placed_problem sheet >>= then f

  same-refusal : {B C : Type 0} (f : Problem → Case → B) (h : Problem → Case → C) (r : Refusal) → both f ≡ refused r → both h ≡ refused r
  same-refusal f h r e =
      unrefused (placed_problem sheet) (then f) r e (λ q. bind-refused (placed_problem sheet) (then h) r q)
      (λ p q n. unrefused (placed_case p.symbols case) (λ k. answer (f p k)) r n
      (λ m. bind-step (placed_problem sheet) (then h) p (refused r) q (bind-refused (placed_case p.symbols case) (λ k. answer (h p k)) r m))
      (λ k m z. absurd (answer≢refused (f p k) r z)))

  module _ {B D : Type 0} (f : Problem → Case → B) (b : B) (e : both f ≡ answer b) where
    -- an answer is of the problem and the case that were read
    answered : ((p : Problem) (k : Case) → placed_problem sheet ≡ answer p → placed_case p.symbols case ≡ answer k → f p k ≡ b → D) → D
    answered go = unbind (placed_problem sheet) (then f) b e (λ p q n. unbind (placed_case p.symbols case) (λ k. answer (f p k)) b n (λ k m z. go p k q m (answer-inj (f p k) b z)))

  answers : {C : Type 0} (h : Problem → Case → C) (p : Problem) (k : Case) (c : C) → placed_problem sheet ≡ answer p → placed_case p.symbols case ≡ answer k → h p k ≡ c → both h ≡ answer c
  answers h p k c q m z = bind-step (placed_problem sheet) (then h) p (answer c) q (bind-step (placed_case p.symbols case) (λ k. answer (h p k)) k (answer c) m (ap answer z))

pub explaining : ExplainingHolds
unfolding explain_answer judge_answer is_model
explaining sheet case =
    record {
      refuses = λ r. (same-refusal sheet case why fits r, same-refusal sheet case fits why r);
      yes = (
        λ e. answered sheet case why none e (λ p k q m z. answers sheet case fits p k true q m (reason-none p.clauses (failed p k) z)),
        λ e. answered sheet case fits true e (λ p k q m z. answers sheet case why p k none q m (none-reason p.clauses (failed p k) z)),
      );
      no = (
        λ e. answered sheet case why (some e.0) e.1 (λ p k q m z. answers sheet case fits p k false q m (reason-some p.clauses (failed p k) e.0 z)),
        λ e. answered sheet case fits false e (λ p k q m z. let r = some-reason p.clauses (failed p k) z in (r.0, answers sheet case why p k (some r.0) q m r.1)),
      );
      reason = λ r e. answered sheet case why (some r) e (λ p k q m z. record { problem = p; read = q; values = k; case-read = m; first = reason-first p k (failed p k) refl r z });
    }
  where
    failed : Problem → Case → Option Failure
    failed p k = judged k.size p.symbols p.clauses k.values

    why : Problem → Case → Option Reason
    why p k = reason_of p.clauses (failed p k)

    fits : Problem → Case → Bool
    fits p k = is_model k.size p.symbols p.clauses k.values
