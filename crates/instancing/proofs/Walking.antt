-- The instances under the choices before one, and of the clauses before one, taken.
use Prim.Native.Nat.{ℕ, ◌+◌, ◌^◌, ◌<◌}
use mathlib.Core.Path.{◌≡◌, refl, sym, ap, ◌∙◌}
use mathlib.Core.List.{List, []}
use native.Mathlib.Omega.{arith}
use lib.ListN.{get_or, take}
use Rattle.theory.specs.Lists.{concat_map, up_to}
use Rattle.theory.specs.Vectors.{vectors}
use Rattle.theory.specs.Flattening.{flatten}
use Rattle.theory.specs.Propositional.{PropClause}
use Rattle.theory.specs.Instances.{instances, kept}
use Rattle.theory.proofs.Vectors.{length-vectors}
use Rattle.syntax.specs.declared.limits.Problem.{Problem}
use Rattle.interpretation.specs.declared.vector.ArgumentVector.{ArgumentVector}
use Rattle.problem.specs.Problems.{problem_in, Accepted}
use Rattle.stream.specs.Consuming.{Effect, Consumes, Consumed}
use Rattle.stream.proofs.Streams.{consumes-same, consumed-same, begun-consumed, next-consumes, more-consumed, all-consumed}
use Rattle.forms.specs.LinearForms.{form_instance}
use Rattle.problem.proofs.Counted.{clause-count}
use Rattle.instancing.specs.Choices.{ChoiceAt}
use Rattle.instancing.specs.ClauseForms.{FormsOf, instance_under, all_instances}
use Rattle.instancing.specs.InstancePart.{instances_of, instance_part}
use Rattle.instancing.proofs.Counting.{by-places}

module _ {S : Type 0} (effect : Effect S) (x : S) where
  module _ {s n count : ℕ} {fs : List ℕ} (o : FormsOf s n count fs) where
    -- the instance under choice i
    abbrev pub choice_instance : ℕ → List PropClause
    choice_instance i = instance_under o (get_or (vectors s n) i [])

    whole : all_instances o ≡ concat_map choice_instance (up_to (s ^ n))
    whole = by-places (instance_under o) [] (vectors s n) ∙ ap (λ (m : ℕ). concat_map choice_instance (up_to m)) (length-vectors s n)

    -- the instances under the first i choices are taken
    abbrev pub ChoicesTaken : ℕ → S → Type 0
    ChoicesTaken i y = Consumed effect (concat_map choice_instance (up_to i)) x y

    pub no-choice : ChoicesTaken 0 x
    no-choice = begun-consumed effect choice_instance 0 (s ^ n) x 0 refl

    module _ (a : ArgumentVector) (i : ℕ) (c : ChoiceAt s n a i) (h : i < s ^ n) where
      under : choice_instance i ≡ kept (form_instance a.digits count fs)
      under =
          ap (instance_under o) (sym (c.chosen h) ∙ ap (λ (m : ℕ). take m a.digits) c.count)
          ∙ ap kept (o.linear a.digits)

      pub choice-consumes : (y : S) → Consumes effect (all_instances o) x → ChoicesTaken i y → Consumes effect (kept (form_instance a.digits count fs)) y
      choice-consumes y p q =
          consumes-same effect (choice_instance i) (kept (form_instance a.digits count fs)) y under
          (next-consumes effect choice_instance 0 (s ^ n) x i i y h (omega arith) (consumes-same effect (all_instances o) (concat_map choice_instance (up_to (s ^ n))) x whole p) q)

      pub choice-consumed : (y z : S) → ChoicesTaken i y → Consumed effect (kept (form_instance a.digits count fs)) y z → ChoicesTaken (i + 1) z
      choice-consumed y z p q =
          more-consumed effect choice_instance 0 (s ^ n) x i (i + 1) i y z (omega arith) (omega arith) p
          (consumed-same effect (kept (form_instance a.digits count fs)) (choice_instance i) y z (sym under) q)

    pub all-choices : (i : ℕ) (y : S) → i ≡ s ^ n → ChoicesTaken i y → Consumed effect (all_instances o) x y
    all-choices i y e p =
        consumed-same effect (concat_map choice_instance (up_to (s ^ n))) (all_instances o) x y (sym whole) (all-consumed effect choice_instance 0 (s ^ n) x i y e p)

  module _ (size : ℕ) (sheet : List ℕ) (p : Problem) where
    -- the instances of the first k clauses are taken
    abbrev pub ClausesTaken : ℕ → S → Type 0
    ClausesTaken k y = Consumed effect (concat_map (instances_of size (problem_in sheet p)) (up_to k)) x y

    pub no-clause : ClausesTaken 0 x
    no-clause = begun-consumed effect (instances_of size (problem_in sheet p)) 0 p.count x 0 refl

    pub clause-consumed : (k : ℕ) (y z : S) → ClausesTaken k y → Consumed effect (instances_of size (problem_in sheet p) k) y z → ClausesTaken (k + 1) z
    clause-consumed k y z q r = more-consumed effect (instances_of size (problem_in sheet p)) 0 p.count x k (k + 1) k y z (omega arith) (omega arith) q r

    module _ (h : Accepted sheet p) where
      every-clause : instance_part size (problem_in sheet p) ≡ concat_map (instances_of size (problem_in sheet p)) (up_to p.count)
      unfolding instance_part instances_of
      every-clause =
          by-places (λ c. instances size (problem_in sheet p).symbols (flatten c)) [] (problem_in sheet p).clauses
          ∙ ap (λ (m : ℕ). concat_map (instances_of size (problem_in sheet p)) (up_to m)) (clause-count sheet p h)

      pub clause-consumes : (k : ℕ) (y : S) → k < p.count → Consumes effect (instance_part size (problem_in sheet p)) x → ClausesTaken k y → Consumes effect (instances_of size (problem_in sheet p) k) y
      clause-consumes k y l q r =
          next-consumes effect (instances_of size (problem_in sheet p)) 0 p.count x k k y l (omega arith)
          (consumes-same effect (instance_part size (problem_in sheet p)) (concat_map (instances_of size (problem_in sheet p)) (up_to p.count)) x every-clause q) r

      pub all-clauses : (k : ℕ) (y : S) → k ≡ p.count → ClausesTaken k y → Consumed effect (instance_part size (problem_in sheet p)) x y
      all-clauses k y e q =
          consumed-same effect (concat_map (instances_of size (problem_in sheet p)) (up_to p.count)) (instance_part size (problem_in sheet p)) x y (sym every-clause)
          (all-consumed effect (instances_of size (problem_in sheet p)) 0 p.count x k y e q)
