-- The instances that forms give.
use Rattle.std.specs.Prelude.{ℕ, ◌≡◌, List, [], take}
use Rattle.theory.specs.Lists.{concat_map}
use Rattle.theory.specs.Vectors.{vectors}
use Rattle.theory.specs.Syntax.{Signature}
use Rattle.theory.specs.Flattening.{FlatLiteral}
use Rattle.theory.specs.Propositional.{PropClause}
use Rattle.theory.specs.Instances.{flat_value, instance, kept}
use Rattle.stream.specs.Consuming.{Effect, Consumes, Consumed}
use Rattle.forms.specs.LinearForms.{form_instance}

-- so many forms are of shallow literals over n variables; values past those of the variables do not count
pub record FormsOf (s n count : ℕ) (fs : List ℕ) : Type 0 where
  pub signature : Signature
  pub literals : List FlatLiteral
  pub linear : (v : List ℕ) → instance s signature (flat_value [] (take n v)) literals ≡ form_instance v count fs

-- the instance under the values v, if it is kept
abbrev pub instance_under : {s n count : ℕ} {fs : List ℕ} → FormsOf s n count fs → List ℕ → List PropClause
instance_under {s = s} o v = kept (instance s o.signature (flat_value [] v) o.literals)

-- the instances under all choices, the last value fastest
abbrev pub all_instances : {s n count : ℕ} {fs : List ℕ} → FormsOf s n count fs → List PropClause
all_instances {s = s} {n = n} o = concat_map (instance_under o) (vectors s n)

-- at x, these instances come next, of literals of which so many forms are
abbrev pub FormsNext : {S : Type 0} → Effect S → ℕ → ℕ → ℕ → List ℕ → S → Type 0
FormsNext effect s n count fs x = (o : FormsOf s n count fs) × Consumes effect (all_instances o) x

-- from x to y, they were taken, of whatever literals the forms are
abbrev pub FormsTaken : {S : Type 0} → Effect S → ℕ → ℕ → ℕ → List ℕ → S → S → Type 0
FormsTaken effect s n count fs x y = (o : FormsOf s n count fs) → Consumed effect (all_instances o) x y

-- at x, the instance of so many forms under some values comes next, unless it is dropped
abbrev pub InstanceNext : {S : Type 0} → Effect S → List ℕ → ℕ → List ℕ → S → Type 0
InstanceNext effect values count fs x = Consumes effect (kept (form_instance values count fs)) x

-- from x to y, it was taken
abbrev pub InstanceTaken : {S : Type 0} → Effect S → List ℕ → ℕ → List ℕ → S → S → Type 0
InstanceTaken effect values count fs x y = Consumed effect (kept (form_instance values count fs)) x y
